-- What a desk keeps is that its memory holds its game; and memory that was lent comes back as it was left.
use Rattle.std.proofs.Common.{◌≡◌, ℕ, List, ◌++◌, length, take, drop, sym, ap, subst}
use Rattle.std.proofs.lemmas.List.{take_at}
use Rattle.hexboard.specs.Games as games
use Rattle.history.specs.Holds.{Memory, lent, formal, Holds}
use Rattle.history.specs.declared.game.Game.{Game}
use Rattle.session.specs.Keeps.{Fair, Written, Grouped}
use Rattle.session.specs.Short.{Short}
use Rattle.session.specs.Desks.{memory_of}
use Rattle.session.specs.declared.desk.Desk.{Desk}

-- the parts of the fact, put together
holds_from : (g : Game) (m : Memory) → Fair g m → Written g m → Grouped g m → Holds g m
holds_from g m f w p = record {
  all = f.0;
  played = record { legal = f.1; before = λ k l. (f.2 k l, f.3 k l) };
  kept = record {
    stones_are = w.0;
    log_is = w.1;
    log_long = w.2;
    groups_are = λ i. record { parents = p.0 i; borders = p.1 i };
    parents_long = p.2;
  };
  winner = p.3;
}

-- a desk's memory holds its game
pub desk_holds : (d : Desk) → Holds d.game (memory_of d)
desk_holds d = holds_from d.game (memory_of d) d.fair d.written d.grouped

-- and taken apart, as a desk has it
abbrev pub KeptBy : Game → Memory → Type 0
KeptBy g m = Fair g m × (Written g m × (Grouped g m × Unit {0}))

pub kept_in : (g : Game) (m : Memory) → Holds g m → KeptBy g m
kept_in g m h = (
  (h.all, h.played.legal, (λ k l. (h.played.before k l).0), (λ k l. (h.played.before k l).1)),
  (
    (h.kept.stones_are, h.kept.log_is, h.kept.log_long),
    ((ap (λ f. f.parents) h.kept.groups_are, ap (λ f. f.borders) h.kept.groups_are, h.kept.parents_long, h.winner), tt),
  ),
)

-- what a vector holds, of which all was lent and left as it is now
abbrev pub whole : List ℕ → List ℕ → ℕ → List ℕ
whole left items len = take len (left ++ drop (length left) items)

pub given_back : (left items : List ℕ) (len : ℕ) → length left ≡ len → left ≡ whole left items len
given_back left items len e = sym (take_at left _ len e)

-- four vectors were lent as the parts of the memory
pub memory_back : (a b c d a₀ b₀ c₀ d₀ : List ℕ) (i j k l : ℕ) → length a ≡ i → length b ≡ j → length c ≡ k → length d ≡ l →
    lent a b c d ≡ lent (whole a a₀ i) (whole b b₀ j) (whole c c₀ k) (whole d d₀ l)
memory_back a b c d a₀ b₀ c₀ d₀ i j k l p q r s = λ t. lent (given_back a a₀ i p t) (given_back b b₀ j q t) (given_back c c₀ k r t) (given_back d d₀ l s t)

-- a short answer, and a right one, with the memories and the way's bytes named otherwise
pub short_as : (g : Game) (m m₀ : Memory) (answer : List ℕ → games.Answer) (way way₀ : List ℕ) → m ≡ m₀ → way ≡ way₀ → Short (formal g m).board (answer way) → Short (formal g m₀).board (answer way₀)
short_as g m m₀ answer way way₀ p r = subst (λ x. x) (λ i. Short (formal g (p i)).board (answer (r i)))

pub right_as : (g h : Game) (m m₀ k k₀ : Memory) (call : games.Call) (answer : List ℕ → games.Answer) (way way₀ : List ℕ) → m ≡ m₀ → k ≡ k₀ → way ≡ way₀ →
    games.Right (formal g m) call (answer way) (formal h k) → games.Right (formal g m₀) call (answer way₀) (formal h k₀)
right_as g h m m₀ k k₀ call answer way way₀ p q r = subst (λ x. x) (λ i. games.Right (formal g (p i)) call (answer (r i)) (formal h (q i)))
