-- The moves tell every byte, and a move that is made and taken back leaves every byte as it was.
use Rattle.std.proofs.Common.{◌≡◌, ℕ, ◌*◌, ◌<◌, true, List, length, sym, refl, ap, ◌∙◌, subst, arith}
use Rattle.std.proofs.lemmas.Bool.Decides.{nat_tests}
use Rattle.hexboard.specs.Board.{at}
use Rattle.hexboard.specs.Games as games
use Rattle.groups.specs.Stones.{is_free}
use Rattle.groups.specs.Moves.{stones_of, board_of}
use Rattle.hexboard.proofs.TwoBytes.{same_bytes}
use Rattle.groups.proofs.Positions.{board_wide}
use Rattle.groups.proofs.InTurn.{legal_push}
use Rattle.groups.proofs.Theorems.{kept_once}
use Rattle.history.specs.Played.{Kept}
use Rattle.history.specs.Holds.{Memory, lent, moves_in, formal}
use Rattle.history.specs.Laws.{InBytes, MovesTell, BackToTheByte}
use Rattle.history.proofs.Turns.{game_push, game_back}

-- memory that holds these moves on a board n wide
record Told (n : ℕ) (ms : List ℕ) (m : Memory) : Type 0 where
  kept : Kept n ms m.stones m.log m.parents m.borders
  bytes : InBytes m

same_memory : (n : ℕ) (ms : List ℕ) (m k : Memory) → Told n ms m → Told n ms k → m ≡ k
same_memory n ms m k p q =
    let stones = p.kept.stones_are ∙ sym q.kept.stones_are in
    let log = same_bytes (n * n) m.log k.log p.kept.log_long q.kept.log_long p.bytes.log q.bytes.log (p.kept.log_is ∙ sym q.kept.log_is) in
    let (parents, borders) = kept_once n (stones_of ms) m.parents m.borders k.parents k.borders (record { many = p.kept.parents_long; small = p.bytes.parents })
    (record { many = q.kept.parents_long; small = q.bytes.parents }) p.kept.groups_are q.kept.groups_are in
    λ i. lent (stones i) (log i) (parents i) (borders i)

pub moves_tell : MovesTell
moves_tell g h m k bm bk p q e =
    let n : g.size.n ≡ h.size.n = sym (board_wide g.size.n (stones_of (moves_in g m))) ∙ (ap (λ f. f.board.wide) e ∙ board_wide h.size.n (stones_of (moves_in h k))) in
    let ms : moves_in g m ≡ moves_in h k = ap (λ f. f.moves) e in
    same_memory h.size.n (moves_in h k) m k
    (subst (λ j. Told j (moves_in h k) m) n (subst (λ (xs : List ℕ). Told g.size.n xs m) ms (record { kept = p.kept; bytes = bm }))) (record { kept = q.kept; bytes = bk })

-- what a move and a take-back that were answered by a number have led to
made_then : {g h : games.Game} {c : games.Call} {a : games.Answer} → games.Right g c a h → (x n : ℕ) → c ≡ games.moves x → a ≡ games.number n →
    (h ≡ games.after g (games.moves x)) × (x < length g.board.cells) × (at g.board x ≡ 0)
made_then (games.no_cell p) x n e f = absurd cc
made_then (games.is_over p w) x n e f = absurd cc
made_then (games.taken p w q) x n e f = absurd cc
made_then {g} (games.made {i = i} p w q) x n e f =
    let same : i ≡ x = cc in (ap (λ j. games.after g (games.moves j)) same, subst (λ j. j < length g.board.cells) same p, subst (λ j. at g.board j ≡ 0) same q)
made_then (games.none_made p) x n e f = absurd cc
made_then (games.gone_back p) x n e f = absurd cc
made_then (games.by_way s w p q r) x n e f = absurd cc
made_then (games.nobody w) x n e f = absurd cc
made_then (games.forced i p w q r) x n e f = absurd cc
made_then (games.has_it c) x n e f = absurd cc
made_then (games.not_forced p) x n e f = absurd cc
made_then (games.many p w) x n e f = absurd cc

back_then : {g h : games.Game} {c : games.Call} {a : games.Answer} → games.Right g c a h → (n : ℕ) → c ≡ games.back → a ≡ games.number n → h ≡ games.after g games.back
back_then (games.no_cell p) n e f = absurd cc
back_then (games.is_over p w) n e f = absurd cc
back_then (games.taken p w q) n e f = absurd cc
back_then (games.made p w q) n e f = absurd cc
back_then (games.none_made p) n e f = absurd cc
back_then (games.gone_back p) n e f = refl
back_then (games.by_way s w p q r) n e f = absurd cc
back_then (games.nobody w) n e f = absurd cc
back_then (games.forced i p w q r) n e f = absurd cc
back_then (games.has_it c) n e f = absurd cc
back_then (games.not_forced p) n e f = absurd cc
back_then (games.many p w) n e f = absurd cc

pub back_to_the_byte : BackToTheByte
back_to_the_byte g h j m k l x a b bm bl held-now there back =
    let n = g.size.n in
    let ms = moves_in g m in
    let (made, on, bare) = made_then there.right x a refl refl in
    let free : is_free (board_of n ms) x ≡ true = grind (arith, nat_tests) in
    let again : formal j l ≡ formal g m =
    back_then back.right b refl refl ∙ (ap (λ f. games.after f games.back) (made ∙ game_push n ms x free) ∙ game_back n ms x (legal_push n ms x held-now.played.legal free)) in
    moves_tell j g l m bl bm back.holds held-now again
