-- A move is taken back: what the game and the memory are afterwards, and that this is right. And a new game.
use Rattle.std.proofs.Common.{◌≡◌, ℕ, ◌+◌, ◌-◌, ◌*◌, ◌/◌, ◌<◌, true, List, [], ◌∷◌, ◌++◌, length, get_or, take, set, replicate, is_some, Some, None, Option, sym, refl, ap, ◌∙◌, subst, ⊎_elim, arith, if◌then◌else◌}
use Rattle.std.proofs.lemmas.List.{length_push, length-replicate, length-take-le, take_more, take-set}
use Rattle.std.proofs.lemmas.Bool.{cases_eq, lt-ltb}
use Rattle.hexboard.specs.Board.{all_cells}
use Rattle.hexboard.specs.Games as games
use Rattle.hexboard.specs.Words.{words, word_of}
use Rattle.hexboard.proofs.Boards.{all_cells_replicate}
use Rattle.hexboard.proofs.TwoBytes.{words_length, words_cleared}
use Rattle.groups.specs.Forest.{held}
use Rattle.groups.specs.Moves.{board_of, forest_of, Legal}
use Rattle.groups.proofs.Positions.{legal_none}
use Rattle.groups.specs.Meaning.{Open}
use Rattle.groups.proofs.Theorems.{neither}
use Rattle.history.specs.Played.{game_of, Played, winner_of, Kept}
use Rattle.history.specs.Holds.{won_by, Memory, moves_in, formal, Holds, Served}
use Rattle.history.specs.declared.game.Game.{Game}
use Rattle.history.proofs.Keeping.{played_less, kept_less}
use Rattle.history.proofs.Serving.{holds_by}
use Rattle.history.proofs.Turns.{game_back, winner_won, open_before}

-- where nobody has connected nobody has won
pub open_none : (n : ℕ) (ms : List ℕ) → Played n ms → Open (board_of n ms) → winner_of n ms ≡ 0
open_none n ms h free =
    ⊎_elim (λ e. e)
    (λ some.
    let told = winner_won n ms h (winner_of n ms) refl some in
    absurd (neither (board_of n ms) (winner_of n ms) free told.1 told.0))
    (cases_eq (winner_of n ms) 0)

-- there is no move in a game that has none
pub right_none_made : (g : Game) (m : Memory) → Holds g m → g.count ≡ 0 → games.Right (formal g m) games.back (games.refused 6 0) (formal g m)
right_none_made g m h e = games.none_made (ap (λ k. take k (words m.log)) e)

module _ (g : Game) (m : Memory) (now-held : Holds g m) (last : ℕ) (one : last + 1 ≡ g.count) where
  abbrev n : ℕ
  n = g.size.n

  -- the moves before the last, and the last
  abbrev ks : List ℕ
  ks = take last (words m.log)

  abbrev x : ℕ
  x = get_or (words m.log) last 0

  in_log : last < length (words m.log)
  in_log = omega (arith, words_length m.log, now-held.kept.log_long, g.few)

  moves_are : moves_in g m ≡ ks ++ x ∷ []
  moves_are = ap (λ k. take k (words m.log)) (sym one) ∙ take_more (words m.log) last 0 in_log

  played_now : Played n (ks ++ x ∷ [])
  played_now = subst (Played n) moves_are now-held.played

  pub legal_now : Legal n (ks ++ x ∷ [])
  legal_now = played_now.legal

  pub groups_now : held m.parents m.borders ≡ forest_of n (ks ++ x ∷ [])
  groups_now = now-held.kept.groups_are ∙ ap (λ (xs : List ℕ). forest_of n xs) moves_are

  -- the last move is there to be read
  last_word : word_of m.log last ≡ Some x
  last_word = ap (λ t. if t then Some x else None) (lt-ltb last (length (words m.log)) in_log)

  pub last_there : (o : Option ℕ) → o ≡ word_of m.log last → is_some o ≡ true
  last_there o e = ap is_some (e ∙ last_word)

  pub last_is : (o : Option ℕ) (cell : ℕ) → o ≡ word_of m.log last → o ≡ Some cell → cell ≡ x
  last_is o cell e f = let z : Some cell ≡ Some x = sym f ∙ (e ∙ last_word) in cc

  -- a move less is the right answer to a take-back
  right_back : (j : ℕ) → j ≡ last → games.Right (formal g m) games.back (games.number j) (game_of n ks)
  right_back j e =
      let G = game_of n (ks ++ x ∷ []) in
      let long = length-take-le last (words m.log) (omega (arith, in_log)) in
      let some : G.moves ≡ [] → ⊥ = λ none. omega (arith, ap length none, length_push ks x) in
      let told : length (ks ++ x ∷ []) - 1 ≡ j = omega (arith, length_push ks x) in
      subst (λ f. games.Right f games.back (games.number j) (game_of n ks)) (λ i. game_of n (sym moves_are i))
      (subst (λ v. games.Right G games.back (games.number v) (game_of n ks)) told
      (subst (games.Right G games.back (games.number (length (ks ++ x ∷ []) - 1))) (game_back n ks x legal_now) (games.gone_back some)))

  pub served_back : (h : Game) (k : Memory) → h.size ≡ g.size → h.count ≡ last → won_by h.winner ≡ 0 →
      k.stones ≡ set m.stones x 0 → words k.log ≡ set (words m.log) last 0 → length k.log ≡ length m.log →
      held k.parents k.borders ≡ forest_of n ks → length k.parents ≡ length m.parents →
      Served g m games.back (games.number h.count) h k
  served_back h k size count none stones wrote log-same lifted parents-same =
      let long = length-take-le last (words m.log) (omega (arith, in_log)) in
      let moves : moves_in h k ≡ ks =
      ap (λ j. take j (words k.log)) count ∙ (ap (take last) wrote ∙ take-set (words m.log) last 0) in
      let before = played_less n ks x played_now in
      record {
        right =
            subst (games.Right (formal g m) games.back (games.number h.count)) (λ i. game_of (sym size i).n (sym moves i)) (right_back h.count count);
        holds =
            holds_by h k n ks (ap (λ z. z.n) size) moves (long ∙ sym count) before
            (subst (λ (cs : List ℕ). Kept n ks cs k.log k.parents k.borders) (sym stones)
            (kept_less n ks x m.stones m.log m.parents m.borders k.log k.parents k.borders
            (subst (λ (xs : List ℕ). Kept n xs m.stones m.log m.parents m.borders) moves_are now-held.kept) legal_now
            (wrote ∙ ap (λ j. set (words m.log) j 0) (sym long)) log-same lifted parents-same))
            (none ∙ sym (open_none n ks before (open_before n ks x played_now)));
        same_size = size;
      }

-- cleared memory holds every game by value without moves
pub new_held : (n : ℕ) (g : Game) (m : Memory) → g.size.n ≡ n → g.count ≡ 0 → won_by g.winner ≡ 0 → m.stones ≡ all_cells (n * n) →
    m.log ≡ replicate (n * n * 2) 0 → held m.parents m.borders ≡ forest_of n [] → length m.parents ≡ n * n * 2 →
    Holds g m × (formal g m ≡ games.new_game n)
new_held n g m size none nobody stones log groups parents =
    let moves : moves_in g m ≡ [] = ap (λ k. take k (words m.log)) none in
    let all : n * n - 0 ≡ n * n = omega arith in
    let half : n * n * 2 / 2 ≡ n * n = omega arith in (
      holds_by g m n [] size moves (sym none) (record { legal = legal_none n; before = λ k l. absurd (omega arith) })
          (record {
            stones_are = stones;
            log_is = ap words log ∙ (words_cleared (n * n * 2) ∙ ap (λ k. replicate k 0) half ∙ (all_cells_replicate (n * n) ∙ ap all_cells (sym all)));
            log_long = ap length log ∙ length-replicate (n * n * 2) 0;
            groups_are = groups;
            parents_long = parents;
          }) nobody,
      λ i. game_of (size i) (moves i),
    )
