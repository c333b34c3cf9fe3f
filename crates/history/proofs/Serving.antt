-- Each answer to a move and to a take-back is the right one by the rules.
use Rattle.std.proofs.Common.{◌≡◌, ℕ, ◌+◌, ◌*◌, ◌%◌, ◌<◌, ◌≤◌, Bool, true, false, eqb, ◌≢◌, ◌⊎◌, List, [], ◌∷◌, ◌++◌, length, get_or, take, set, sym, refl, ap, ◌∙◌, subst, arith, if◌then◌else◌}
use Rattle.std.specs.Bool.{then_some}
use Rattle.std.proofs.lemmas.List.{length_push, take_more_set}
use Rattle.std.proofs.lemmas.Bool.Decides.{nat_tests}
use Rattle.hexboard.specs.Board.{at, is_way, Connects}
use Rattle.hexboard.specs.Geometry.{laid}
use Rattle.hexboard.specs.Games as games
use Rattle.hexboard.specs.Sides.{number}
use Rattle.hexboard.specs.Words.{words}
use Rattle.hexboard.specs.declared.side.Side.{Side}
use Rattle.hexboard.proofs.Boards.{number_few}
use Rattle.hexboard.proofs.TwoBytes.{words_length}
use Rattle.groups.specs.Forest.{held}
use Rattle.groups.specs.Stones.{is_free}
use Rattle.groups.specs.Moves.{stones_of, board_of, turn_of, forest_of}
use Rattle.groups.specs.Meaning.{Open}
use Rattle.groups.proofs.Positions.{board_laid}
use Rattle.groups.proofs.Theorems.{neither}
use Rattle.history.specs.Played.{game_of, Played, winner_of, Kept}
use Rattle.history.specs.Holds.{won_by, Memory, moves_in, formal, Holds, Served}
use Rattle.history.specs.declared.game.Game.{Game}
use Rattle.history.proofs.Filling.{room}
use Rattle.history.proofs.Keeping.{played_more, kept_more}
use Rattle.history.proofs.Turns.{game_push, winner_open, winner_won, winner_push}

-- a side is not nobody
pub some_side : (side : Side) → number side ≢ 0
some_side side = omega (arith, number_few side)

-- a side that has won by a test
pub won_then : (t : Bool) (side : Side) → won_by (then_some t side) ≡ (if t then number side else 0)
won_then true side = refl
won_then false side = refl

-- where nobody has connected nobody has won
pub not_won : (g : games.Game) → Open g.board → games.Won g → ⊥
not_won g free (games.won s side c) = neither g.board s free side c

module _ (n : ℕ) (ms stones : List ℕ) (x : ℕ) (h : Played n ms) (are : stones ≡ (board_of n ms).cells) where
  pub right_no_cell : length stones ≤ x → games.Right (game_of n ms) (games.moves x) (games.refused 2 0) (game_of n ms)
  right_no_cell past = games.no_cell (subst (λ (cs : List ℕ). length cs ≤ x) are past)

  pub right_over : x < length stones → (s : ℕ) → winner_of n ms ≡ s → s ≢ 0 → games.Right (game_of n ms) (games.moves x) (games.refused 4 0) (game_of n ms)
  right_over on s e some =
      let told = winner_won n ms h s e some in
      games.is_over (subst (λ (cs : List ℕ). x < length cs) are on) (games.won s told.1 told.0)

  pub right_taken : x < length stones → winner_of n ms ≡ 0 → (get_or stones x 0 ≡ 0 → ⊥) → games.Right (game_of n ms) (games.moves x) (games.refused 5 0) (game_of n ms)
  right_taken on none full =
      games.taken (subst (λ (cs : List ℕ). x < length cs) are on) (not_won (game_of n ms) (winner_open n ms h none))
      (λ e. full (ap (λ (cs : List ℕ). get_or cs x 0) are ∙ e))

  -- a cell that is there and empty is free
  pub cell_free : x < length stones → get_or stones x 0 ≡ 0 → is_free (board_of n ms) x ≡ true
  cell_free on none =
      let there : x < length (board_of n ms).cells = subst (λ (cs : List ℕ). x < length cs) are on in
      let bare : at (board_of n ms) x ≡ 0 = ap (λ (cs : List ℕ). get_or cs x 0) (sym are) ∙ none in
      grind (arith, nat_tests)

  pub right_made : x < length stones → winner_of n ms ≡ 0 → get_or stones x 0 ≡ 0 → (k : ℕ) → length ms ≡ k →
      games.Right (game_of n ms) (games.moves x) (games.number k) (game_of n (ms ++ x ∷ []))
  right_made on none bare k count =
      subst (λ j. games.Right (game_of n ms) (games.moves x) (games.number j) (game_of n (ms ++ x ∷ []))) count
      (subst (games.Right (game_of n ms) (games.moves x) (games.number (length ms))) (game_push n ms x (cell_free on bare))
      (games.made (subst (λ (cs : List ℕ). x < length cs) are on) (not_won (game_of n ms) (winner_open n ms h none)) (ap (λ (cs : List ℕ). get_or cs x 0) (sym are) ∙ bare)))

-- a game by value and a memory that hold what these moves lead to
pub holds_by : (h : Game) (k : Memory) (n : ℕ) (ms : List ℕ) → h.size.n ≡ n → moves_in h k ≡ ms → length ms ≡ h.count → Played n ms →
    Kept n ms k.stones k.log k.parents k.borders → won_by h.winner ≡ winner_of n ms → Holds h k
holds_by h k n ms size moves count p kept won = record {
  all = ap length moves ∙ count;
  played = subst (λ j. Played j (moves_in h k)) (sym size) (subst (Played n) (sym moves) p);
  kept =
      subst (λ j. Kept j (moves_in h k) k.stones k.log k.parents k.borders) (sym size)
      (subst (λ (xs : List ℕ). Kept n xs k.stones k.log k.parents k.borders) (sym moves) kept);
  winner = won ∙ λ i. winner_of (sym size i) (sym moves i);
}

-- A move is made: what the game and the memory are afterwards, and that this is right.
module _ (g : Game) (m : Memory) (held-now : Holds g m) (x : ℕ) where
  abbrev n : ℕ
  n = g.size.n

  abbrev ms : List ℕ
  ms = moves_in g m

  pub played_in : Played n ms
  played_in = held-now.played

  pub stones_in : m.stones ≡ (board_of n ms).cells
  stones_in = held-now.kept.stones_are

  -- nobody has won
  pub nobody : won_by g.winner ≡ 0 → winner_of n ms ≡ 0
  nobody e = sym held-now.winner ∙ e

  -- the side to move, by the number of moves
  pub mover : turn_of ms ≡ (if eqb (g.count % 2) 0 then 1 else 2)
  mover = ap (λ k. if eqb (k % 2) 0 then 1 else 2) held-now.all

  -- there is room in the log for one more
  pub room_in : x < length m.stones → get_or m.stones x 0 ≡ 0 → g.count < n * n
  room_in on bare = subst (λ k. k < n * n) held-now.all (room n ms x played_in.legal (cell_free n ms m.stones x played_in stones_in on bare))

  pub served_made : (h : Game) (k : Memory) → h.size ≡ g.size → h.count ≡ g.count + 1 →
      x < length m.stones → won_by g.winner ≡ 0 → get_or m.stones x 0 ≡ 0 →
      k.stones ≡ set m.stones x (turn_of ms) → words k.log ≡ set (words m.log) g.count x → length k.log ≡ length m.log →
      held k.parents k.borders ≡ forest_of n (ms ++ x ∷ []) → length k.parents ≡ length m.parents →
      won_by h.winner ≡ (if eqb (get_or k.borders x 0 % 4) 3 then turn_of ms else 0) →
      Served g m (games.moves x) (games.number g.count) h k
  served_made h k size count on none bare stones wrote log-same joined parents-same won =
      let is = cell_free n ms m.stones x played_in stones_in on bare in
      let long : g.count < length (words m.log) = omega (arith, words_length m.log, held-now.kept.log_long, room_in on bare) in
      let moves : moves_in h k ≡ ms ++ x ∷ [] =
      ap (λ j. take j (words k.log)) count ∙ (ap (take (g.count + 1)) wrote ∙ take_more_set (words m.log) g.count x long) in
      let now-played = played_more n ms x played_in (nobody none) is in
      let more = kept_more n ms x m.stones m.log m.parents m.borders k.log k.parents k.borders held-now.kept played_in.legal is
      (wrote ∙ ap (λ j. set (words m.log) j x) (sym held-now.all)) log-same joined parents-same in
      record {
        right =
            subst (games.Right (game_of n ms) (games.moves x) (games.number g.count)) (λ i. game_of (sym size i).n (sym moves i))
            (right_made n ms m.stones x played_in stones_in on (nobody none) bare g.count held-now.all);
        holds =
            holds_by h k n (ms ++ x ∷ []) (ap (λ z. z.n) size) moves (length_push ms x ∙ (ap (λ j. j + 1) held-now.all ∙ sym count)) now-played
            (subst (λ (cs : List ℕ). Kept n (ms ++ x ∷ []) cs k.log k.parents k.borders) (sym stones) more)
            (won ∙ (ap (λ f. if eqb (get_or f.borders x 0 % 4) 3 then turn_of ms else 0) joined ∙ sym (winner_push n ms x now-played)));
        same_size = size;
      }

-- nobody has connected, and that is the right answer to who has
pub right_nobody : (g : Game) (m : Memory) → Holds g m → won_by g.winner ≡ 0 → games.Right (formal g m) games.who (games.number 0) (formal g m)
right_nobody g m h e = games.nobody (not_won (formal g m) (winner_open g.size.n (moves_in g m) h.played (sym h.winner ∙ e)))

-- the winner has connected on the board of the stones
pub winner_connects : (g : Game) (m : Memory) → Holds g m → (side : Side) → won_by g.winner ≡ number side →
    Connects (laid g.size.n m.stones) (number side) × ((number side ≡ 1) ⊎ (number side ≡ 2))
winner_connects g m h side e =
    let told = winner_won g.size.n (moves_in g m) h.played (number side) (sym h.winner ∙ e) (some_side side) in
    (subst (λ b. Connects b (number side)) (sym (board_laid g.size.n (stones_of (moves_in g m)) m.stones h.kept.stones_are)) told.0, told.1)

-- a way of the winner on the board of the stones is a right answer to who has connected
pub right_way : (g : Game) (m : Memory) → Holds g m → (s : ℕ) (w : List ℕ) → (s ≡ 1) ⊎ (s ≡ 2) → is_way (laid g.size.n m.stones) s w ≡ true →
    length w ≤ length m.stones → games.Right (formal g m) games.who (games.way s w) (formal g m)
right_way g m h s w side way few =
    games.by_way s w side
    (subst (λ b. is_way b s w ≡ true) (board_laid g.size.n (stones_of (moves_in g m)) m.stones h.kept.stones_are) way)
    (subst (λ (cs : List ℕ). length w ≤ length cs) h.kept.stones_are few)
