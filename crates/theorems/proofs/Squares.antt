-- The board of six-sided cells as a lawful game of laying stones: what is proved for all of them holds for it.
use Rattle.std.proofs.Common.{◌≡◌, ℕ, suc, ◌<◌, true, List, [], ◌∷◌, refl, All, arith}
use Rattle.std.proofs.lemmas.List.Elements.{All-from_get_or}
use Rattle.std.proofs.lemmas.Bool.{and_from, lt-ltb}
use Rattle.hexboard.specs.Board.{Board, next_to}
use Rattle.hexboard.specs.Games as games
use Rattle.hexboard.specs.Games.{Forces}
use Rattle.hexboard.specs.Geometry.{laid}
use Rattle.hexboard.specs.Laying.{CanForce, has, mine, theirs, IsPosition, KeepsWins, IsLawful, square_rules}
use Rattle.hexboard.specs.Promise.{good_cells, Good, NeverBoth, NeverNeither}
use Rattle.hexboard.specs.Shapes.{starts, finishes}
use Rattle.hexboard.proofs.Boards.{good_at}
use Rattle.theorems.proofs.NeverBoth.{never_both}
use Rattle.theorems.proofs.NeverNeither.{never_neither_lem}
use Rattle.theorems.proofs.Leading.{carried}
use Rattle.theorems.proofs.RhombusWays.{board_track, track_stays}
use Rattle.theorems.proofs.Ways.{of_board, to_board}

-- What can be forced on a board can be forced in the game,
pub to_game : {s : ℕ} {b : Board} {t : ℕ} → Forces s b t → CanForce (square_rules b.wide) s b.cells t
to_game (games.has t w) = has t w
to_game (games.mine i h z f) = mine i h z (to_game f)
to_game (games.theirs p f) = theirs p (λ i h z. to_game (f i h z))

-- and the other way round.
pub of_game : {n s : ℕ} {cells : List ℕ} {t : ℕ} → CanForce (square_rules n) s cells t → Forces s (laid n cells) t
of_game (has t w) = games.has t w
of_game (mine i h z f) = games.mine i h z (of_game f)
of_game (theirs p f) = games.theirs p (λ i h z. of_game (f i h z))

-- Boards as they can be are the game's positions,
good_cells_all : (cells : List ℕ) → All (λ c. c < 3) cells → good_cells cells ≡ true
unfolding good_cells
good_cells_all [] a = refl
good_cells_all (c ∷ cells) a =
    and_from _ _ (lt-ltb c 3 (a 0 0 (omega arith))) (good_cells_all cells (λ k d h. a (suc k) d (omega arith)))

pub good_laid : {n : ℕ} {cells : List ℕ} → 0 < n → IsPosition (square_rules n) cells → Good (laid n cells)
good_laid {cells = cells} pos p = (pos, p.long, good_cells_all cells p.stones)

-- and the other way round.
pub position : {b : Board} → Good b → IsPosition (square_rules b.wide) b.cells
position {b} g = record { long = g.1; stones = All-from_get_or (λ c. c < 3) b.cells 0 (λ i _. good_at b i g) }

-- Stones more, and changes of the other's, leave a way a way.
pub squares_keep : (n : ℕ) → KeepsWins (square_rules n)
squares_keep n s b c _ long stays w = to_board (laid n c) s (carried {k = board_track n n s b} {m = board_track n n s c} {f = λ i. i} (track_stays (next_to n) (starts n s) (finishes n n s) s b c long stays) (of_board (laid n b) s w))

-- Never both, and never neither.
pub squares_lawful : (n : ℕ) → 0 < n → IsLawful (square_rules n)
unfolding NeverBoth NeverNeither
squares_lawful n pos = record {
  keeps_wins = squares_keep n;
  never_both = λ b p. never_both (laid n b) (good_laid pos p);
  never_neither = λ b p. never_neither_lem (laid n b) (good_laid pos p);
}
