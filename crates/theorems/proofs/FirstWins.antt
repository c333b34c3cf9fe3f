-- The first one wins: the board turned over is the board, and empty it stays empty.
use Rattle.std.proofs.Common.{ℕ, ◌*◌, ◌<◌, refl, subst, inl}
use Rattle.hexboard.specs.Board.{empty, other}
use Rattle.hexboard.specs.Games.{Forces}
use Rattle.hexboard.specs.Geometry.{laid}
use Rattle.hexboard.specs.Laying.{square_rules}
use Rattle.hexboard.specs.Promise.{FirstWins}
use Rattle.hexboard.proofs.Boards.{all_cells_replicate}
use Rattle.theorems.specs.Forcing.{FirstCanForce}
use Rattle.theorems.proofs.Stones.{Side}
use Rattle.theorems.proofs.Mirror.{squares_exchange}
use Rattle.theorems.proofs.Renaming.{first_can_force}
use Rattle.theorems.proofs.Squares.{to_game, of_game, squares_lawful}

-- Whoever is to move on the empty board can force it, and the other cannot.
mover : (n : ℕ) → 0 < n → FirstCanForce (square_rules n)
mover n pos = first_can_force (squares_lawful n pos) (squares_exchange n pos)

pub mover_wins : (n s : ℕ) → 0 < n → Side s → Forces s (empty n) s
mover_wins n s pos side = subst (λ c. Forces s (laid n c) s) (all_cells_replicate (n * n)) (of_game (mover n pos s side).0)

pub second_loses : (n s : ℕ) → 0 < n → Side s → Forces (other s) (empty n) s → ⊥
second_loses n s pos side = subst (λ c. Forces (other s) (laid n c) s → ⊥) (all_cells_replicate (n * n)) (λ f. (mover n pos s side).1 (to_game f))

pub first_wins_lem : FirstWins
unfolding FirstWins
first_wins_lem n pos = mover_wins n 1 pos (inl refl)
