-- Boards and groups as functions of a list of moves: stones of the two sides in turn, side 1 first.
use Rattle.std.specs.Prelude.{ℕ, ◌%◌, List, [], ◌∷◌, length, ◌==◌, if◌then◌else◌}
use Rattle.hexboard.specs.Board.{Board, other}
use Rattle.groups.specs.Forest.{Forest}
use Rattle.groups.specs.Stones as stones
use Rattle.groups.specs.Stones.{Placement, stone, AreLegal}

-- stones on these cells, the first of side s and the others of the sides in turn
abbrev pub in_turn : ℕ → List ℕ → List Placement
in_turn s [] = []
in_turn s (x ∷ xs) = stone s x ∷ in_turn (other s) xs

-- the stones that the moves lay
abbrev pub stones_of : List ℕ → List Placement
stones_of ms = in_turn 1 ms

-- the side to move after these moves: side 1 after an even number of them
abbrev pub turn_of : List ℕ → ℕ
turn_of ms = if length ms % 2 == 0 then 1 else 2

-- what the moves lead to from the empty board n wide
abbrev pub board_of : ℕ → List ℕ → Board
board_of n ms = stones.board_of n (stones_of ms)

abbrev pub forest_of : ℕ → List ℕ → Forest
forest_of n ms = stones.forest_of n (stones_of ms)

-- a legal list of moves: each goes to an empty cell. Whether somebody has connected before the last
-- is not asked
abbrev pub Legal : ℕ → List ℕ → Type 0
Legal n ms = AreLegal n (stones_of ms)
