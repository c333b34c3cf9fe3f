-- Boards and groups as functions of a list of stones: stones of either side, in any order, laid one
-- after the other on the empty board.
use Rattle.std.specs.Prelude.{◌≡◌, ℕ, zero, suc, ◌*◌, Bool, true, ◌&&◌, ◌||◌, ◌⊎◌, List, [], ◌∷◌}
use Rattle.std.specs.Prelude.{◌++◌, length, ◌==◌, nat_lt}
use Rattle.std.specs.List.{fold}
use Rattle.hexboard.specs.Board.{Board, at, all_cells, empty, put}
use Rattle.groups.specs.Forest.{Forest, held, place}

-- a stone that is laid: its side, and the cell where it comes to lie
pub record Placement : Type 0 where
  pub side : ℕ
  pub cell : ℕ

-- a stone of side s on cell x
abbrev pub stone : ℕ → ℕ → Placement
stone s x = record { side = s; cell = x }

-- a board, and the groups of its stones
pub record Layout : Type 0 where
  pub board : Board
  pub forest : Forest

-- so many numbers, counted up from i
unfoldable pub count_from : ℕ → ℕ → List ℕ
count_from i zero = []
count_from i (suc k) = i ∷ count_from (suc i) k

-- no stones on so many cells: each cell is its own parent, and none has bits
abbrev pub bare : ℕ → Forest
bare cells = record { parents = count_from 0 cells; borders = all_cells cells }

-- the empty board, n wide and n tall
abbrev pub empty_layout : ℕ → Layout
empty_layout n = record { board = empty n; forest = bare (n * n) }

-- one stone more is laid
abbrev pub with_stone : Layout → Placement → Layout
with_stone l p =
    record { board = put l.board p.side p.cell; forest = place l.board p.side p.cell l.forest }

-- what the stones lead to from the empty board n wide, one laid after the other
abbrev pub layout_of : ℕ → List Placement → Layout
layout_of n ps = fold with_stone (empty_layout n) ps

abbrev pub board_of : ℕ → List Placement → Board
board_of n ps = (layout_of n ps).board

abbrev pub forest_of : ℕ → List Placement → Forest
forest_of n ps = (layout_of n ps).forest

-- cell x is on the board and empty
abbrev pub is_free : Board → ℕ → Bool
is_free b x = nat_lt x (length b.cells) && at b x == 0

-- the stone is of one of the two sides, and its cell is on the board and empty
abbrev pub can_lie : Board → Placement → Bool
can_lie b p = (p.side == 1 || p.side == 2) && is_free b p.cell

-- each of the stones can lie where it is laid, when it is laid
unfoldable pub can_all_lie : Layout → List Placement → Bool
can_all_lie l [] = true
can_all_lie l (p ∷ ps) = can_lie l.board p && can_all_lie (with_stone l p) ps

-- The stones are of the two sides, and each comes to a cell that is empty then. In which order the
-- sides' stones come is not asked, nor whether a side has connected.
abbrev pub AreLegal : ℕ → List Placement → Type 0
AreLegal n ps = can_all_lie (empty_layout n) ps ≡ true

-- lent memory keeps the groups of the stones
abbrev pub KeepsGroups : ℕ → List Placement → List ℕ → List ℕ → Type 0
KeepsGroups n ps parents borders = held parents borders ≡ forest_of n ps

-- the cells are those of the board before one more stone is laid, or after it
abbrev pub IsBoardAround : ℕ → List Placement → Placement → List ℕ → Type 0
IsBoardAround n ps p cells =
    (cells ≡ (board_of n ps).cells) ⊎ (cells ≡ (board_of n (ps ++ p ∷ [])).cells)
