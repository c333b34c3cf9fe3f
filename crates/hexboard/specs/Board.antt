-- Boards of six-sided cells: which cells are next to each other, what a way is, and who has
-- connected. Definitions only.
use Rattle.std.specs.Prelude.{◌≡◌, ℕ, zero, suc, ◌+◌, ◌-◌, ◌*◌, ◌/◌, ◌%◌, Bool, true, false, ◌&&◌}
use Rattle.std.specs.Prelude.{◌||◌, List, [], ◌∷◌, length, ◌==◌, nat_lt, slice_index, slice_set}
use Rattle.std.specs.Prelude.{if◌then◌else◌}

-- A board n wide and n tall. Its cells are numbered by rows from 0, so that cell i lies in row i /
-- n and column i % n. A cell holds 0 if it is empty, else the side whose stone stands on it: side 1
-- connects the top row and the bottom row, side 2 the left column and the right column.
pub record Board : Type 0 where
  pub wide : ℕ
  pub cells : List ℕ

-- what stands on cell i; 0 for a cell that is not there
abbrev pub at : Board → ℕ → ℕ
at b i = slice_index b.cells i

-- A six-sided cell has six neighbours: two in its row, two in its column, and of the four cells
-- that touch it corner to corner the two on the rising diagonal, one row up and one column to the
-- right, or one row down and one column to the left.

-- cell j is the one to the right of cell i, in the same row
abbrev pub right_of : ℕ → ℕ → ℕ → Bool
right_of n i j = i / n == j / n && i % n + 1 == j % n

-- cell j is the one below cell i, in the same column
abbrev pub below : ℕ → ℕ → ℕ → Bool
below n i j = i / n + 1 == j / n && i % n == j % n

-- cell j is one row above cell i and one column to its right
abbrev pub up_right : ℕ → ℕ → ℕ → Bool
up_right n i j = i / n == j / n + 1 && i % n + 1 == j % n

-- cells i and j are next to each other on a board n wide
abbrev pub next_to : ℕ → ℕ → ℕ → Bool
next_to n i j =
    (right_of n i j || right_of n j i) || ((below n i j || below n j i)
    || (up_right n i j || up_right n j i))

-- cell i is at side s's first border: the top row for side 1, the left column for side 2
abbrev pub begins : ℕ → ℕ → ℕ → Bool
begins n s i = if s == 1 then i / n == 0 else i % n == 0

-- cell i is at side s's last border: the bottom row for side 1, the right column for side 2
abbrev pub ends : ℕ → ℕ → ℕ → Bool
ends n s i = if s == 1 then i / n + 1 == n else i % n + 1 == n

-- A way of a side is a row of cells that hold its stones, each next to the one before, from its
-- first border to its last. One cell is a way if it is at both borders.

-- the cells js go on from cell i: each holds a stone of s and is next to the one before, and the
-- last is at s's last border
unfoldable pub goes_on : Board → ℕ → ℕ → List ℕ → Bool
goes_on b s i [] = ends b.wide s i
goes_on b s i (j ∷ js) = (next_to b.wide i j && (nat_lt j (length b.cells) && at b j == s))
    && goes_on b s j js

-- the cells are a way of side s
unfoldable pub is_way : Board → ℕ → List ℕ → Bool
is_way b s [] = false
is_way b s (i ∷ is) = (begins b.wide s i && (nat_lt i (length b.cells) && at b i == s))
    && goes_on b s i is

-- side s has connected: there is a way of it
abbrev pub Connects : Board → ℕ → Type 0
Connects b s = (w : List ℕ) × (is_way b s w ≡ true)

-- so many empty cells
unfoldable pub all_cells : ℕ → List ℕ
all_cells zero = []
all_cells (suc n) = 0 ∷ all_cells n

-- the empty board, n wide and n tall
abbrev pub empty : ℕ → Board
empty n = record { wide = n; cells = all_cells (n * n) }

-- how many of the cells are empty
unfoldable pub empties : List ℕ → ℕ
empties [] = 0
empties (c ∷ cs) = (if c == 0 then 1 else 0) + empties cs

-- the board with s on cell i: a stone of side s, or nothing if s is 0
abbrev pub put : Board → ℕ → ℕ → Board
put b s i = record { wide = b.wide; cells = slice_set b.cells i s }

-- the side that plays against s
abbrev pub other : ℕ → ℕ
other s = 3 - s
