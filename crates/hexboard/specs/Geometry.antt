-- The six neighbours of a cell and the borders it touches, as functions that code can follow step
-- by step.
use Rattle.std.specs.Prelude.{◌≡◌, ℕ, zero, suc, ◌+◌, ◌-◌, ◌*◌, ◌/◌, ◌%◌, ◌<◌, true, ◌&&◌, List, []}
use Rattle.std.specs.Prelude.{ℤ, pos, negsuc, ◌+ℤ◌, Some, None, Option, ◌==◌, nat_lt, if◌then◌else◌}
use Rattle.std.specs.List.{cons_option}
use Rattle.hexboard.specs.Board.{Board, next_to, begins, ends}

-- the cell in row r and column c of a board n wide and n tall, where it has one; a step can lead
-- before the first row or column
abbrev pub cell_of : ℕ → ℤ → ℤ → Option ℕ
cell_of n (pos r) (pos c) = if nat_lt r n && nat_lt c n then Some (r * n + c) else None
cell_of n (pos r) (negsuc c) = None
cell_of n (negsuc r) (pos c) = None
cell_of n (negsuc r) (negsuc c) = None

-- the step toward the k-th neighbour, as rows down and columns to the right: to the right, to the
-- left, below, above, up and to the right, down and to the left. There are six
abbrev pub step_to : ℕ → Option (ℤ × ℤ)
step_to k =
    if k == 0 then Some (pos 0, pos 1) else if k == 1 then Some (pos 0, negsuc 0)
    else if k == 2 then Some (pos 1, pos 0) else if k == 3 then Some (negsuc 0, pos 0)
    else if k == 4 then Some (negsuc 0, pos 1) else if k == 5 then Some (pos 1, negsuc 0)
    else None

-- the cell that a step leads to from row r and column c
abbrev pub toward : ℕ → ℕ → ℕ → Option (ℤ × ℤ) → Option ℕ
toward n r c None = None
toward n r c (Some (down, right)) = cell_of n (pos r +ℤ down) (pos c +ℤ right)

-- the k-th neighbour of the cell in row r and column c. None where the board ends there, and from
-- k = 6 on
abbrev pub neighbour_at : ℕ → ℕ → ℕ → ℕ → Option ℕ
neighbour_at n r c k = toward n r c (step_to k)

-- the k-th neighbour of cell i. None where the board ends there, for a cell that is not on the
-- board, and from k = 6 on
unfoldable pub neighbour_of : ℕ → ℕ → ℕ → Option ℕ
neighbour_of n i k = if nat_lt i (n * n) then neighbour_at n (i / n) (i % n) k else None

-- the cells that there are among those that `next` may give for k and the m - 1 numbers after it
unfoldable pub given : (ℕ → Option ℕ) → ℕ → ℕ → List ℕ
given next k zero = []
given next k (suc m) = cons_option (next k) (given next (suc k) m)

-- the neighbours of cell i from the k-th on, and all of them, in the order of `neighbour_of`
abbrev pub neighbours_from : ℕ → ℕ → ℕ → List ℕ
neighbours_from n i k = given (neighbour_of n i) k (6 - k)

abbrev pub neighbours : ℕ → ℕ → List ℕ
neighbours n i = neighbours_from n i 0

-- the first m of what may lie next to a cell are looked at, one by one, and what is known so far
-- changes with each
unfoldable pub over : {S : Type 0} → (Option ℕ → S → S) → (ℕ → Option ℕ) → ℕ → S → S
over look next zero so_far = so_far
over look next (suc m) so_far = look (next m) (over look next m so_far)

-- cell j is on the board next to cell i
pub record Beside (n i j : ℕ) : Type 0 where
  pub from : i < n * n
  pub inside : j < n * n
  pub near : next_to n i j ≡ true

-- Each cell that is next to a cell is one of its first m neighbours, on boards of every size.
unfoldable pub AllNeighbours : ℕ → Type 0
AllNeighbours m = (n i j : ℕ) → Beside n i j → (k : ℕ) × (k < m) × (neighbour_of n i k ≡ Some j)

-- the borders of side s that cell i touches, as two bits: 1 for its first, 2 for its last
unfoldable pub touch : ℕ → ℕ → ℕ → ℕ
touch n s i = (if begins n s i then 1 else 0) + (if ends n s i then 2 else 0)

-- the board whose cells stand in bytes, one for each
abbrev pub laid : ℕ → List ℕ → Board
laid n bytes = record { wide = n; cells = bytes }
