-- Six-sided cells by row and column: which touch, and the cell ahead of somebody who walks between two of them.
use Rattle.std.proofs.Common.{◌≡◌, ℕ, ◌+◌, ◌-◌, ◌*◌, ◌<◌, ◌≤◌, Bool, true, false, cond, ◌≢◌, arith}

-- a cell by row and column
pub record Cell : Type 0 where
  pub row : ℕ
  pub column : ℕ

-- A cell is told by its row and column.
pub same_cell : (p q : Cell) → p.row ≡ q.row → p.column ≡ q.column → p ≡ q
same_cell p q e f = λ i. record { row = e i; column = f i }

-- Two cells touch, said by inequalities alone, without six cases: their rows, their columns and the sums of both differ by at most
-- one, and they are not the same. Among such cells twice the row plus the column tells two apart.
pub record Near (p q : Cell) : Type 0 where
  pub up : p.row ≤ q.row + 1
  pub down : q.row ≤ p.row + 1
  pub left : p.column ≤ q.column + 1
  pub right : q.column ≤ p.column + 1
  pub before : p.row + p.column ≤ q.row + q.column + 1
  pub after : q.row + q.column ≤ p.row + p.column + 1
  pub apart : 2 * p.row + p.column ≢ 2 * q.row + q.column

-- Two cells that touch have a third that touches both on either side. For somebody who walks between them, p on the left hand and q
-- on the right, this is the one in front, and the one behind is `ahead q p`.
abbrev pub ahead : Cell → Cell → Cell
ahead p q = record { row = p.row + p.column - q.column; column = q.row + q.column - p.row }

-- two cells that touch, p not in column 0 and q not in row 0
module _ (p q : Cell) (n : Near p q) (h : 0 < p.column) (k : 0 < q.row) where
  -- No difference is cut off at 0,
  ahead_room : (q.column ≤ p.row + p.column) × (p.row ≤ q.row + q.column)
  ahead_room = omega arith

  -- the cell ahead is not the corner (0, 0),
  pub ahead_off : 0 < (ahead p q).row + (ahead p q).column
  ahead_off = let r = ahead_room in omega arith

  -- it touches both cells,
  pub ahead_of_one : Near p (ahead p q)
  ahead_of_one = let r = ahead_room in omega arith

  pub ahead_of_two : Near q (ahead p q)
  ahead_of_two = let r = ahead_room in omega arith

  -- and when it has taken the place of one of them, that one lies behind: a walk can be gone back.
  pub one_behind : ahead q (ahead p q) ≡ p
  one_behind = let r = ahead_room in same_cell (ahead q (ahead p q)) p (omega arith) (omega arith)

  pub two_behind : ahead (ahead p q) p ≡ q
  two_behind = let r = ahead_room in same_cell (ahead (ahead p q) p) q (omega arith) (omega arith)

-- To touch goes both ways.
pub turn_near : (p q : Cell) → Near p q → Near q p
turn_near p q n = omega arith

-- How far a cell is from its side's first border: for side 1, which is `true`, the row, and for side 2 the column.
abbrev pub along : Bool → Cell → ℕ
along s p = cond s p.row p.column

-- Who comes from distance 0 is at distance 1.
pub one_along : (s : Bool) (p q : Cell) → Near p q → along s p ≡ 0 → 0 < along s q → along s q ≡ 1
one_along true p q n z a = omega arith
one_along false p q n z a = omega arith
