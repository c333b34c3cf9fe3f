-- A board and who has won, as text. Definitions only.
use Rattle.std.specs.Prelude.{◌≡◌, ℕ, zero, suc, ◌+◌, ◌-◌, ◌*◌, ◌<◌, Bool, false, ◌||◌, List, []}
use Rattle.std.specs.Prelude.{◌∷◌, ◌++◌, length, Some, None, codes, Option, ◌==◌, slice_index}
use Rattle.std.specs.Prelude.{if◌then◌else◌}
use Rattle.hexboard.specs.declared.side.Side.{Side}
use Rattle.hexboard.specs.declared.side.Side.TheVariants.{One, Two}

-- A cell is shown by one character: the number of the side whose stone stands on it, or `.` if
-- there is no stone of a side. Stones on a way are marked by a letter in place of the number, `A`
-- for side 1 and `B` for side 2.
abbrev pub mark : ℕ → Bool → List ℕ
mark stone marked =
    if stone == 1 then (if marked then codes "A" else codes "1")
    else if stone == 2 then (if marked then codes "B" else codes "2") else codes "."

-- whether a cell is one of these
abbrev pub among : List ℕ → ℕ → Bool
among [] cell = false
among (c ∷ cs) cell = c == cell || among cs cell

-- f 0, f 1 and so on, n of them, one after the other
abbrev pub each : ℕ → (ℕ → List ℕ) → List ℕ
each zero f = []
each (suc n) f = each n f ++ f n

-- what stands before the cell in column c of its row: a space if there is a cell before it
abbrev pub gap : ℕ → List ℕ
gap c = if c == 0 then [] else codes " "

-- the cell in row r and column c
abbrev pub cell_shown : ℕ → List ℕ → List ℕ → ℕ → ℕ → List ℕ
cell_shown n cells way r c = gap c ++ mark (slice_index cells (r * n + c)) (among way (r * n + c))

-- the cells of row r
abbrev pub row_cells : ℕ → List ℕ → List ℕ → ℕ → List ℕ
row_cells n cells way r = each n (cell_shown n cells way r)

abbrev pub spaces : ℕ → List ℕ
spaces k = each k (λ _. codes " ")

-- the line of row r, with its end: each row stands half a cell, that is one character, further to
-- the right than the one above
abbrev pub row_line : ℕ → List ℕ → List ℕ → ℕ → List ℕ
row_line n cells way r = spaces r ++ (row_cells n cells way r ++ codes "\n")

-- a board n wide and n tall, with the cells of a way marked; cells that are missing are shown as
-- empty
abbrev pub board_lines : ℕ → List ℕ → List ℕ → List ℕ
board_lines n cells way = each n (row_line n cells way)

-- In the line of row r the cell of column c is the character at place r + 2 * c. Before the first
-- cell and between two cells stand spaces, and nothing stands behind the last cell but the line's
-- end. So the cell to the right of a cell stands two characters on, the cell below it one on, and
-- that below and to the left one back: cells next to each other on the board are next to each other
-- in the text.
pub record LaidOut (n : ℕ) (cells way : List ℕ) (r : ℕ) : Type 0 where
  pub long : length (row_line n cells way r) ≡ r + 2 * n
  pub places : (c : ℕ) → c < n →
      slice_index (row_line n cells way r) (r + 2 * c) ≡ slice_index
      (mark (slice_index cells (r * n + c)) (among way (r * n + c))) 0
  pub indent : (k : ℕ) → k < r → slice_index (row_line n cells way r) k ≡ 32
  pub between : (c : ℕ) → c + 1 < n → slice_index (row_line n cells way r) (r + 2 * c + 1) ≡ 32
  pub last : slice_index (row_line n cells way r) (r + 2 * n - 1) ≡ 10

abbrev pub RowsLaidOut : Type 0
RowsLaidOut = (n : ℕ) (cells way : List ℕ) (r : ℕ) → 0 < n → LaidOut n cells way r

-- the line that says who has won, without its end
abbrev pub outcome_line : Option Side → List ℕ
outcome_line (Some One) = codes "side 1 has won"
outcome_line (Some Two) = codes "side 2 has won"
outcome_line None = codes "nobody has connected"
