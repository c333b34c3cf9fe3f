-- Shapes: boards as a graph with borders. A shape says how many cells there are, which are next to
-- each other, and which borders each touches. Nothing more of a board matters for who has won.
-- Definitions only.
use Rattle.std.specs.Prelude.{◌≡◌, ℕ, ◌+◌, ◌*◌, ◌/◌, ◌%◌, ◌<◌, ℤ, pos, negsuc, ◌+ℤ◌, nat_lt, ◌==◌}
use Rattle.std.specs.Prelude.{Bool, true, false, ◌&&◌, if◌then◌else◌, Some, None, Option}
use Rattle.std.specs.Prelude.{List, [], ◌∷◌, length, slice_index}
use Rattle.std.specs.List.{list_any}
use Rattle.hexboard.specs.Geometry.{step_to, given}
use Rattle.hexboard.specs.Laying.{Rules}

pub record Shape : Type 0 where
  -- how many cells; they are numbered from 0
  pub count : ℕ
  -- the cells next to a cell, in the order in which they are looked at
  pub neighbours : ℕ → List ℕ
  -- of a side and a cell: which borders of the side the cell touches, as bits
  pub borders : ℕ → ℕ → ℕ
  -- the bits of all borders that a side has to join: 3 where there are two
  pub all_borders : ℕ

-- cell j is next to cell i
abbrev pub next_to : Shape → ℕ → ℕ → Bool
next_to g i j = list_any (λ k. j == k) (g.neighbours i)

-- Two cells are next to each other, whichever is named first; both are on the board; and no cell is
-- next to itself.
pub record IsFair (g : Shape) : Type 0 where
  pub inside : (i j : ℕ) → next_to g i j ≡ true → j < g.count
  pub both_ways : (i j : ℕ) → next_to g i j ≡ true → next_to g j i ≡ true
  pub apart : (i : ℕ) → next_to g i i ≡ false

-- Where a side has two borders to join, the first has bit 1 and the last has bit 2.

-- cell i touches the first border of side s
abbrev pub at_first : Shape → ℕ → ℕ → Bool
at_first g s i = g.borders s i % 2 == 1

-- cell i touches the last border of side s
abbrev pub at_last : Shape → ℕ → ℕ → Bool
at_last g s i = g.borders s i / 2 % 2 == 1

-- What stands on a shape is a list of numbers, one for each cell: 0, or the side whose stone it is.

-- a stone of side s stands on cell i
abbrev pub has_stone : ℕ → List ℕ → ℕ → Bool
has_stone s cells i = nat_lt i (length cells) && slice_index cells i == s

-- the cells js lead on from cell i: each is one's own and next to the one before, and with the last
-- the end is reached
unfoldable pub leads_on : (ℕ → ℕ → Bool) → (ℕ → Bool) → (ℕ → Bool) → ℕ → List ℕ → Bool
leads_on next own last i [] = last i
leads_on next own last i (j ∷ js) = (next i j && own j) && leads_on next own last j js

-- the cells are one's own, each next to the one before, and lead from a first one to a last one
unfoldable pub leads : (ℕ → ℕ → Bool) → (ℕ → Bool) → (ℕ → Bool) → (ℕ → Bool) → List ℕ → Bool
leads next own first last [] = false
leads next own first last (i ∷ is) = (first i && own i) && leads_on next own last i is

-- the cells w are a way of side s: stones of it, each next to the one before, from its first border
-- to its last
abbrev pub is_way : Shape → ℕ → List ℕ → List ℕ → Bool
is_way g s cells w = leads (next_to g) (has_stone s cells) (at_first g s) (at_last g s) w

-- the rules of a shape with two borders for each side: a way shows that a side has won
abbrev pub shape_rules : Shape → Rules
shape_rules g = record { count = g.count; shows = λ s cells w. is_way g s cells w }

-- A board of six-sided cells w wide and t tall. Its cells are numbered by rows, so that cell i lies
-- in row i / w and column i % w.

-- the cell in row r and column c, where the board has one; a step can lead before the first
abbrev pub cell_in : ℕ → ℕ → ℤ → ℤ → Option ℕ
cell_in w t (pos r) (pos c) = if nat_lt r t && nat_lt c w then Some (r * w + c) else None
cell_in w t (pos r) (negsuc c) = None
cell_in w t (negsuc r) (pos c) = None
cell_in w t (negsuc r) (negsuc c) = None

-- the cell that a step, of rows down and columns to the right, leads to from row r and column c
abbrev pub step_from : ℕ → ℕ → ℕ → ℕ → Option (ℤ × ℤ) → Option ℕ
step_from w t r c None = None
step_from w t r c (Some (down, right)) = cell_in w t (pos r +ℤ down) (pos c +ℤ right)

-- the k-th neighbour of cell i, of six: None where the board ends there
unfoldable pub neighbour_in : ℕ → ℕ → ℕ → ℕ → Option ℕ
neighbour_in w t i k = if nat_lt i (w * t) then step_from w t (i / w) (i % w) (step_to k) else None

-- Side 1 joins the top row and the bottom row, side 2 the left column and the right column.
abbrev pub starts : ℕ → ℕ → ℕ → Bool
starts w s i = if s == 1 then i / w == 0 else i % w == 0

abbrev pub finishes : ℕ → ℕ → ℕ → ℕ → Bool
finishes w t s i = if s == 1 then i / w + 1 == t else i % w + 1 == w

-- the bits of two borders
abbrev pub two_bits : Bool → Bool → ℕ
two_bits first last = (if first then 1 else 0) + (if last then 2 else 0)

abbrev pub rhombus : ℕ → ℕ → Shape
rhombus w t = record {
  count = w * t;
  neighbours = λ i. given (neighbour_in w t i) 0 6;
  borders = λ s i. two_bits (starts w s i) (finishes w t s i);
  all_borders = 3;
}

-- the cell in row i % w and column i / w of the board turned over, which is t wide and w tall
abbrev pub turned : ℕ → ℕ → ℕ → ℕ
turned w t i = (i % w) * t + i / w
