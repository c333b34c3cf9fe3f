-- The empty cells of a board, listed. Definitions only.
use Rattle.std.specs.Prelude.{◌≡◌, ℕ, suc, List, [], ◌∷◌, length, ◌==◌, if◌then◌else◌}
use Rattle.hexboard.specs.Board.{empties}

-- the places of the zeros in a list, counted from i
unfoldable pub zeros_from : ℕ → List ℕ → List ℕ
zeros_from i [] = []
zeros_from i (c ∷ cs) = if c == 0 then i ∷ zeros_from (suc i) cs else zeros_from (suc i) cs

-- the empty cells of a board, in their order
abbrev pub free_cells : List ℕ → List ℕ
free_cells cells = zeros_from 0 cells

-- the empty ones of these cells are listed, all of them and in their order
pub record Lists (stones es : List ℕ) : Type 0 where
  pub cells : es ≡ free_cells stones
  pub many : length es ≡ empties stones
