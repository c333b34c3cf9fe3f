-- Pascal's triangle and the places where positions with so many stones begin, as lists. Definitions
-- only.
use Rattle.std.specs.Prelude.{◌≡◌, ℕ, ◌<◌, List, [], slice_index, slice_index_or}
use Rattle.ranking.specs.Positions.{choose, start}

-- the first n rows of the triangle, 17 numbers in each
abbrev pub Rows : ℕ → List (List ℕ) → Type 0
Rows n rows = (i k : ℕ) → i < n → k < 17 → slice_index (slice_index_or rows i []) k ≡ choose i k

-- how many positions have fewer than 0, 1, 2 .. stones, for the first n numbers of stones
abbrev pub Starts : ℕ → ℕ → List ℕ → Type 0
Starts e n s = (m : ℕ) → m < n → slice_index s m ≡ start e m
