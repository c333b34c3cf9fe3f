-- A table of numbers below 4, four to a byte. Definitions only.
use Rattle.std.specs.Prelude.{◌≡◌, ℕ, zero, suc, ◌+◌, ◌*◌, ◌/◌, ◌%◌, ◌^◌, if◌then◌else◌, ◌==◌, List}
use Rattle.std.specs.Prelude.{length}
use Rattle.std.specs.Prelude.{◌≢◌, slice_index}

-- what stands at place i
unfoldable pub entry : List ℕ → ℕ → ℕ
entry t i = slice_index t (i / 4) / 2 ^ (2 * (i % 4)) % 4

-- table u is table t with v at place i
pub record Put (t u : List ℕ) (i v : ℕ) : Type 0 where
  pub long : length u ≡ length t
  pub there : entry u i ≡ v
  pub others : (j : ℕ) → (j ≢ i) → entry u j ≡ entry t j

-- the sum of f over those of the first m places that have an entry, which is a number that is not 0
unfoldable pub sum_over_entries : (ℕ → ℕ) → List ℕ → ℕ → ℕ
sum_over_entries f t zero = 0
sum_over_entries f t (suc i) = sum_over_entries f t i + (if entry t i == 0 then 0 else f i)
