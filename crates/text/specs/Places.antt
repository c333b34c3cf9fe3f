-- Where a row of bytes ceases to be of a form: the first byte that does not fit. Definitions only.
use Rattle.std.specs.Prelude.{◌≡◌, ℕ, ◌<◌, ◌≤◌, List, ◌++◌, length, take, ◌≢◌, slice_index}

-- A form is a set of rows of bytes. These bytes are the beginning of some row of the form F.
abbrev pub Begins : (List ℕ → Type 0) → List ℕ → Type 0
Begins F front = (rest : List ℕ) × F (front ++ rest)

-- The bytes are not of the form F, and p is the length of their longest beginning that is the
-- beginning of some row of the form. So p is the place of the first byte that does not fit, or
-- their length where bytes are missing.
pub record Stops (F : List ℕ → Type 0) (bytes : List ℕ) (p : ℕ) : Type 0 where
  pub none : F bytes → ⊥
  pub within : p ≤ length bytes
  pub begins : Begins F (take p bytes)
  pub longest : (q : ℕ) → p < q → q ≤ length bytes → Begins F (take q bytes) → ⊥

-- p is how many bytes at the front of the two rows are the same
pub record Agree (word bytes : List ℕ) (p : ℕ) : Type 0 where
  pub in_word : p ≤ length word
  pub in_bytes : p ≤ length bytes
  pub same : (k : ℕ) → k < p → slice_index word k ≡ slice_index bytes k
  pub stops : p < length word → p < length bytes → slice_index word p ≢ slice_index bytes p
