-- Why two walks must cross: how often one of them goes down to the left of a cell, counted with signs.
use Rattle.std.proofs.Common.{◌≡◌, ℕ, ◌+◌, ◌-◌, ◌<◌, ◌≤◌, cond, ◌&&◌, eqb, ltb, ◌⊎◌, inl, inr, arith}
use Rattle.std.proofs.lemmas.Bool.Decides.{nat_tests}

-- Cells are given by row and column. Of two cells (a, j) and (b, k) that touch:

-- they are beside each other in one row
abbrev pub Beside : ℕ → ℕ → ℕ → ℕ → Type 0
Beside a j b k = (b ≡ a) × ((k ≡ j + 1) ⊎ (j ≡ k + 1))

-- (a, j) is in the row above (b, k): in its column, or one to the right
abbrev pub Above : ℕ → ℕ → ℕ → ℕ → Type 0
Above a j b k = (b ≡ a + 1) × ((k ≡ j) ⊎ (j ≡ k + 1))

-- they touch, one way or another
abbrev pub Next : ℕ → ℕ → ℕ → ℕ → Type 0
Next a j b k = Beside a j b k ⊎ (Above a j b k ⊎ Above b k a j)

-- A walk over cells of A, each next to the one before, to a cell where Z holds. Its type has the cell that it starts from.
pub data Walk (A Z : ℕ → ℕ → Type 0) : ℕ → ℕ → Type 0 where
  stop : {a j : ℕ} → A a j → Z a j → Walk A Z a j
  step : {a j b k : ℕ} → A a j → Next a j b k → Walk A Z b k → Walk A Z a j

-- The walk starts on a cell of A.
start : {A Z : ℕ → ℕ → Type 0} {a j : ℕ} → Walk A Z a j → A a j
start (stop h _) = h
start (step h _ _) = h

-- 1 if (a, j) is in row r, left of column c, else 0
abbrev left : ℕ → ℕ → ℕ → ℕ → ℕ
left r c a j = cond (eqb a r && ltb j c) 1 0

-- How often the walk goes down from row r left of column c, less how often it comes back up there. To stay with numbers from 0 on,
-- a step up counts 1 where it does not come back to the left of (r, c), and the last cell counts as one more step down.
count : {A Z : ℕ → ℕ → Type 0} {a j : ℕ} → ℕ → ℕ → Walk A Z a j → ℕ
count r c (stop {a} {j} _ _) = left r c a j
count r c (step _ (inl _) p) = count r c p
count r c (step {a} {j} _ (inr (inl _)) p) = left r c a j + count r c p
count r c (step {b = b} {k = k} _ (inr (inr _)) p) = (1 - left r c b k) + count r c p

-- Between the cells (r, c) and (s, d) the count of a walk over A differs by g of its first cell: g does not change sideways, makes
-- up for the difference on each step down, and is used up at the end.
record Differ (A Z : ℕ → ℕ → Type 0) (r c s d : ℕ) (g : ℕ → ℕ → ℕ) : Type 0 where
  sideways : (a j b k : ℕ) → A a j → A b k → Beside a j b k → g a j ≡ g b k
  down : (a j b k : ℕ) → A a j → A b k → Above a j b k → left r c a j + g a j ≡ left s d a j + g b k
  last : (a j : ℕ) → A a j → Z a j → left r c a j + g a j ≡ left s d a j

-- A cell counts once at most.
left_small : (r c a j : ℕ) → left r c a j ≤ 1
left_small r c a j = grind (arith, nat_tests)

-- What is in another row is not counted.
not_left : (r c a j : ℕ) → a < r → left r c a j ≡ 0
not_left r c a j h = grind (arith, nat_tests)

-- The difference at a walk's first cell is the difference of the whole: it is so at the end, and each step keeps it.
balance : {A Z : ℕ → ℕ → Type 0} {a j : ℕ} (r c s d : ℕ) (g : ℕ → ℕ → ℕ) → Differ A Z r c s d g → (p : Walk A Z a j) → count r c p + g a j ≡ count s d p
unfolding count
balance r c s d g e (stop {a} {j} h z) = e.last a j h z
balance r c s d g e (step {a} {j} {b} {k} h (inl n) p) =
    let o = e.sideways a j b k h (start p) n in
    let q = balance r c s d g e p in
    omega arith
balance r c s d g e (step {a} {j} {b} {k} h (inr (inl n)) p) =
    let o = e.down a j b k h (start p) n in
    let q = balance r c s d g e p in
    omega arith
balance r c s d g e (step {a} {j} {b} {k} h (inr (inr n)) p) =
    let o = e.down b k a j (start p) h n in
    let q = balance r c s d g e p in
    omega (arith, left_small r c b k, left_small s d b k)

-- the cells of the last row of a board t tall, and of the last column of a board w wide
abbrev pub Bottom : ℕ → ℕ → ℕ → Type 0
Bottom t a j = a + 1 ≡ t

abbrev pub Right : ℕ → ℕ → ℕ → Type 0
Right w a j = j + 1 ≡ w

-- a board w wide and t tall, and two sides: of no cell both, A going from the top row to the bottom row, B from the left
-- column to the right column
module _ (w t : ℕ) (A B : ℕ → ℕ → Type 0)
    (on-A : (a j : ℕ) → A a j → (a < t) × (j < w)) (on-B : (a j : ℕ) → B a j → (a < t) × (j < w))
    (apart : (a j : ℕ) → A a j → B a j → ⊥) where
  -- A cell of A is not where a cell of B is.
  off : (r c a j : ℕ) → B r c → A a j → a ≡ r → j ≡ c → ⊥
  off r c a j y x e f = apart a j x (rw (e, f) y)

  -- Nothing is left of the first column, so every row counts the same there.
  first_column : (r s : ℕ) → Differ A (Bottom t) r 0 s 0 (λ _ _. 0)
  first_column r s = grind (arith, nat_tests)

  -- Everything else in its row is left of a cell of B in the last column: there a walk from the top counts one more.
  last_column : (r c : ℕ) → B r c → Right w r c → Differ A (Bottom t) r 0 r c (λ a _. 1 - (a - r))
  last_column r c y e = grind (arith, nat_tests, off r c, on-A, on-B)

  -- Between two cells of B in a row there is no cell of A to be counted.
  same_row : (r c s d : ℕ) → B r c → B s d → Beside r c s d → Differ A (Bottom t) r c s d (λ _ _. 0)
  same_row r c s d x y n = grind (arith, nat_tests, off r c, off s d)

  -- What goes down from row r left of (r, c) comes down left of the cell of B that touches it from below.
  next_row : (r c s d : ℕ) → B r c → B s d → Above r c s d → Differ A (Bottom t) r c s d (left s d)
  next_row r c s d x y n = grind (arith, nat_tests, off r c, off s d, on-B)

  -- All rows count alike at the first column.
  rows_alike : {i : ℕ} (p : Walk A (Bottom t) 0 i) (r : ℕ) → count 0 0 p ≡ count r 0 p
  rows_alike p r = omega (arith, balance 0 0 r 0 (λ _ _. 0) (first_column 0 r) p)

  -- Every cell from which B can walk to the right column counts one more: in the right column it is so, and no step of B changes it.
  one_more : {i r c : ℕ} (p : Walk A (Bottom t) 0 i) → Walk B (Right w) r c → count 0 0 p + 1 ≡ count r c p
  one_more p (stop {a = r} {j = c} y e) =
      let same = rows_alike p r in
      let more = balance r 0 r c (λ a _. 1 - (a - r)) (last_column r c y e) p in
      omega arith
  one_more p (step {a = r} {j = c} {b = s} {k = d} y (inl n) q) =
      omega (arith, one_more p q, balance r c s d (λ _ _. 0) (same_row r c s d y (start q) n) p)
  one_more {i} p (step {a = r} {j = c} {b = s} {k = d} y (inr (inl n)) q) =
      omega (arith, one_more p q, balance r c s d (left s d) (next_row r c s d y (start q) n) p, not_left s d 0 i (omega arith))
  one_more {i} p (step {a = r} {j = c} {b = s} {k = d} y (inr (inr n)) q) =
      omega (arith, one_more p q, balance s d r c (left r c) (next_row s d r c (start q) y n) p, not_left r c 0 i (omega arith))

  -- But in the left column it is not so. So there are not both walks.
  pub crossing : {i r : ℕ} → Walk A (Bottom t) 0 i → Walk B (Right w) r 0 → ⊥
  crossing {i} {r} p q = omega (arith, rows_alike p r, one_more p q)
