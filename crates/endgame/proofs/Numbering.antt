-- The empty cells, listed one after the other, and that they are numbered.
use Rattle.std.proofs.Common.{◌≡◌, ℕ, zero, suc, ◌+◌, ◌<◌, ◌≤◌, ◌⊎◌, ⊎_elim, List, [], ◌∷◌, ◌++◌, length, get_or, take, drop, sym, refl, ap, ◌∙◌, arith}
use Rattle.std.proofs.lemmas.List.{append-nil, length-append, length-take-le, take-append-drop, take_more, take_all}
use Rattle.std.proofs.lemmas.Bool.{cases_eq, eq-eqb, ne_eqb}
use Rattle.hexboard.specs.Board.{Board, at, empties}
use Rattle.endgame.specs.Cells.{zeros_from, free_cells, Lists}
use Rattle.endgame.specs.Ends.{Numbered}

-- the zeros of a list in two parts
zeros_append : (i : ℕ) (xs ys : List ℕ) → zeros_from i (xs ++ ys) ≡ zeros_from i xs ++ zeros_from (i + length xs) ys
unfolding zeros_from
zeros_append i [] ys = let e : i + 0 ≡ i = omega arith in rw e
zeros_append i (x ∷ xs) ys =
    let e : suc i + length xs ≡ i + suc (length xs) = omega arith in
    let rest = rw e at (zeros_append (suc i) xs ys) in
    ⊎_elim (λ z. rw (eq-eqb x 0 z) (ap (λ l. i ∷ l) rest)) (λ n. rw (ne_eqb x 0 n) rest) (cases_eq x 0)

-- there are as many as the list has zeros
zeros_many : (i : ℕ) (xs : List ℕ) → length (zeros_from i xs) ≡ empties xs
unfolding zeros_from empties
zeros_many i [] = refl
zeros_many i (x ∷ xs) =
    let rest = zeros_many (suc i) xs in ⊎_elim (λ z. rw (eq-eqb x 0 z) (omega arith)) (λ n. rw (ne_eqb x 0 n) (omega arith)) (cases_eq x 0)

-- each is the place of a zero, and the place of each zero is among them
zeros_at : (i : ℕ) (xs : List ℕ) (k : ℕ) → k < length (zeros_from i xs) →
    (j : ℕ) × (get_or (zeros_from i xs) k 0 ≡ i + j) × (j < length xs) × (get_or xs j 0 ≡ 0)
unfolding zeros_from
zeros_at i [] k l = absurd (omega arith)
zeros_at i (x ∷ xs) zero l = ⊎_elim
    (λ e. rw (eq-eqb x 0 e) (0, omega arith, omega arith, e))
    (λ n. let (j, is, inside, z) = zeros_at (suc i) xs zero (rw (ne_eqb x 0 n) at l) in rw (ne_eqb x 0 n) (suc j, omega arith, omega arith, z))
    (cases_eq x 0)
zeros_at i (x ∷ xs) (suc k) l = ⊎_elim
    (λ e. let h = rw (eq-eqb x 0 e) at l in let (j, is, inside, z) = zeros_at (suc i) xs k (omega arith) in rw (eq-eqb x 0 e) (suc j, omega arith, omega arith, z))
    (λ n. let (j, is, inside, z) = zeros_at (suc i) xs (suc k) (rw (ne_eqb x 0 n) at l) in rw (ne_eqb x 0 n) (suc j, omega arith, omega arith, z))
    (cases_eq x 0)

zeros_all : (i : ℕ) (xs : List ℕ) (j : ℕ) → j < length xs → get_or xs j 0 ≡ 0 → (k : ℕ) × (k < length (zeros_from i xs)) × (get_or (zeros_from i xs) k 0 ≡ i + j)
unfolding zeros_from
zeros_all i [] j l z = absurd (omega arith)
zeros_all i (x ∷ xs) zero l z = rw (eq-eqb x 0 z) (0, omega arith, omega arith)
zeros_all i (x ∷ xs) (suc j) l z =
    let (k, m, is) = zeros_all (suc i) xs j (omega arith) z in
    ⊎_elim (λ z. rw (eq-eqb x 0 z) (suc k, omega arith, omega arith)) (λ n. rw (ne_eqb x 0 n) (k, m, omega arith)) (cases_eq x 0)

-- they stand in their order, so each stands there once
zeros_rise : (i : ℕ) (xs : List ℕ) (j k : ℕ) → j < k → k < length (zeros_from i xs) → get_or (zeros_from i xs) j 0 < get_or (zeros_from i xs) k 0
unfolding zeros_from
zeros_rise i [] j k l h = absurd (omega arith)
zeros_rise i (x ∷ xs) j zero l h = absurd (omega arith)
zeros_rise i (x ∷ xs) zero (suc k) l h = ⊎_elim
    (λ e. let less = rw (eq-eqb x 0 e) at h in let (m, is, _, _) = zeros_at (suc i) xs k (omega arith) in rw (eq-eqb x 0 e) (omega arith))
    (λ n. rw (ne_eqb x 0 n) (zeros_rise (suc i) xs zero (suc k) l (rw (ne_eqb x 0 n) at h)))
    (cases_eq x 0)
zeros_rise i (x ∷ xs) (suc j) (suc k) l h = ⊎_elim
    (λ e. let less = rw (eq-eqb x 0 e) at h in rw (eq-eqb x 0 e) (zeros_rise (suc i) xs j k (omega arith) (omega arith)))
    (λ n. rw (ne_eqb x 0 n) (zeros_rise (suc i) xs (suc j) (suc k) l (rw (ne_eqb x 0 n) at h)))
    (cases_eq x 0)

-- So they number the empty cells of a board.
pub free_numbered : (b : Board) → Numbered b (free_cells b.cells)
free_numbered b = record {
  inside = λ k l. let (j, is, inside, _) = zeros_at 0 b.cells k l in omega arith;
  empty = λ k l. let (j, is, _, z) = zeros_at 0 b.cells k l in let same : get_or (free_cells b.cells) k 0 ≡ j = omega arith in ap (at b) same ∙ z;
  once = λ j k l m e. ⊎_elim (λ same. same) (⊎_elim
      (λ less. absurd (omega (arith, zeros_rise 0 b.cells j k less m)))
      (λ more. absurd (omega (arith, zeros_rise 0 b.cells k j more l)))) (cases j k);
  all = λ i l z. let (k, m, is) = zeros_all 0 b.cells i l z in (k, m, omega arith);
}
  where
    cases : (j k : ℕ) → (j ≡ k) ⊎ ((j < k) ⊎ (k < j))
    cases j k = grind arith

-- one more cell is looked at: it is not empty, or it is
pub free_same : (xs : List ℕ) (i : ℕ) → i < length xs → (get_or xs i 0 ≡ 0 → ⊥) → free_cells (take (i + 1) xs) ≡ free_cells (take i xs)
unfolding zeros_from
free_same xs i l h =
    ap free_cells (take_more xs i 0 l) ∙ zeros_append 0 (take i xs) (get_or xs i 0 ∷ []) ∙ rw (ne_eqb (get_or xs i 0) 0 h) (append-nil (free_cells (take i xs)))

pub free_more : (xs : List ℕ) (i : ℕ) → i < length xs → get_or xs i 0 ≡ 0 → free_cells (take (i + 1) xs) ≡ free_cells (take i xs) ++ (i ∷ [])
unfolding zeros_from
free_more xs i l h =
    let at_i : 0 + length (take i xs) ≡ i = omega (arith, length-take-le i xs (omega arith)) in
    ap free_cells (take_more xs i 0 l) ∙ zeros_append 0 (take i xs) (get_or xs i 0 ∷ []) ∙ rw (h, at_i)

-- no more are found in a part than there are
free_part : (xs : List ℕ) (i : ℕ) → length (free_cells (take i xs)) ≤ empties xs
free_part xs i =
    let split : length (free_cells xs) ≡ length (free_cells (take i xs)) + length (zeros_from (0 + length (take i xs)) (drop i xs)) =
    ap (λ l. length (free_cells l)) (sym (take-append-drop i xs)) ∙ ap length (zeros_append 0 (take i xs) (drop i xs)) ∙ length-append (free_cells (take i xs)) (zeros_from (0 + length (take i xs)) (drop i xs)) in
    omega (arith, zeros_many 0 xs)

-- where 16 are listed of the first i cells, and the next is empty too, there are more
pub free_beyond : (xs cells : List ℕ) (i : ℕ) → cells ≡ free_cells (take i xs) → i < length xs → get_or xs i 0 ≡ 0 → length cells ≡ 16 → 16 < empties xs
free_beyond xs cells i so_far l free full =
    omega (arith, ap length so_far, free_part xs (i + 1), ap length (free_more xs i l free), length-append (free_cells (take i xs)) (i ∷ []))

-- once all cells have been looked at, all empty ones are listed
pub lists_all : (xs cells : List ℕ) (i : ℕ) → cells ≡ free_cells (take i xs) → length xs ≤ i → Lists xs cells
lists_all xs cells i so_far l =
    let all = so_far ∙ ap free_cells (take_all i xs l) in record { cells = all; many = ap length all ∙ zeros_many 0 xs }
