-- Pascal's triangle as it is filled, number by number.
use Rattle.std.proofs.Common.{◌≡◌, ℕ, zero, suc, ◌+◌, ◌-◌, ◌<◌, ◌≤◌, List, [], length, get_or, replicate, set, refl, ap, ◌∙◌, sym, ⊎_elim, arith, rules, length-set}
use Rattle.std.proofs.lemmas.List.{places, get_or-set_same, get_or-replicate}
use Rattle.std.proofs.lemmas.Bool.{cases_eq}
use Rattle.ranking.specs.Positions.{choose}
use Rattle.ranking.specs.Triangle.{Rows}
use Rattle.ranking.proofs.Counting.{choose_none, choose_sum}

-- the first n rows are filled, and the first k numbers of the row after them
pub record Filled (n k : ℕ) (rows : List (List ℕ)) : Type 0 where
  pub many : length rows ≡ 17
  pub long : (i : ℕ) → i < 17 → length (get_or rows i []) ≡ 17
  pub above : Rows n rows
  pub row : (j : ℕ) → j < k → get_or (get_or rows n []) j 0 ≡ choose n j

-- One more number is written.
number_more : {n k : ℕ} {rows : List (List ℕ)} (x : ℕ) → n < 17 → k < 17 → Filled n k rows → x ≡ choose n k → Filled n (k + 1) (set rows n (set (get_or rows n []) k x))
number_more {n} {k} {rows} x p q h e =
    record {
      many = search (rules, places, h.many);
      long = λ i l. ⊎_elim (λ e. rw (e, get_or-set_same rows n (set (get_or rows n []) k x) [] (omega arith)) (length-set (get_or rows n []) k x ∙ h.long n p)) (λ e. grind (arith, places, h.long i l)) (cases_eq i n);
      above = λ i j l m. grind (arith, places, h.many, h.above i j l m);
      row = λ j l. grind (arith, places, get_or-set_same, cases_eq j k, h.many, h.long n p, h.row j);
    }

-- It is the first of its row,
pub first_more : {n : ℕ} {rows : List (List ℕ)} → n < 17 → Filled n 0 rows → Filled n 1 (set rows n (set (get_or rows n []) 0 1))
first_more {n} p h = number_more 1 p (omega arith) h (sym (choose_none n))

-- or another, the sum of the two above it.
pub sum_more : {n k : ℕ} {rows : List (List ℕ)} → 0 < n → n < 17 → 0 < k → k < 17 → Filled n k rows →
    Filled n (k + 1) (set rows n (set (get_or rows n []) k (get_or (get_or rows (n - 1) []) (k - 1) 0 + get_or (get_or rows (n - 1) []) k 0)))
sum_more {n} {k} o p r q h =
    number_more _ p q h (omega (arith, h.above (n - 1) (k - 1) (omega arith) (omega arith), h.above (n - 1) k (omega arith) q, choose_sum n k o r))

-- A row is full, and the next one begins.
pub row_more : {n k : ℕ} {rows : List (List ℕ)} → 17 ≤ k → Filled n k rows → Filled (n + 1) 0 rows
row_more {n} full h =
    record {
      many = h.many;
      long = h.long;
      above = λ i j l m. ⊎_elim (λ e. rw e (h.row j (omega arith))) (λ e. h.above i j (omega arith) m) (cases_eq i n);
      row = λ j l. absurd (omega arith);
    }

-- nothing is written yet
abbrev zeros : List (List ℕ)
zeros = replicate 17 (replicate 17 0)

blank : Filled 0 0 zeros
blank =
    record {
      many = refl;
      long = λ i l. ap length (get_or-replicate 17 i (replicate 17 0) [] l);
      above = λ i j l m. absurd (omega arith);
      row = λ j l. absurd (omega arith);
    }

-- The first row is 1 and zeros.
abbrev begun : List (List ℕ)
begun = set zeros 0 (set (get_or zeros 0 []) 0 1)

begun_row : (j : ℕ) → j < 17 → get_or (get_or begun 0 []) j 0 ≡ choose 0 j
unfolding choose
begun_row zero l = refl
begun_row (suc j) l = get_or-replicate 16 j 0 0 (omega arith)

pub first_row : Filled 1 0 begun
first_row =
    let h = first_more {n = 0} (omega arith) blank in
    row_more {k = 17} (omega arith) (record { many = h.many; long = h.long; above = λ i j l m. absurd (omega arith); row = begun_row })
