-- Sums over the places of a table that have an entry.
use Rattle.std.proofs.Common.{◌≡◌, ℕ, zero, suc, ◌+◌, ◌*◌, ◌<◌, ◌≤◌, ◌≢◌, List, refl, sym, ap, ◌∙◌, ⊎_elim, arith, mul-add}
use Rattle.std.proofs.lemmas.Bool.{cases_eq, eq-eqb, ne_eqb}
use Rattle.ranking.specs.Table.{entry, Put, sum_over_entries}

-- a table with no entry has nothing to sum
pub sum_none : (f : ℕ → ℕ) (t : List ℕ) (m : ℕ) → ((i : ℕ) → entry t i ≡ 0) → sum_over_entries f t m ≡ 0
unfolding sum_over_entries
sum_none f t zero h = refl
sum_none f t (suc m) h = rw (h m) (omega (arith, sum_none f t m h))

-- only entries count
pub sum_same : (f : ℕ → ℕ) (t u : List ℕ) (m : ℕ) → ((i : ℕ) → i < m → entry u i ≡ entry t i) → sum_over_entries f u m ≡ sum_over_entries f t m
unfolding sum_over_entries
sum_same f t u zero h = refl
sum_same f t u (suc m) h = rw (h m (omega arith), sum_same f t u m (λ i l. h i (omega arith))) refl

-- one more entry adds its own number
pub sum_put : (f : ℕ → ℕ) (t u : List ℕ) (m i v : ℕ) → Put t u i v → i < m → entry t i ≡ 0 → v ≢ 0 → sum_over_entries f u m ≡ sum_over_entries f t m + f i
unfolding sum_over_entries
sum_put f t u zero i v h l none some = absurd (omega arith)
sum_put f t u (suc m) i v h l none some = ⊎_elim
    (λ same.
    let was : entry t m ≡ 0 = ap (entry t) (sym same) ∙ none in
    let is : entry u m ≢ 0 = λ e. some (sym h.there ∙ ap (entry u) same ∙ e) in
    rw (was, ne_eqb (entry u m) 0 is) (omega (arith, ap f same, sum_same f t u m (λ j k. h.others j (λ e. omega arith)))))
    (λ apart. rw (h.others m (λ e. apart (sym e))) (omega (arith, sum_put f t u m i v h (omega arith) none some)))
    (cases_eq i m)

-- the sum is at most as many times k as there are entries, if no number is above k,
pub sum_times : (f : ℕ → ℕ) (k : ℕ) (t : List ℕ) (m : ℕ) → ((i : ℕ) → f i ≤ k) → sum_over_entries f t m ≤ k * sum_over_entries (λ i. 1) t m
unfolding sum_over_entries
sum_times f k t zero h = omega arith
sum_times f k t (suc m) h =
    let before = sum_times f k t m h in
    ⊎_elim
    (λ none. rw (eq-eqb (entry t m) 0 none) (omega (arith, mul-add k (sum_over_entries (λ i. 1) t m) 0)))
    (λ some. rw (ne_eqb (entry t m) 0 some) (omega (arith, mul-add k (sum_over_entries (λ i. 1) t m) 1, h m)))
    (cases_eq (entry t m) 0)

-- and there are no more entries than places
pub entries_most : (t : List ℕ) (m : ℕ) → sum_over_entries (λ i. 1) t m ≤ m
unfolding sum_over_entries
entries_most t zero = omega arith
entries_most t (suc m) = ⊎_elim
    (λ none. rw (eq-eqb (entry t m) 0 none) (omega (arith, entries_most t m)))
    (λ some. rw (ne_eqb (entry t m) 0 some) (omega (arith, entries_most t m)))
    (cases_eq (entry t m) 0)
