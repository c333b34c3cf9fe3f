-- Numbers, whatever they count: one or all of them, two in one, and more than there is room for.
use Rattle.std.proofs.Common.{◌≡◌, ℕ, zero, suc, ◌+◌, ◌-◌, ◌*◌, ◌/◌, ◌%◌, ◌<◌, cond, ltb, ◌⊎◌, sym, refl, ap, ◌∙◌, subst, inl, inr, arith}
use Rattle.std.proofs.lemmas.Nat.{div-mul-add, mod-mul-add}
use Rattle.std.proofs.lemmas.Bool.{cases_eq}
use Rattle.std.proofs.lemmas.Bool.Decides.{nat_tests}

-- Of the numbers below k, one has the first property or all have the second, if each has one of them.
pub all_or : (P Q : ℕ → Type 0) (k : ℕ) → ((i : ℕ) → i < k → P i ⊎ Q i) → ((i : ℕ) × (i < k) × P i) ⊎ ((i : ℕ) → i < k → Q i)
all_or P Q zero each = inr (λ i h. absurd (omega arith))
all_or P Q (suc k) each = go (each k (omega arith)) (all_or P Q k (λ i h. each i (omega arith)))
  where
    go : P k ⊎ Q k → ((i : ℕ) × (i < k) × P i) ⊎ ((i : ℕ) → i < k → Q i) → ((i : ℕ) × (i < suc k) × P i) ⊎ ((i : ℕ) → i < suc k → Q i)
    go (inl p) r = inl (k, omega arith, p)
    go (inr q) (inl (i, h, p)) = inl (i, omega arith, p)
    go (inr q) (inr all) =
        inr (λ i h. elim (cases_eq i k) [ inl e ↦ subst Q (sym e) q | inr n ↦ all i (omega arith) ])

-- A number is 0 or more.
pub zero_or_more : (k : ℕ) → (k ≡ 0) ⊎ (0 < k)
zero_or_more zero = inl refl
zero_or_more (suc k) = inr (omega arith)

-- Two numbers in one, the second below n: as row and column are in the number of a cell.
pub pair_same : (n a b c d : ℕ) → b < n → d < n → a * n + b ≡ c * n + d → (a ≡ c) × (b ≡ d)
pair_same n a b c d h k e =
    (sym (div-mul-add a n b h) ∙ (ap (λ x. x / n) e ∙ div-mul-add c n d k), sym (mod-mul-add a n b h) ∙ (ap (λ x. x % n) e ∙ mod-mul-add c n d k))

-- There are not N + 1 distinct numbers below N: take away the last one, and close the gap that it leaves.
pub pigeons : (N : ℕ) (f : ℕ → ℕ) → ((i : ℕ) → i < N + 1 → f i < N) → ((i j : ℕ) → i < j → j < N + 1 → f i ≡ f j → ⊥) → ⊥
pigeons zero f below distinct = omega (arith, below 0 (omega arith))
pigeons (suc N) f below distinct = pigeons N closed closed_below closed_distinct
  where
    closed : ℕ → ℕ
    closed i = f i - cond (ltb (f (suc N)) (f i)) 1 0

    closed_below : (i : ℕ) → i < N + 1 → closed i < N
    closed_below i h =
        let b = below i (omega arith) in
        let l = below (suc N) (omega arith) in
        let d = distinct i (suc N) (omega arith) (omega arith) in
        grind (arith, nat_tests)

    closed_distinct : (i j : ℕ) → i < j → j < N + 1 → closed i ≡ closed j → ⊥
    closed_distinct i j h k e =
        let d = distinct i j h (omega arith) in
        let di = distinct i (suc N) (omega arith) (omega arith) in
        let dj = distinct j (suc N) (omega arith) (omega arith) in
        grind (arith, nat_tests)
