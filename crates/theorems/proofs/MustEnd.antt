-- A walk over finitely many places that could be gone back the same way ends, if nothing comes before its start.
use Rattle.std.proofs.Common.{◌≡◌, ℕ, zero, suc, ◌+◌, ◌<◌, ◌⊎◌, sym, ap, ◌∙◌, subst, inl, inr, ⊎_elim, arith}
use Rattle.theorems.proofs.Numbers.{all_or, pigeons}

-- From place to place by `step`, where `back` undoes it. Each place at which the walk stands is done with, or it stands at the next.
module _ {S Done : Type 0} (step back : S → S) (start : S) (Stands : S → Type 0)
    (returns : (s : S) → Stands s → back (step s) ≡ s) (nothing_before : Stands (back start) → ⊥)
    (go_on : (s : S) → Stands s → Done ⊎ Stands (step s)) (started : Stands start) where
  -- where the walk is after k steps
  place : ℕ → S
  place zero = start
  place (suc k) = step (place k)

  -- It is done within k steps, or it stands somewhere after them.
  reached : (k : ℕ) → Done ⊎ Stands (place k)
  unfolding place
  reached zero = inr started
  reached (suc k) = ⊎_elim inl (go_on (place k)) (reached k)

  -- It never comes to a place again: going back from both, one would come to stand before the start.
  not_again : (i j : ℕ) → i < j → ((k : ℕ) → k < j → Stands (place k)) → place i ≡ place j → ⊥
  unfolding place
  not_again i zero h all e = omega arith
  not_again zero (suc j) h all e = nothing_before (subst Stands (sym (ap back e ∙ returns (place j) (all j (omega arith)))) (all j (omega arith)))
  not_again (suc i) (suc j) h all e =
      not_again i j (omega arith) (λ k l. all k (omega arith)) (sym (returns (place i) (all i (omega arith))) ∙ (ap back e ∙ returns (place j) (all j (omega arith))))

  -- So if the places have distinct numbers below N, it is done within N steps.
  pub must_end : (N : ℕ) (code : S → ℕ) → ((s : S) → Stands s → code s < N) →
      ((s r : S) → Stands s → Stands r → code s ≡ code r → s ≡ r) → Done
  must_end N code small same = ⊎_elim (λ d. d.2) (λ all. absurd (endless all)) (all_or (λ _. Done) (λ k. Stands (place k)) (N + 1) (λ k _. reached k))
    where
      endless : ((k : ℕ) → k < N + 1 → Stands (place k)) → ⊥
      endless all =
          pigeons N (λ k. code (place k)) (λ k h. small (place k) (all k h))
          (λ i j h l e. not_again i j h (λ k m. all k (omega arith)) (same (place i) (place j) (all i (omega arith)) (all j l) e))
