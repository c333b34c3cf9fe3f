-- The choice of the cell that is tried first: what its loop keeps, and what it gives at the end.
use Rattle.std.proofs.Common.{◌≡◌, ℕ, ◌-◌, ◌^◌, ◌<◌, ◌≤◌, ◌⊎◌, ◌≢◌, inl, inr, sym, refl, ◌∙◌, ap, subst, ⊎_elim, arith}
use Rattle.std.proofs.lemmas.Bool.{cases_lt}
use Rattle.ranking.specs.Sets.{bit, Within}
use Rattle.ranking.proofs.Bits.{bit_less, bit_none}
use Rattle.endgame.specs.Choices.{FirstHeaviest}

-- The best so far, what it weighs, and the cells that are left to look at. Before any is looked at, the best is the first of them, and what
-- it weighs is not known.
pub record Choosing (W : ℕ → ℕ → Type 0) (set best most rest : ℕ) : Type 0 where
  pub chosen : bit best set ≡ 1
  pub inside : Within rest set
  pub ahead : (j : ℕ) → bit j rest ≡ 1 → best ≤ j
  pub known : W best most ⊎ ((most ≡ 0) × (bit best rest ≡ 1))
  pub passed : (j : ℕ) → bit j set ≡ 1 → bit j rest ≡ 0 → (w : ℕ) × W j w × (w ≤ most) × (j < best → w < most)

-- no cell of a set comes before its first
not_before : (x k : ℕ) → ((j : ℕ) → j < k → bit j x ≡ 0) → (j : ℕ) → bit j x ≡ 1 → k ≤ j
not_before x k first j i = ⊎_elim (λ l. absurd (omega (arith, first j l, i))) (λ after. after) (cases_lt j k)

module _ {W : ℕ → ℕ → Type 0} where
  pub choosing_none : (set best : ℕ) → bit best set ≡ 1 → ((j : ℕ) → j < best → bit j set ≡ 0) → Choosing W set best 0 set
  choosing_none set best h first =
      record { chosen = h; inside = λ k i. i; ahead = not_before set best first; known = inr (refl, h); passed = λ j i out. absurd (omega (arith, i, out)) }

  module _ {set best most rest k linked z : ℕ} (h : Choosing W set best most rest) (i : bit k rest ≡ 1) (first : (j : ℕ) → j < k → bit j rest ≡ 0) (weighs : W k linked) (e : z ≡ 2 ^ k) where
    -- what is left without cell k: the others
    others : (j : ℕ) → ((j ≡ k) × (bit j (rest - z) ≡ 0)) ⊎ ((j ≢ k) × (bit j (rest - z) ≡ bit j rest))
    others j = rw e (bit_less k rest i j)

    left : (j : ℕ) → bit j (rest - z) ≡ 1 → bit j rest ≡ 1
    left j l = ⊎_elim (λ p. absurd (omega (arith, p.1, l))) (λ p. sym p.1 ∙ l) (others j)

    -- The first of those that are left weighs more than the best,
    pub choosing_better : most < linked → Choosing W set k linked (rest - z)
    choosing_better more = record {
      chosen = h.inside k i;
      inside = λ j l. h.inside j (left j l);
      ahead = λ j l. not_before rest k first j (left j l);
      known = inl weighs;
      passed = λ j in_set out.
          ⊎_elim
          (λ p. (linked, subst (λ n. W n linked) (sym p.0) weighs, omega arith, (λ l. absurd (omega (arith, l, p.0)))))
          (λ p. let (w, is, small, _) = h.passed j in_set (sym p.1 ∙ out) in (w, is, omega (arith, small, more), (λ _. omega (arith, small, more))))
          (others j);
    }

    -- or no more, and then no more than the best, if what that weighs is not known yet, and it is the best itself.
    pub choosing_as_before : linked ≤ most → Choosing W set best most (rest - z)
    choosing_as_before less = record {
      chosen = h.chosen;
      inside = λ j l. h.inside j (left j l);
      ahead = λ j l. h.ahead j (left j l);
      known = inl (⊎_elim (λ is. is) itself h.known);
      passed = λ j in_set out.
          ⊎_elim
          (λ p. (linked, subst (λ n. W n linked) (sym p.0) weighs, less, (λ l. absurd (omega (arith, l, p.0, h.ahead k i)))))
          (λ p. h.passed j in_set (sym p.1 ∙ out))
          (others j);
    }
      where
        itself : (most ≡ 0) × (bit best rest ≡ 1) → W best most
        itself (none, on) =
            let here : k ≡ best = omega (arith, h.ahead k i, not_before rest k first best on) in
            let same : linked ≡ most = omega (arith, less, none) in
            subst (λ w. W best w) same (subst (λ n. W n linked) here weighs)

  -- None is left.
  pub choosing_all : {set best most rest : ℕ} → Choosing W set best most rest → rest ≡ 0 → FirstHeaviest W set best
  choosing_all {set} {best} {most} {rest} h none =
      let out : (j : ℕ) → bit j rest ≡ 0 = λ j. ap (bit j) none ∙ bit_none j in
      record {
        chosen = h.chosen;
        most = most;
        weighs = ⊎_elim (λ is. is) (λ p. absurd (omega (arith, p.1, out best))) h.known;
        others = λ k i. h.passed k i (out k);
      }
