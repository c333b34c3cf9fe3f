-- What threats leave to try: the one cell that is threatened, or nothing.
use Rattle.std.proofs.Common.{◌≡◌, ℕ, ◌-◌, ◌^◌, ◌≢◌, sym, ap, ◌∙◌, ⊎_elim, arith}
use lib.Bits.{bit_or}
use Rattle.std.proofs.lemmas.Bool.{cases_eq}
use Rattle.ranking.specs.Sets.{bit, Within}
use Rattle.ranking.proofs.Bits.{own_bit, only_bit, bit_less, bit_none, in_or, or_left, or_right}
use Rattle.endgame.specs.Replies.{Replied}

-- a set of one cell of a set is within it
pub one_within : (t x : ℕ) → bit t x ≡ 1 → Within (2 ^ t) x
one_within t x h k i = rw (only_bit t k i) h

-- where nothing is threatened every free cell must be tried
pub no_threat : (threats free : ℕ) → threats ≡ 0 → Replied threats free (record { must = free; lost = 0 })
no_threat threats free none = record { inside = λ k h. h; meets = λ k t h i. absurd (omega (arith, ap (bit t) none, i, bit_none t)); lost_in = λ k h. absurd (omega (arith, bit_none k)); left = λ k h out. absurd (omega arith) }

pub one_threat : (threats free t : ℕ) → Within threats free → bit t threats ≡ 1 → threats - 2 ^ t ≡ 0 → Replied threats free (record { must = 2 ^ t; lost = 2 ^ t })
one_threat threats free t w h none = record {
  inside = λ k i. w k (one_within t threats h k i);
  meets = λ k u i j. ⊎_elim (λ p. p.0 ∙ sym (only_bit t k i)) (λ p. absurd (omega (arith, p.1, j, ap (bit u) none, bit_none u))) (bit_less t threats h u);
  lost_in = one_within t threats h;
  left = λ k i out. (t, (λ same. omega (arith, own_bit t, ap (λ j. bit j (2 ^ t)) same)), own_bit t);
}

pub two_threats : (threats free t u : ℕ) → bit t threats ≡ 1 → bit u (threats - 2 ^ t) ≡ 1 → Replied threats free (record { must = 0; lost = bit_or (2 ^ t) (2 ^ u) })
two_threats threats free t u h i =
    let fresh : (u ≢ t) × (bit u threats ≡ 1) = ⊎_elim (λ p. absurd (omega arith)) (λ p. (p.0, sym p.1 ∙ i)) (bit_less t threats h u) in
    let (apart, also) = fresh in
    record {
      inside = λ k j. absurd (omega (arith, bit_none k));
      meets = λ k v j l. absurd (omega (arith, j, bit_none k));
      lost_in = λ k j. ⊎_elim (one_within t threats h k) (one_within u threats also k) (in_or k (2 ^ t) (2 ^ u) j);
      left = λ k j out. ⊎_elim
          (λ same. (u, (λ e. apart (e ∙ sym same)), or_right u (2 ^ t) (2 ^ u) (own_bit u)))
          (λ other. (t, other, or_left t (2 ^ t) (2 ^ u) (own_bit t)))
          (cases_eq t k);
    }
