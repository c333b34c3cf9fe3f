-- Border bits: which are set in two bytes joined, and when a byte has both.
use Rattle.std.proofs.Common.{◌≡◌, ℕ, ◌/◌, ◌%◌, ◌^◌, max, ◌⊎◌, ap, ◌∙◌, inl, inr, ⊎_elim, arith}
use lib.Bits.{bit_or, or_step, or_shr}
use Rattle.std.proofs.lemmas.Nat.{mod-pow-add}
use Rattle.std.proofs.lemmas.Bool.{cases_eq}
use Rattle.groups.specs.Meaning.{Both}

-- bit k is set
abbrev pub Has : ℕ → ℕ → Type 0
Has k bits = bits / 2 ^ k % 2 ≡ 1

or_bit : (k a b : ℕ) → bit_or a b / 2 ^ k % 2 ≡ max (a / 2 ^ k % 2) (b / 2 ^ k % 2)
or_bit k a b =
    ap (λ v. v % 2) (or_shr a b k ∙ or_step (a / 2 ^ k) (b / 2 ^ k)) ∙ omega arith

-- Two bytes joined have the bits of either, and no others.
pub has_left : (k a b : ℕ) → Has k a → Has k (bit_or a b)
has_left k a b h = omega (arith, or_bit k a b)

pub has_right : (k a b : ℕ) → Has k b → Has k (bit_or a b)
has_right k a b h = omega (arith, or_bit k a b)

pub has_either : (k a b : ℕ) → Has k (bit_or a b) → Has k a ⊎ Has k b
has_either k a b h = ⊎_elim inl (λ n. inr (omega (arith, or_bit k a b))) (cases_eq (a / 2 ^ k % 2) 1)

-- A byte has both bits exactly when each is set.
pub both_bits : (v : ℕ) → Both v → Has 0 v × Has 1 v
both_bits v h = omega arith

pub bits_both : (v : ℕ) → Has 0 v → Has 1 v → Both v
bits_both v h g = omega (arith, mod-pow-add v 1 1)
