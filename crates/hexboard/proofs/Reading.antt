-- What is read on a cell, and what stands there.
use Rattle.std.proofs.Common.{◌≡◌, ℕ, Option, Some, sym, refl, ◌∙◌, arith}
use Rattle.std.proofs.lemmas.Bool.Decides.{nat_tests}
use Rattle.hexboard.specs.Sides.{number, by_number}
use Rattle.hexboard.specs.declared.side.Side.{Side}
use Rattle.hexboard.specs.declared.side.Side.TheVariants.{One, Two}

-- A cell on which a side's stone is read holds that side's number,
stone_number : (s : Side) (a : ℕ) → Some s ≡ by_number a → a ≡ number s
stone_number One a h = grind (arith, nat_tests)
stone_number Two a h = grind (arith, nat_tests)

pub stone_read : {s : Side} {r : Option Side} {a : ℕ} → r ≡ by_number a → Some s ≡ r → a ≡ number s
stone_read {s} {r} {a} h is = stone_number s a (is ∙ h)

-- and one on which it is not read holds another.
number_stone : (s : Side) (a : ℕ) → a ≡ number s → Some s ≡ by_number a
number_stone One a e = rw e refl
number_stone Two a e = rw e refl

pub stone_other : {s : Side} {r : Option Side} {a : ℕ} → r ≡ by_number a → (Some s ≡ r → ⊥) → a ≡ number s → ⊥
stone_other {s} {r} {a} h isnt e = isnt (number_stone s a e ∙ sym h)
