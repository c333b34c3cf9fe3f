-- How far two rows of bytes agree, as one passes over both.
use Rattle.std.proofs.Common.{◌≡◌, ℕ, zero, suc, ◌<◌, eqb, List, [], ◌∷◌, get_or, arith, eqb-true}
use Rattle.std.specs.List.{zip, prefix_len}
use Rattle.std.proofs.lemmas.Bool.{cond_both}
use Rattle.std.proofs.lemmas.Bool.Decides.{nat_tests}
use Rattle.text.specs.Places.{Agree}

agree_more : (x y : ℕ) (xs ys : List ℕ) (p q : ℕ) → q ≡ suc p → x ≡ y → Agree xs ys p → Agree (x ∷ xs) (y ∷ ys) q
agree_more x y xs ys p q is e a =
    rw is (record { in_word = omega (arith, a.in_word); in_bytes = omega (arith, a.in_bytes); same = each; stops = λ h l. a.stops (omega arith) (omega arith) })
  where
    each : (k : ℕ) → k < suc p → get_or (x ∷ xs) k 0 ≡ get_or (y ∷ ys) k 0
    each zero h = e
    each (suc k) h = a.same k (omega arith)

agree_none : (x y : ℕ) (xs ys : List ℕ) → (x ≡ y → ⊥) → Agree (x ∷ xs) (y ∷ ys) 0
agree_none x y xs ys other = record { in_word = omega arith; in_bytes = omega arith; same = λ k h. absurd (omega arith); stops = λ h l. other }

-- as many bytes agree as pairs of the two are of one byte, from the front on
pub agreed : (xs ys : List ℕ) → Agree xs ys (prefix_len (λ p. eqb p.0 p.1) (zip xs ys))
agreed [] ys = record { in_word = omega arith; in_bytes = omega arith; same = λ k h. absurd (omega arith); stops = λ h l. absurd (omega arith) }
agreed (x ∷ xs) [] = record { in_word = omega arith; in_bytes = omega arith; same = λ k h. absurd (omega arith); stops = λ h l. absurd (omega arith) }
agreed (x ∷ xs) (y ∷ ys) =
    cond_both (eqb x y) _ _ (Agree (x ∷ xs) (y ∷ ys)) (λ t. agree_more x y xs ys _ _ (omega arith) (eqb-true x y t) (agreed xs ys))
    (λ f. agree_none x y xs ys (λ e. grind (arith, nat_tests)))
