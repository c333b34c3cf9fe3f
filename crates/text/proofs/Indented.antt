-- What a hole with a width and nothing in it writes: so many spaces.
use Rattle.std.proofs.Common.{◌≡◌, ℕ, zero, suc, ◌-◌, ◌^◌, true, false, eqb, ◌&&◌, if◌then◌else◌, List, [], ◌++◌, codes, refl, ap, ◌∙◌, arith}
use Rattle.std.proofs.lemmas.Bool.Decides.{nat_tests}
use Rattle.std.specs.Fmt.{styled_text, padded, format_spec, take_chars, char_count}
use Rattle.std.specs.List.{repeat}
use lib.Utf8.{encode}
use Rattle.text.specs.Boards.{spaces}

-- a space in front is a space behind
space_moves : (k : ℕ) → codes " " ++ spaces k ≡ spaces k ++ codes " "
space_moves zero = refl
space_moves (suc k) = ap (λ (xs : List ℕ). xs ++ codes " ") (space_moves k)

repeated : (k : ℕ) → repeat k (codes " ") ≡ spaces k
repeated zero = refl
repeated (suc k) = ap (λ (xs : List ℕ). codes " " ++ xs) (repeated k) ∙ space_moves k

pub indented : (k : ℕ) → styled_text (format_spec 32 0 0 k (2 ^ 64 - 1)) [] ≡ spaces k
unfolding padded take_chars char_count encode
indented zero = refl
indented (suc k) =
    let some : eqb (suc k) 0 ≡ false = grind (arith, nat_tests) in
    let all : suc k - 0 - 0 ≡ suc k = omega arith in
    ap (λ t. if t && true then [] else repeat (suc k - 0 - 0) (codes " ")) some ∙ (ap (λ j. repeat j (codes " ")) all ∙ repeated (suc k))
