-- What an answer tells, and its bytes: each is known by the other.
use Rattle.std.proofs.Common.{◌≡◌, ℕ, ◌+◌, ◌*◌, ◌≤◌, cond, eqb, length, get_or, drop, Some, None, Option, sym, refl, ap, ◌∙◌, arith}
use Rattle.std.specs.List.{flat_map}
use Rattle.hexboard.specs.Games as games
use Rattle.hexboard.specs.Words.{words}
use Rattle.wire.specs.declared.answer.Answer.TheVariants.{Refused, Number, Way, Yes, No, TooMany}
use Rattle.wire.specs.Numbers.{Numbered, InBytes, answer_numbers}
use Rattle.wire.specs.Bytes.{two, in_bytes, shown, answer_bytes}
use Rattle.wire.specs.Reading.{Understood}
use Rattle.wire.specs.Formal.{told, shown_by}
use Rattle.wire.proofs.Words.{words_joined, length_joined}

-- what a case tells by its number and values
telling : Numbered → games.Answer
telling n =
    let v = n.values in
    cond (eqb n.number 0) (games.refused (get_or v 0 0) (get_or v 1 0)) (cond (eqb n.number 1) (games.number (get_or v 0 0)) (cond (eqb n.number 2) (games.way (get_or v 0 0) (drop 2 v))
    (cond (eqb n.number 3) (games.yes (get_or v 0 0)) (cond (eqb n.number 4) games.no games.too_many))))

tells_numbers : (a : games.Answer) → telling (answer_numbers a) ≡ a
unfolding telling
tells_numbers (games.refused r p) = refl
tells_numbers (games.number n) = refl
tells_numbers (games.way s w) = refl
tells_numbers (games.yes next) = refl
tells_numbers games.no = refl
tells_numbers games.too_many = refl

-- numbers are known by their bytes
same_numbers : (m n : Numbered) → in_bytes m ≡ in_bytes n → m ≡ n
same_numbers m n e =
    let p : m.number ≡ n.number = cc in
    let q : flat_map two m.values ≡ flat_map two n.values = cc in
    let r = sym (words_joined m.values) ∙ ap words q ∙ words_joined n.values in
    λ i. record { number = p i; values = r i }

pub same_answer : (a b : games.Answer) → shown a ≡ shown b → a ≡ b
same_answer a b e = sym (tells_numbers a) ∙ ap telling (same_numbers (answer_numbers a) (answer_numbers b) e) ∙ tells_numbers b

pub same_told : (a b : InBytes) → answer_bytes a ≡ answer_bytes b → told a ≡ told b
same_told a b e = same_answer (told a) (told b) e

pub same_bytes : (a b : InBytes) → told a ≡ told b → answer_bytes a ≡ answer_bytes b
same_bytes a b e = ap shown e

-- what is understood of an answer's bytes is that answer
pub understood : (a : InBytes) (r : Option InBytes) → Understood (answer_bytes a) r → (b : InBytes) × (r ≡ Some b) × (told b ≡ told a)
understood a None h = absurd (h a refl)
understood a (Some b) h = (b, refl, same_told b a h.1)

-- an answer takes at most five bytes, and two for each cell of a way
pub room : (a : InBytes) (cells : ℕ) → length (shown_by (told a)) ≤ cells → length (answer_bytes a) ≤ 2 * cells + 8
room (Refused why) cells few = omega arith
room (Number n) cells few = omega arith
room (Way side row) cells few = omega (arith, length_joined (words row.now))
room (Yes next) cells few = omega arith
room No cells few = omega arith
room TooMany cells few = omega arith
