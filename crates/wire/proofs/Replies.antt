-- A row of bytes is read as the answer that it is, or is no answer's bytes.
use Rattle.std.proofs.Common.{◌≡◌, ℕ, suc, ◌+◌, ◌*◌, ◌<◌, ◌≤◌, List, [], ◌∷◌, ◌++◌, length, get_or, drop, Option, Some, None, Ok, Err, Result, ◌-◌, sym, ap, ◌∙◌, arith, Bor}
use Rattle.std.proofs.lemmas.List.{drop_all, nil_from_length}
use Rattle.std.proofs.lemmas.Bool.Decides.{nat_tests}
use Rattle.std.specs.List.{flat_map}
use Rattle.std.specs.Option.{SomeIff}
use Rattle.std.specs.Result.{OkIff, result_ok}
use Rattle.hexboard.specs.Sides.{side_numbered}
use Rattle.hexboard.specs.declared.side.Side.TheVariants.{One, Two}
use Rattle.hexboard.specs.Sides as sides
use Rattle.hexboard.specs.declared.side.Side.{Side}
use Rattle.wire.specs.declared.answer.Answer.TheVariants.{Refused, Number, Way, Yes, No, TooMany}
use Rattle.hexboard.specs.Words.{words}
use Rattle.wire.specs.Numbers.{InBytes, Row, next_of}
use Rattle.wire.specs.Bytes.{two, answer_bytes}
use Rattle.wire.specs.Reading.{Understood}
use Rattle.wire.proofs.Words.{two_given, same_two, length_joined}
use Rattle.wire.proofs.Rows.{way_bytes}

heads : {x y : ℕ} {xs ys : List ℕ} → x ∷ xs ≡ y ∷ ys → x ≡ y
heads e = cc

-- the first two of some bytes, as the bytes of the number that they give
front_two : (bs : List ℕ) → ((i : ℕ) → get_or bs i 0 < 256) → (n : ℕ) → 1 < length bs → n ≡ get_or bs 0 0 + get_or bs 1 0 * 256 → two n ++ drop 2 bs ≡ bs
front_two [] small n long e = absurd (omega arith)
front_two (low ∷ []) small n long e = absurd (omega arith)
front_two (low ∷ (high ∷ bs)) small n long e = ap (λ t. t ++ bs) (ap two e ∙ two_given low high (small 0))

-- a byte alone
pub a_byte : (bs : List ℕ) (n : ℕ) → length bs ≡ 1 → get_or bs 0 0 ≡ n → n ∷ [] ≡ bs
a_byte [] n long e = absurd (omega arith)
a_byte (b ∷ bs) n long e = let r = nil_from_length bs (omega arith) in cc

-- a byte and a number
pub a_number : (bs : List ℕ) → ((i : ℕ) → get_or bs i 0 < 256) → (n m : ℕ) → length bs ≡ 3 → get_or bs 0 0 ≡ n → m ≡ get_or bs 1 0 + get_or bs 2 0 * 256 → n ∷ two m ≡ bs
a_number [] small n m long e f = absurd (omega arith)
a_number (b ∷ bs) small n m long e f =
    let r = front_two bs (λ i. small (suc i)) m (omega arith) f in
    let d = drop_all 2 bs (omega arith) in cc

-- a byte, two numbers, and what follows
two_numbers : (bs : List ℕ) → ((i : ℕ) → get_or bs i 0 < 256) → (n m k : ℕ) → 5 ≤ length bs → get_or bs 0 0 ≡ n →
    m ≡ get_or bs 1 0 + get_or bs 2 0 * 256 → k ≡ get_or bs 3 0 + get_or bs 4 0 * 256 → n ∷ (two m ++ (two k ++ drop 5 bs)) ≡ bs
two_numbers [] small n m k long e f g = absurd (omega arith)
two_numbers (a ∷ []) small n m k long e f g = absurd (omega arith)
two_numbers (a ∷ (b ∷ [])) small n m k long e f g = absurd (omega arith)
two_numbers (a ∷ (b ∷ (c ∷ bs))) small n m k long e f g =
    let r = two_given b c (small 1) in
    let s = front_two bs (λ i. small (suc (suc (suc i)))) k (omega arith) g in cc

-- so what is read by these is read by the bytes
pub by_two_numbers : (bs : List ℕ) → ((i : ℕ) → get_or bs i 0 < 256) → (n m k : ℕ) (rest : List ℕ) → 5 ≤ length bs → get_or bs 0 0 ≡ n → m ≡ get_or bs 1 0 + get_or bs 2 0 * 256 → k ≡ get_or bs 3 0 + get_or bs 4 0 * 256 →
    rest ≡ drop 5 bs → (r : Option InBytes) → Understood (n ∷ (two m ++ (two k ++ rest))) r → Understood bs r
by_two_numbers bs small n m k rest long e f g is r h = rw (two_numbers bs small n m k long e f g) at (rw is at h)

-- bytes that begin with 2 are those of no answer but a way
only_way : (a : InBytes) (bs : List ℕ) → answer_bytes a ≡ 2 ∷ bs → (side : Side) × (cells : Bor (List ℕ)) × (answer_bytes (Way side cells) ≡ 2 ∷ bs)
only_way (Refused why) bs e = absurd (omega (arith, heads e))
only_way (Number n) bs e = absurd (omega (arith, heads e))
only_way (Way side cells) bs e = (side, cells, e)
only_way (Yes n) bs e = absurd (omega (arith, heads e))
only_way No bs e = absurd (omega (arith, heads e))
only_way TooMany bs e = absurd (omega (arith, heads e))

-- they are as long as the count says
way_says : (side : Side) (cells : Bor (List ℕ)) (s k : ℕ) (bs : List ℕ) → answer_bytes (Way side cells) ≡ 2 ∷ (two s ++ (two k ++ bs)) → length bs ≡ 2 * k
way_says side cells s k bs e =
    let n = length (words cells.now) in
    let q : two n ≡ two k = cc in
    let r : flat_map two (words cells.now) ≡ bs = cc in
    omega (arith, same_two n k q, length_joined (words cells.now), ap length r)

pub other_count : (s k : ℕ) (bs : List ℕ) → (length bs ≡ 2 * k → ⊥) → (a : InBytes) → answer_bytes a ≡ 2 ∷ (two s ++ (two k ++ bs)) → ⊥
other_count s k bs none a e = let (side, cells, f) = only_way a _ e in none (way_says side cells s k bs f)

-- a way of as many cells as are counted
pub a_way : (side : Side) (s k : ℕ) (cells : Bor (List ℕ)) → ((i : ℕ) → get_or cells.now i 0 < 256) → sides.number side ≡ s → k < 65536 → length cells.now ≡ 2 * k → Row cells.now × (answer_bytes (Way side cells) ≡ 2 ∷ (two s ++ (two k ++ cells.now)))
a_way side s k cells small is few long =
    (record { even = omega arith; few = omega arith }, rw (sym is) (way_bytes side k cells small long))

-- a side that is read by a number has it
side_has : (s : Side) (m : ℕ) → Some s ≡ result_ok (side_numbered m) → sides.number s ≡ m
side_has One m h = grind (arith, nat_tests)
side_has Two m h = grind (arith, nat_tests)

pub side_read : {E : Type 0} (s : Side) (n m : ℕ) (byte : Result ℕ E) → OkIff byte (n < 256) n → Some m ≡ result_ok byte → Some s ≡ result_ok (side_numbered m) → sides.number s ≡ n
side_read s n m (Ok x) is e h = let z : m ≡ x = cc in side_has s m h ∙ z ∙ is.1
side_read s n m (Err x) is e h = absurd (let z : ◌≡◌ {A = ℕ} 0 1 = cc in omega arith)

-- what is one less than a number is a cell, of which that number is one more
pub cell_read : (next : ℕ) (cell : Option ℕ) → SomeIff cell (1 ≤ next) (next - 1) → next_of cell ≡ next
cell_read next None none = omega arith
cell_read next (Some cell) some = omega (arith, some.0, some.1)

pub a_cell : (bs : List ℕ) → ((i : ℕ) → get_or bs i 0 < 256) → (next : ℕ) (cell : Option ℕ) → length bs ≡ 3 → get_or bs 0 0 ≡ 3 → next ≡ get_or bs 1 0 + get_or bs 2 0 * 256 →
    next < 65536 → SomeIff cell (1 ≤ next) (next - 1) → Understood bs (Some (Yes cell))
a_cell bs small next cell long e f few is =
    let n = cell_read next cell is in (rw n few, rw n (a_number bs small 3 next long e f))
