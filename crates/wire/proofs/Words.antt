-- Numbers in two bytes, low byte first: what is written is read again, and what is read is written again.
use Rattle.std.proofs.Common.{◌≡◌, ℕ, suc, ◌+◌, ◌*◌, ◌/◌, ◌%◌, ◌<◌, List, [], ◌∷◌, ◌++◌, length, get_or, refl, ap, ◌∙◌, arith}
use Rattle.std.specs.List.{flat_map}
use Rattle.wire.specs.Bytes.{two}
use Rattle.hexboard.specs.Words.{words}

-- the bytes of the number that two bytes give are these bytes
pub two_given : (low high : ℕ) → low < 256 → two (low + high * 256) ≡ low ∷ (high ∷ [])
two_given low high small =
    let a : (low + high * 256) % 256 ≡ low = omega arith in
    let b : (low + high * 256) / 256 ≡ high = omega arith in
    rw (a, b)

-- the number that the bytes of a number give is this number
pub given_two : (n : ℕ) → n % 256 + n / 256 * 256 ≡ n
given_two n = omega arith

-- a number is known by its bytes
pub same_two : (m n : ℕ) → two m ≡ two n → m ≡ n
same_two m n e =
    let a : m % 256 ≡ n % 256 = cc in
    let b : m / 256 ≡ n / 256 = cc in
    omega (arith, a, b)

pub words_joined : (ws : List ℕ) → words (flat_map two ws) ≡ ws
words_joined [] = refl
words_joined (w ∷ ws) = rw (given_two w, words_joined ws)

pub length_joined : (ws : List ℕ) → length (flat_map two ws) ≡ 2 * length ws
length_joined [] = refl
length_joined (w ∷ ws) = let r = length_joined ws in omega arith

-- an even number of bytes are those of the numbers that they give
pub joined_words : (bs : List ℕ) → ((i : ℕ) → get_or bs i 0 < 256) → length bs % 2 ≡ 0 → flat_map two (words bs) ≡ bs
joined_words [] small even = refl
joined_words (low ∷ []) small even = absurd (omega arith)
joined_words (low ∷ (high ∷ bs)) small even =
    ap (λ t. t ++ flat_map two (words bs)) (two_given low high (small 0)) ∙ ap (λ t. low ∷ (high ∷ t)) (joined_words bs (λ i. small (suc (suc i))) (omega arith))
