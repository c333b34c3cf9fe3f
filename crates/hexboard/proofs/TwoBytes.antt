-- Numbers of two bytes in memory: how many there are, what is read, and what is written.
use Rattle.std.proofs.Common.{◌≡◌, ℕ, zero, suc, ◌+◌, ◌*◌, ◌/◌, ◌%◌, ◌<◌, ◌≤◌, List, [], ◌∷◌, length, get_or, set, take, replicate, sym, refl, ap, ◌∙◌, ⊎_elim, arith}
use Rattle.std.proofs.lemmas.List.{ext_get_or, set_past}
use borrow.Rule.Slice.PartMut.{put_mid}
use Rattle.std.specs.Simd.{first_chunks}
use Rattle.std.proofs.lemmas.Bool.{cases_eq}
use Rattle.hexboard.specs.Words.{words}

-- There is a number for each pair of bytes.
pub words_length : (bs : List ℕ) → length (words bs) ≡ length bs / 2
words_length [] = refl
words_length (a ∷ []) = refl
words_length (a ∷ (b ∷ bs)) = let h = words_length bs in omega arith

-- The bytes of a number are two further on than those of the one before.
low_on : (i : ℕ) → suc i * 2 ≡ suc (suc (i * 2))
low_on i = omega arith

high_on : (i : ℕ) → suc i * 2 + 1 ≡ suc (suc (i * 2 + 1))
high_on i = omega arith

-- Number i is read at bytes i * 2 and i * 2 + 1.
pub word_at : (bs : List ℕ) (i d : ℕ) → i * 2 + 1 < length bs → get_or (words bs) i d ≡ get_or bs (i * 2) 0 + get_or bs (i * 2 + 1) 0 * 256
word_at [] i d l = omega arith
word_at (a ∷ []) i d l = omega arith
word_at (a ∷ (b ∷ bs)) zero d l = refl
word_at (a ∷ (b ∷ bs)) (suc i) d l = rw (high_on i, low_on i) (word_at bs i d (omega arith))

-- Number i stands in pair i of the bytes,
pub word_paired : (bs : List ℕ) (k i d : ℕ) (none : List ℕ) → i < k → k * 2 ≤ length bs →
    get_or (words bs) i d ≡ get_or (get_or (first_chunks 2 k bs) i none) 0 0 + get_or (get_or (first_chunks 2 k bs) i none) 1 0 * 256
word_paired bs zero i d none h l = absurd (omega arith)
word_paired [] (suc k) i d none h l = absurd (omega arith)
word_paired (a ∷ []) (suc k) i d none h l = absurd (omega arith)
word_paired (a ∷ (b ∷ bs)) (suc k) zero d none h l = refl
word_paired (a ∷ (b ∷ bs)) (suc k) (suc i) d none h l = word_paired bs k i d none (omega arith) (omega arith)

-- and two bytes that are put there are that number.
pub word_put : (bs : List ℕ) (i low high v at size : ℕ) (ys : List ℕ) → at ≡ i * 2 → size ≡ 2 → i * 2 + 1 < length bs → ys ≡ low ∷ (high ∷ []) → v ≡ low + high * 256 →
    words (put_mid at size bs ys) ≡ set (words bs) i v
word_put [] i low high v at size ys p q l y e = absurd (omega arith)
word_put (a ∷ []) i low high v at size ys p q l y e = absurd (omega arith)
word_put (a ∷ (b ∷ bs)) zero low high v at size ys p q l y e = rw (p, q, y, e) refl
word_put (a ∷ (b ∷ bs)) (suc i) low high v at size ys p q l y e =
    rw (p, low_on i) (ap (λ ws. (a + b * 256) ∷ ws) (word_put bs i low high v (i * 2) size ys refl q (omega arith) y e))

-- Past the bytes there is no number to write.
word_past : (bs : List ℕ) (i : ℕ) → length bs ≤ i * 2 + 1 → length (words bs) ≤ i
word_past bs i l = omega (arith, words_length bs)

pub write_past : (bs : List ℕ) (i v : ℕ) → length bs ≤ i * 2 + 1 → words bs ≡ set (words bs) i v
write_past bs i v l = sym (set_past (words bs) i v (word_past bs i l))

-- The first numbers stand in the first bytes.
pub words_take : (k : ℕ) (bs : List ℕ) → words (take (k * 2) bs) ≡ take k (words bs)
words_take zero bs = refl
words_take (suc k) [] = rw (low_on k) refl
words_take (suc k) (low ∷ []) = rw (low_on k) refl
words_take (suc k) (low ∷ (high ∷ bs)) = rw (low_on k) (ap (λ ws. (low + high * 256) ∷ ws) (words_take k bs))

-- Bytes that are all 0 are numbers that are all 0.
pub words_cleared : (m : ℕ) → words (replicate m 0) ≡ replicate (m / 2) 0
words_cleared zero = refl
words_cleared (suc zero) = refl
words_cleared (suc (suc m)) =
    let two : suc (suc m) / 2 ≡ suc (m / 2) = omega arith in
    rw two (ap (λ r. 0 ∷ r) (words_cleared m))

-- Each pair of bytes can be told from its number, so all bytes can.
pub same_bytes : (k : ℕ) (xs ys : List ℕ) → length xs ≡ k * 2 → length ys ≡ k * 2 → ((i : ℕ) → get_or xs i 0 < 256) → ((i : ℕ) → get_or ys i 0 < 256) → words xs ≡ words ys → xs ≡ ys
same_bytes k xs ys lx ly bx by e =
    ext_get_or 0 xs ys (lx ∙ sym ly) (λ j l.
    let p = pair (j / 2) (omega arith) in
    ⊎_elim
    (λ even. let at : j ≡ j / 2 * 2 = omega arith in rw at p.0)
    (λ odd. let at : j ≡ j / 2 * 2 + 1 = omega arith in rw at p.1)
    (cases_eq (j % 2) 0))
  where
    pair : (i : ℕ) → i < k → (get_or xs (i * 2) 0 ≡ get_or ys (i * 2) 0) × (get_or xs (i * 2 + 1) 0 ≡ get_or ys (i * 2 + 1) 0)
    pair i l =
        let same : get_or (words xs) i 0 ≡ get_or (words ys) i 0 = ap (λ w. get_or w i 0) e in
        let x = word_at xs i 0 (omega arith) in
        let y = word_at ys i 0 (omega arith) in
        omega (arith, bx (i * 2), by (i * 2), bx (i * 2 + 1), by (i * 2 + 1))
