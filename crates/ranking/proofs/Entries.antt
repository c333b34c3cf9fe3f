-- One place of a table of two bits to a place is written, and all the others stay.
use Rattle.std.proofs.Common.{◌≡◌, ℕ, zero, suc, ◌+◌, ◌-◌, ◌*◌, ◌/◌, ◌%◌, ◌^◌, ◌<◌, ◌≤◌, ◌≢◌, List, ◌++◌, length, get_or, replicate, set, sym, refl, ap, ◌∙◌, ⊎_elim, arith, length-set}
use lib.Bits.{bit_and, and_mask}
use Rattle.std.proofs.lemmas.List.{get_or-set_same, get_or-set_other, get_or_past, get_or_append_left, get_or-replicate, length-replicate}
use Rattle.std.proofs.lemmas.Bool.{cases_eq, cases_lt}
use Rattle.ranking.specs.Table.{entry, Put}

-- what holds of each of the four parts of a byte holds of all
quarters : (P : ℕ → Type 0) → P 0 → P 1 → P 2 → P 3 → (q : ℕ) → q < 4 → P q
quarters P a b c d zero h = a
quarters P a b c d (suc zero) h = b
quarters P a b c d (suc (suc zero)) h = c
quarters P a b c d (suc (suc (suc zero))) h = d
quarters P a b c d (suc (suc (suc (suc q)))) h = absurd (omega arith)

-- what stands in a byte at its q-th two bits
abbrev part : ℕ → ℕ → ℕ
part byte q = byte / 2 ^ (2 * q) % 4

-- a byte with v for its q-th two bits
abbrev with_part : ℕ → ℕ → ℕ → ℕ
with_part byte q v = byte - part byte q * 2 ^ (2 * q) + v * 2 ^ (2 * q)

part_fits : (byte v q : ℕ) → v < 4 → byte < 256 → q < 4 → (part byte q * 2 ^ (2 * q) ≤ byte) × (with_part byte q v < 256) × (v * 2 ^ (2 * q) < 256)
part_fits byte v q i f =
    quarters (λ q. (part byte q * 2 ^ (2 * q) ≤ byte) × (with_part byte q v < 256) × (v * 2 ^ (2 * q) < 256)) (omega arith) (omega arith) (omega arith) (omega arith) q

part_same : (byte v q : ℕ) → v < 4 → byte < 256 → q < 4 → part (with_part byte q v) q ≡ v
part_same byte v q i f = quarters (λ q. part (with_part byte q v) q ≡ v) (omega arith) (omega arith) (omega arith) (omega arith) q

part_other : (byte v q r : ℕ) → v < 4 → byte < 256 → q < 4 → r < 4 → r ≢ q → part (with_part byte q v) r ≡ part byte r
part_other byte v q r i f h =
    quarters (λ r. r ≢ q → part (with_part byte q v) r ≡ part byte r)
    (quarters (λ q. 0 ≢ q → part (with_part byte q v) 0 ≡ part byte 0) (omega arith) (omega arith) (omega arith) (omega arith) q h)
    (quarters (λ q. 1 ≢ q → part (with_part byte q v) 1 ≡ part byte 1) (omega arith) (omega arith) (omega arith) (omega arith) q h)
    (quarters (λ q. 2 ≢ q → part (with_part byte q v) 2 ≡ part byte 2) (omega arith) (omega arith) (omega arith) (omega arith) q h)
    (quarters (λ q. 3 ≢ q → part (with_part byte q v) 3 ≡ part byte 3) (omega arith) (omega arith) (omega arith) (omega arith) q h)
    r

-- the two bits as code reads them
pub read : (byte q : ℕ) → bit_and (byte / 2 ^ (2 * q)) 3 ≡ part byte q
read byte q = and_mask (byte / 2 ^ (2 * q)) 2

-- a table of zero bytes has zero at every place
pub all_clear : (n i : ℕ) → entry (replicate n 0) i ≡ 0
unfolding entry
all_clear n i =
    let zeros : get_or (replicate {A = ℕ} n 0) (i / 4) 0 ≡ 0 = ⊎_elim (get_or-replicate {A = ℕ} n (i / 4) 0 0) (λ p. get_or_past (replicate {A = ℕ} n 0) (i / 4) 0 (omega (arith, length-replicate {A = ℕ} n 0))) (cases_lt (i / 4) n) in
    rw zeros (quarters (λ q. 0 / 2 ^ (2 * q) % 4 ≡ 0) refl refl refl refl (i % 4) (omega arith))

-- what is behind a table changes no entry of it
pub entry_front : (t u : List ℕ) (i : ℕ) → i / 4 < length t → entry (t ++ u) i ≡ entry t i
unfolding entry
entry_front t u i l = rw (get_or_append_left t u 0 (i / 4) l) refl

-- what the code writes: the byte without its old part, and with the new one
abbrev pub old : ℕ → ℕ → ℕ
old byte q = bit_and (byte / 2 ^ (2 * q)) 3 * 2 ^ (2 * q) % 256

abbrev pub new : ℕ → ℕ → ℕ
new v q = v * 2 ^ (2 * q) % 256

pub writes : (byte v q : ℕ) → v < 4 → byte < 256 → q < 4 → (old byte q ≤ byte) × (byte - old byte q + new v q < 256) × (byte - old byte q + new v q ≡ with_part byte q v)
writes byte v q i f h = let (a, b, c) = part_fits byte v q i f h in rw (read byte q) (omega arith)

-- so that byte of the table is written, and no place but one changes
pub written : (t : List ℕ) (i v : ℕ) → i / 4 < length t → v < 4 → get_or t (i / 4) 0 < 256 →
    Put t (set t (i / 4) (get_or t (i / 4) 0 - old (get_or t (i / 4) 0) (i % 4) + new v (i % 4))) i v
unfolding entry
written t i v h s f =
    let byte = get_or t (i / 4) 0 in
    let after = set t (i / 4) (with_part byte (i % 4) v) in
    rw (writes byte v (i % 4) s f (omega arith)).2
    (record {
      long = length-set t (i / 4) (with_part byte (i % 4) v);
      there = rw (get_or-set_same t (i / 4) (with_part byte (i % 4) v) 0 h) (part_same byte v (i % 4) s f (omega arith));
      others = λ j n. ⊎_elim
          (λ e. ap (λ k. part (get_or after k 0) (j % 4)) e
          ∙ rw (get_or-set_same t (i / 4) (with_part byte (i % 4) v) 0 h) (part_other byte v (i % 4) (j % 4) s f (omega arith) (omega arith) (omega arith))
          ∙ ap (λ k. part (get_or t k 0) (j % 4)) (sym e))
          (λ e. rw (get_or-set_other t (i / 4) (j / 4) (with_part byte (i % 4) v) 0 e))
          (cases_eq (j / 4) (i / 4));
    })
