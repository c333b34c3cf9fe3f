-- The flood: what its loop keeps, and what it gives at the end.
use Rattle.std.proofs.Common.{◌≡◌, ℕ, ◌-◌, ◌^◌, List, get_or, sym, ap, ◌∙◌, ⊎_elim, arith}
use lib.Bits.{bit_and, bit_or}
use Rattle.ranking.specs.Sets.{bit, Within}
use Rattle.ranking.proofs.Bits.{bit_less, bit_none, in_or_out, in_and, and_in, in_or, or_left, or_right}
use Rattle.endgame.specs.Floods.{Touched, begun, onward, Flood}

-- What has been touched so far, and which stones have not been passed.
pub record Flooding (near : List ℕ) (from x touched rest : ℕ) : Type 0 where
  pub started : Within from touched
  pub sound : (k : ℕ) → bit k touched ≡ 1 → Touched near from x k
  pub inside : Within rest x
  pub passed : (j : ℕ) → bit j x ≡ 1 → bit j rest ≡ 0 → Within (get_or near j 0) touched

pub flooding_none : (near : List ℕ) (from x : ℕ) → Flooding near from x from x
flooding_none near from x = record { started = λ k h. h; sound = λ k h. begun h; inside = λ k h. h; passed = λ j h g. absurd (omega arith) }

-- one stone is passed, and what is near it is touched
pub flooding_more : (near : List ℕ) (from x touched rest k : ℕ) → Flooding near from x touched rest → bit k (bit_and touched rest) ≡ 1 →
    Flooding near from x (bit_or touched (get_or near k 0)) (rest - 2 ^ k)
flooding_more near from x touched rest k h f =
    let (on, left) = in_and k touched rest f in
    record {
      started = λ j i. or_left j touched (get_or near k 0) (h.started j i);
      sound = λ j i. ⊎_elim (h.sound j) (λ n. onward (h.sound k on) (h.inside k left) n) (in_or j touched (get_or near k 0) i);
      inside = λ j i. h.inside j (omega (arith, bit_less k rest left j));
      passed = λ j i out l n. ⊎_elim (λ p. or_right l touched (get_or near k 0) (rw p.0 at n)) (λ p. or_left l touched (get_or near k 0) (h.passed j i (sym p.1 ∙ out) l n)) (bit_less k rest left j);
    }

-- no touched stone is left to pass
pub flooding_all : (near : List ℕ) (from x touched rest : ℕ) → Flooding near from x touched rest → bit_and touched rest ≡ 0 → Flood near from x touched
flooding_all near from x touched rest h e = record { sound = h.sound; complete = λ k. reached }
  where
    gone : (j : ℕ) → bit j touched ≡ 1 → bit j rest ≡ 0
    gone j t = ⊎_elim (λ r. absurd (omega (arith, and_in j touched rest t r, ap (bit j) e, bit_none j))) (λ out. out) (in_or_out j rest)

    reached : {k : ℕ} → Touched near from x k → bit k touched ≡ 1
    reached (begun b) = h.started _ b
    reached {k} (onward {j} t s n) = h.passed j s (gone j (reached t)) k n
