-- Numbers of two bytes each: what stands behind one more.
use Rattle.std.proofs.Common.{◌≡◌, ℕ, ◌+◌, ◌*◌, List, drop, sym, ap, ◌∙◌, arith}
use Rattle.std.proofs.lemmas.List.{drop-drop}

-- Bytes that are the same behind k numbers are the same behind one more.
pub behind_more : (bs cs : List ℕ) (k : ℕ) → drop (2 * k) bs ≡ drop (2 * k) cs → drop (2 * (k + 1)) bs ≡ drop (2 * (k + 1)) cs
behind_more bs cs k same =
    let two : 2 * (k + 1) ≡ 2 * k + 2 = omega arith in
    rw two (sym (drop-drop 2 (2 * k) bs) ∙ ap (drop 2) same ∙ drop-drop 2 (2 * k) cs)
