-- That a way is the only shortest, by looking at every list of cells that is no longer.
use Rattle.std.proofs.Common.{◌≡◌, ℕ, zero, suc, ◌<◌, ◌≤◌, Bool, true, ◌&&◌, ◌||◌, not, List, [], ◌∷◌, length, sym, ap, ◌∙◌, ⊎_elim, arith}
use Rattle.std.specs.Cmp.Lexicographic.{pointwise, same_text}
use Rattle.std.specs.Prelude.{nat_eq}
use Rattle.std.proofs.lemmas.Bool.{false≢true, and_parts, or_cases, not-true, both_ways, cases_eq}
use Rattle.hexboard.specs.Board.{Board, goes_on, is_way}
use Rattle.theorems.proofs.Ways.{goes_on_parts, way_parts}

-- a test holds of every number below n
unfoldable pub all_below : (ℕ → Bool) → ℕ → Bool
all_below test zero = true
all_below test (suc n) = test n && all_below test n

below : (test : ℕ → Bool) (n i : ℕ) → all_below test n ≡ true → i < n → test i ≡ true
unfolding all_below
below test zero i e h = absurd (omega arith)
below test (suc n) i e h =
    let (here, rest) = and_parts (test n) (all_below test n) e in
    ⊎_elim (λ same. ap test same ∙ here) (λ apart. below test n i rest (omega arith)) (cases_eq i n)

-- a test holds of every list of at most k numbers below n
unfoldable pub all_lists : ℕ → ℕ → (List ℕ → Bool) → Bool
all_lists n zero test = test []
all_lists n (suc k) test = test [] && all_below (λ i. all_lists n k (λ w. test (i ∷ w))) n

-- Cells that go on a way are cells of the board, so a test of all short lists of its cells is a test of them.
listed_on : (b : Board) (s k i : ℕ) (w : List ℕ) (test : List ℕ → Bool) → goes_on b s i w ≡ true → length w ≤ k →
    all_lists (length b.cells) k test ≡ true → test w ≡ true
unfolding all_lists goes_on
listed_on b s zero i [] test on few all = all
listed_on b s (suc k) i [] test on few all = (and_parts (test []) _ all).0
listed_on b s zero i (j ∷ w) test on few all = absurd (omega arith)
listed_on b s (suc k) i (j ∷ w) test on few all =
    let (near, stone, rest) = goes_on_parts b s i j w on in
    listed_on b s k j w (λ v. test (j ∷ v)) rest (omega arith) (below _ (length b.cells) j (and_parts (test []) _ all).1 stone.0)

listed : (b : Board) (s k : ℕ) (w : List ℕ) (test : List ℕ → Bool) → is_way b s w ≡ true → length w ≤ k →
    all_lists (length b.cells) k test ≡ true → test w ≡ true
unfolding all_lists is_way
listed b s k [] test way few all = absurd (false≢true way)
listed b s zero (j ∷ w) test way few all = absurd (omega arith)
listed b s (suc k) (j ∷ w) test way few all =
    let (near, stone, rest) = way_parts b s j w way in
    listed_on b s k j w (λ v. test (j ∷ v)) rest (omega arith) (below _ (length b.cells) j (and_parts (test []) _ all).1 stone.0)

-- no list of cells that is no longer than w is a way, but w
abbrev pub only_way : Board → ℕ → List ℕ → Bool
only_way b s w = all_lists (length b.cells) (length w) (λ v. not (is_way b s v) || pointwise nat_eq v w)

pub only_shortest : (b : Board) (s : ℕ) (v w : List ℕ) → only_way b s w ≡ true → is_way b s v ≡ true → length v ≤ length w → v ≡ w
only_shortest b s v w all is few =
    ⊎_elim (λ isnt. absurd (both_ways (is_way b s v) (not-true _ isnt) is)) (λ same. same_text v w (sym same))
    (or_cases (not (is_way b s v)) (pointwise nat_eq v w) (listed b s (length w) v _ is few all))
