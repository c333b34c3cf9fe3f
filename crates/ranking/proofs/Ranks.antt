-- Each position has a place of its own, below the number of positions.
use Rattle.std.proofs.Common.{◌≡◌, ℕ, zero, suc, ◌+◌, ◌-◌, ◌/◌, ◌%◌, ◌^◌, ◌<◌, ◌≤◌, sym, refl, ap, ◌∙◌, ap₂, ⊎_elim, pow-suc, arith}
use native.Mathlib.Nat.{sub-zero}
use lib.Count.{ones, ones_step, ones-le}
use Rattle.std.proofs.lemmas.Bool.{cases_eq, cases_order}
use Rattle.std.proofs.lemmas.Bool.Decides.{nat_tests}
use Rattle.ranking.specs.Sets.{bit, Apart}
use Rattle.ranking.specs.Positions.{Position, choose, count, before, rank, start, total, place, stones_up_to, free_at}
use Rattle.ranking.proofs.Counting.{start_small, mine_room, theirs_room, both_room, empty_room, count_none}

-- what can stand on a cell: m of mine and t of theirs
data Letter : ℕ → ℕ → Type 0 where
  none : Letter 0 0
  mine : Letter 1 0
  theirs : Letter 0 1

letter : (m t : ℕ) → m + t ≤ 1 → Letter m t
letter zero zero h = none
letter zero (suc zero) h = theirs
letter zero (suc (suc t)) h = absurd (omega arith)
letter (suc zero) zero h = mine
letter (suc zero) (suc t) h = absurd (omega arith)
letter (suc (suc m)) t h = absurd (omega arith)

-- a first cell and a rank of the rest make a rank of the whole
step_below : (k a b r : ℕ) {m t : ℕ} → Letter m t → m ≤ a → t ≤ b → r < count k (a - m) (b - t) → before k m t a b + r < count (suc k) a b
unfolding before
step_below k a b r none p q h = omega (arith, simp sub-zero at h, empty_room k a b)
step_below k a b r mine p q h = omega (arith, simp sub-zero at h, mine_room k a b p)
step_below k a b r theirs p q h = omega (arith, simp sub-zero at h, theirs_room k a b q)

-- with as many stones, different first cells have ranks apart
step_apart : (k a b r s : ℕ) {m t n u : ℕ} → Letter m t → Letter n u → m ≤ a → t ≤ b → n ≤ a → u ≤ b →
    r < count k (a - m) (b - t) → s < count k (a - n) (b - u) → before k m t a b + r ≡ before k n u a b + s → (m ≡ n) × (t ≡ u) × (r ≡ s)
unfolding before
step_apart k a b r s none none p q v w h i e = omega arith
step_apart k a b r s none mine p q v w h i e = omega (arith, simp sub-zero at h)
step_apart k a b r s none theirs p q v w h i e = omega (arith, simp sub-zero at h, theirs_room k a b w)
step_apart k a b r s mine none p q v w h i e = omega (arith, simp sub-zero at i)
step_apart k a b r s mine mine p q v w h i e = omega arith
step_apart k a b r s mine theirs p q v w h i e = omega (arith, simp sub-zero at h, both_room k a b p w)
step_apart k a b r s theirs none p q v w h i e = omega (arith, simp sub-zero at i, theirs_room k a b q)
step_apart k a b r s theirs mine p q v w h i e = omega (arith, simp sub-zero at i, both_room k a b v q)
step_apart k a b r s theirs theirs p q v w h i e = omega arith

-- two sets of k cells, with no cell in both
abbrev Laid : ℕ → ℕ → ℕ → Type 0
Laid k x y = (x < 2 ^ k) × (y < 2 ^ k) × Apart x y

behind : (k x y : ℕ) → Laid (suc k) x y → Laid k (x / 2) (y / 2)
unfolding bit
behind k x y h = (omega (arith, pow-suc 2 k), omega (arith, pow-suc 2 k), λ j. h.2 (suc j))

first : (k x y : ℕ) → Laid k x y → Letter (x % 2) (y % 2)
unfolding bit
first k x y h = letter (x % 2) (y % 2) (h.2 0)

-- the stones that are left behind the first cell
left : (x a : ℕ) → ones x ≡ a → (x % 2 ≤ a) × (ones (x / 2) ≡ a - x % 2)
left x a e = omega (arith, ones_step x)

rank_below : (k x y : ℕ) → Laid k x y → rank k x y < count k (ones x) (ones y)
unfolding rank
rank_below zero x y h =
    let no-x : ones x ≡ 0 = omega (arith, ones-le 0 x h.0) in
    let no-y : ones y ≡ 0 = omega (arith, ones-le 0 y h.1) in
    rw (no-x, no-y) (omega (arith, count_none))
rank_below (suc k) x y h =
    let (a, more-a) = left x (ones x) refl in
    let (b, more-b) = left y (ones y) refl in
    step_below k (ones x) (ones y) (rank k (x / 2) (y / 2)) (first (suc k) x y h) a b
    (rw (more-a, more-b) at (rank_below k (x / 2) (y / 2) (behind k x y h)))

-- with as many stones of each side, and the same rank, two positions are the same
rank_once : (k a b x y z w : ℕ) → Laid k x y → Laid k z w → ones x ≡ a → ones y ≡ b → ones z ≡ a → ones w ≡ b →
    rank k x y ≡ rank k z w → (x ≡ z) × (y ≡ w)
unfolding rank
rank_once zero a b x y z w h i p q u v e = omega arith
rank_once (suc k) a b x y z w h i p q u v e =
    let (px, tx) = left x a p in
    let (py, ty) = left y b q in
    let (pz, tz) = left z a u in
    let (pw, tw) = left w b v in
    let below-xy = rw (tx, ty) at (rank_below k (x / 2) (y / 2) (behind k x y h)) in
    let below-zw = rw (tz, tw) at (rank_below k (z / 2) (w / 2) (behind k z w i)) in
    let (m, t, r) = step_apart k a b _ _ (first (suc k) x y h) (first (suc k) z w i) px py pz pw below-xy below-zw (rw (p, q, u, v) at e) in
    let halves = rank_once k (a - x % 2) (b - y % 2) _ _ _ _ (behind k x y h) (behind k z w i) tx ty (tz ∙ ap (λ n. a - n) (sym m)) (tw ∙ ap (λ n. b - n) (sym t)) r in
    omega arith

-- positions with fewer stones come first
pub start_more : (e m d : ℕ) → start e m ≤ start e (m + d)
unfolding start
start_more e m zero = let same : m + 0 ≡ m = omega arith in rw same (omega arith)
start_more e m (suc d) = let next : m + suc d ≡ suc (m + d) = omega arith in rw next (omega (arith, start_more e m d))

-- the stones of a position are as many as the turns say
abbrev pub stones : ℕ → ℕ → ℕ
stones x y = ones x + ones y

turns : (e x y : ℕ) → Position e x y → (ones x ≡ stones x y / 2) × (ones y ≡ (stones x y + 1) / 2)
turns e x y h = ⊎_elim (λ p. omega arith) (λ p. omega arith) h.turn

laid : (e x y : ℕ) → Position e x y → Laid e x y
laid e x y h = (h.mine_fits, h.theirs_fits, h.apart)

-- a position's place is before that of every position with more stones
pub place_next : (e x y : ℕ) → Position e x y → place e x y < start e (suc (stones x y))
unfolding place start
place_next e x y h =
    let (a, b) = turns e x y h in omega (arith, ap₂ (count e) a b, rank_below e x y (laid e x y h))

-- two sets with no cell in both have no more stones than there are cells
stones_le : (e x y : ℕ) → Laid e x y → stones x y ≤ e
stones_le zero x y h = omega (arith, ones-le 0 x h.0, ones-le 0 y h.1)
stones_le (suc e) x y h = one_more (first (suc e) x y h) (stones_le e (x / 2) (y / 2) (behind e x y h))
  where
    head_le : {m t : ℕ} → Letter m t → m + t ≤ 1
    head_le none = omega arith
    head_le mine = omega arith
    head_le theirs = omega arith

    one_more : Letter (x % 2) (y % 2) → stones (x / 2) (y / 2) ≤ e → stones x y ≤ suc e
    one_more l h = omega (arith, head_le l, ones_step x, ones_step y)

pub stones_few : (e x y : ℕ) → Position e x y → ones x + ones y ≤ e
stones_few e x y h = stones_le e x y (laid e x y h)

-- EACH POSITION HAS A PLACE below the number of positions,
pub place_below : (e x y : ℕ) → Position e x y → place e x y < total e
place_below e x y h =
    let few = stones_le e x y (laid e x y h) in
    let same : suc (stones x y) + (e - stones x y) ≡ e + 1 = omega arith in
    omega (arith, place_next e x y h, rw same at (start_more e (suc (stones x y)) (e - stones x y)))

-- A position's place is not before that of any position with as many stones, so the place tells how many it has.
pub place_from : (e x y : ℕ) → start e (stones x y) ≤ place e x y
unfolding place
place_from e x y = omega arith

stones_there : (e x y m : ℕ) → Position e x y → stones x y ≤ m → stones_up_to e (place e x y) m ≡ stones x y
unfolding stones_up_to
stones_there e x y zero h l = omega arith
stones_there e x y (suc m) h l = ⊎_elim
    (λ same. let begun : start e (suc m) ≤ place e x y = rw same at (place_from e x y) in grind (arith, nat_tests, begun))
    (λ apart.
    let more : suc (stones x y) + (m - stones x y) ≡ suc m = omega arith in
    let later : place e x y < start e (suc m) = omega (arith, place_next e x y h, rw more at (start_more e (suc (stones x y)) (m - stones x y))) in
    let before = stones_there e x y m h (omega arith) in
    grind (arith, nat_tests, later, before))
    (cases_eq (stones x y) (suc m))

pub free_there : (e x y : ℕ) → Position e x y → free_at e (place e x y) + stones x y ≡ e
free_there e x y h = omega (arith, stones_there e x y e h (stones_few e x y h), stones_few e x y h)

-- and no other position has it.
sooner : (e x y z w : ℕ) → Position e x y → stones x y < stones z w → place e x y < place e z w
unfolding place
sooner e x y z w h fewer =
    let same : suc (stones x y) + (stones z w - suc (stones x y)) ≡ stones z w = omega arith in
    omega (arith, place_next e x y h, rw same at (start_more e (suc (stones x y)) (stones z w - suc (stones x y))))

pub place_once : (e x y z w : ℕ) → Position e x y → Position e z w → place e x y ≡ place e z w → (x ≡ z) × (y ≡ w)
unfolding place
place_once e x y z w h i same =
    let many : stones x y ≡ stones z w =
    ⊎_elim (λ m. m) (⊎_elim (λ l. absurd (omega (arith, sooner e x y z w h l))) (λ l. absurd (omega (arith, sooner e z w x y i l)))) (cases_order (stones x y) (stones z w)) in
    let (a, b) = turns e x y h in
    let (c, d) = turns e z w i in
    rank_once e (ones x) (ones y) x y z w (laid e x y h) (laid e z w i) refl refl (omega arith) (omega arith) (omega (arith, ap (start e) many))

-- an end with more cells has more positions
start_wider : (e m : ℕ) → start e m ≤ start (suc e) m
unfolding start
start_wider e zero = omega arith
start_wider e (suc m) = omega (arith, start_wider e m, empty_room e (m / 2) ((m + 1) / 2))

pub total_wider : (e d : ℕ) → total e ≤ total (e + d)
total_wider e zero = let same : e + 0 ≡ e = omega arith in rw same (omega arith)
total_wider e (suc d) =
    let more : e + suc d ≡ suc (e + d) = omega arith in
    let next : suc (e + d) + 1 ≡ e + d + 1 + 1 = omega arith in
    rw (more, next) (omega (arith, total_wider e d, start_wider (e + d) (e + d + 1), start_more (suc (e + d)) (e + d + 1) 1))

-- with 16 cells there are so many positions, and with fewer cells no more
total_16 : total 16 ≡ 10165779
unfolding start count choose
total_16 = refl

pub total_most : (e : ℕ) → e ≤ 16 → total e ≤ 10165779
total_most e h = let all : e + (16 - e) ≡ 16 = omega arith in omega (arith, total_16, rw all at (total_wider e (16 - e)))

-- a place is a number that fits
pub place_small : (e x y : ℕ) → e ≤ 16 → Position e x y → place e x y < 2 ^ 40
place_small e x y h p = omega (arith, place_below e x y p, start_small e (e + 1) h (omega arith))

-- Cell by cell, from the lowest: x and y are what is left of the sets z and w on the last k cells, with a and b stones, and p is how
-- many positions come before by what was passed.
pub record Walked (e z w k x y a b p : ℕ) : Type 0 where
  pub sets : Laid k x y
  pub a_is : ones x ≡ a
  pub b_is : ones y ≡ b
  pub sum : p + rank k x y ≡ place e z w

pub walk_none : (e z w : ℕ) → Position e z w → Walked e z w e z w (ones z) (ones w) (start e (ones z + ones w))
unfolding place
walk_none e z w h = record { sets = laid e z w h; a_is = refl; b_is = refl; sum = refl }

pub walk_all : {e z w k x y a b p : ℕ} → k ≡ 0 → Walked e z w k x y a b p → p ≡ place e z w
unfolding rank
walk_all {e} {z} {w} {k} {x} {y} {a} {b} {p} end h = let sum : p + rank 0 x y ≡ place e z w = rw end at h.sum in omega arith

-- what is left is no more than fits on the cells that are left
pub walk_few : {e z w k x y a b p : ℕ} → Walked e z w k x y a b p → (x % 2 ≤ a) × (y % 2 ≤ b) × (a + b ≤ k)
walk_few {e} {z} {w} {k} {x} {y} {a} {b} {p} h = ((left x a h.a_is).0, (left y b h.b_is).0, omega (arith, stones_le k x y h.sets, h.a_is, h.b_is))

-- one more cell is passed, with what stands on it
pub walk_more : {e z w k x y a b p : ℕ} → 0 < k → Walked e z w k x y a b p →
    Walked e z w (k - 1) (x / 2) (y / 2) (a - x % 2) (b - y % 2) (p + before (k - 1) (x % 2) (y % 2) a b)
unfolding rank
walk_more {k = zero} pos h = absurd (omega arith)
walk_more {e} {z} {w} {k = suc k} {x} {y} {a} {b} {p} pos h =
    let less : suc k - 1 ≡ k = omega arith in
    let sum : p + (before k (x % 2) (y % 2) a b + rank k (x / 2) (y / 2)) ≡ place e z w = rw (h.a_is, h.b_is) at h.sum in
    rw less (record { sets = behind k x y h.sets; a_is = (left x a h.a_is).1; b_is = (left y b h.b_is).1; sum = omega arith })
