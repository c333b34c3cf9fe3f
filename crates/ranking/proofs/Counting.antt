-- How many ways there are to lay stones: the law of the first cell, and bounds.
use Rattle.std.proofs.Common.{◌≡◌, ℕ, zero, suc, ◌+◌, ◌-◌, ◌*◌, ◌/◌, ◌^◌, ◌<◌, ◌≤◌, refl, ap, le_trans, add-mul, mul-le-mul, pow-suc, mul-add, arith, pow_mono}
use Rattle.ranking.specs.Positions.{choose, count, start}

-- nothing is chosen in one way
pub choose_none : (n : ℕ) → choose n 0 ≡ 1
unfolding choose
choose_none zero = refl
choose_none (suc n) = refl

-- there are no more sets of n things than two to the power of n
pub choose_le : (n k : ℕ) → choose n k ≤ 2 ^ n
unfolding choose
choose_le zero zero = omega arith
choose_le (suc n) zero = omega (arith, choose_le n 0, choose_none n, pow-suc 2 n)
choose_le zero (suc k) = omega arith
choose_le (suc n) (suc k) = omega (arith, choose_le n k, choose_le n (suc k), pow-suc 2 n)

-- with stones of both sides, the first cell is empty, or has one of mine, or one of theirs
count_both : (k a b : ℕ) → count (suc k) (suc a) (suc b) ≡ count k (suc a) (suc b) + (count k a (suc b) + count k (suc a) b)
unfolding choose count
count_both k a b =
    let m : ℕ = a + b in
    let two : suc a + suc b ≡ suc (suc m) = omega arith in
    let left : a + suc b ≡ suc m = omega arith in
    let right : suc a + b ≡ suc m = omega arith in
    rw (two, left, right)
    (omega (arith, add-mul (choose k (suc m)) (choose k (suc (suc m))) (choose (suc m) a + choose (suc m) (suc a)), mul-add (choose k (suc m)) (choose (suc m) a) (choose (suc m) (suc a))))

-- with stones of one side only, the first cell is empty or has one
count_mine : (k a : ℕ) → count k (suc a) 0 + count k a 0 ≤ count (suc k) (suc a) 0
unfolding choose count
count_mine k a =
    let one : suc a + 0 ≡ suc a = omega arith in
    let same : a + 0 ≡ a = omega arith in
    rw (one, same)
    (omega (arith, add-mul (choose k a) (choose k (suc a)) (choose a a + choose a (suc a)), mul-add (choose k a) (choose a a) (choose a (suc a))))

count_theirs : (k b : ℕ) → count (suc k) 0 (suc b) ≡ count k 0 (suc b) + count k 0 b
unfolding choose count
count_theirs k b =
    let one : 0 + suc b ≡ suc b = omega arith in
    let same : 0 + b ≡ b = omega arith in
    rw (one, same) (omega arith)

-- Those that begin with an empty cell, with one of mine and with one of theirs do not overlap: together they are no more than all.
pub mine_room : (k a b : ℕ) → 0 < a → count k a b + count k (a - 1) b ≤ count (suc k) a b
mine_room k zero b p = absurd (omega arith)
mine_room k (suc a) zero p = let less : suc a - 1 ≡ a = omega arith in rw less (count_mine k a)
mine_room k (suc a) (suc b) p = let less : suc a - 1 ≡ a = omega arith in rw less (omega (arith, count_both k a b))

pub theirs_room : (k a b : ℕ) → 0 < b → count k a b + count k a (b - 1) ≤ count (suc k) a b
theirs_room k a zero p = absurd (omega arith)
theirs_room k zero (suc b) p = let less : suc b - 1 ≡ b = omega arith in rw less (omega (arith, count_theirs k b))
theirs_room k (suc a) (suc b) p = let less : suc b - 1 ≡ b = omega arith in rw less (omega (arith, count_both k a b))

pub both_room : (k a b : ℕ) → 0 < a → 0 < b → count k a b + (count k (a - 1) b + count k a (b - 1)) ≤ count (suc k) a b
both_room k zero b p q = absurd (omega arith)
both_room k (suc a) zero p q = absurd (omega arith)
both_room k (suc a) (suc b) p q =
    let left : suc a - 1 ≡ a = omega arith in
    let right : suc b - 1 ≡ b = omega arith in
    rw (left, right) (omega (arith, count_both k a b))

pub empty_room : (k a b : ℕ) → count k a b ≤ count (suc k) a b
unfolding choose count
empty_room k zero zero = omega arith
empty_room k (suc a) b = omega (arith, mine_room k (suc a) b (omega arith))
empty_room k zero (suc b) = omega (arith, theirs_room k 0 (suc b) (omega arith))

-- nothing is laid on no cells in one way
pub count_none : count 0 0 0 ≡ 1
unfolding choose count
count_none = refl

-- In Pascal's triangle each number but those of the first row and the first column is the sum of the two above it.
pub choose_sum : (n k : ℕ) → 0 < n → 0 < k → choose n k ≡ choose (n - 1) (k - 1) + choose (n - 1) k
unfolding choose
choose_sum zero k p q = absurd (omega arith)
choose_sum (suc n) zero p q = absurd (omega arith)
choose_sum (suc n) (suc k) p q =
    let up : suc n - 1 ≡ n = omega arith in
    let back : suc k - 1 ≡ k = omega arith in
    rw (up, back)

-- the numbers of the first 17 rows are small
pub choose_small : (n k : ℕ) → n ≤ 16 → choose n k ≤ 65536
choose_small n k h = le_trans (choose_le n k) (pow_mono h)

pub count_small : (k a b : ℕ) → k ≤ 16 → a + b ≤ 16 → count k a b ≤ 2 ^ 32
unfolding count
count_small k a b h i = mul-le-mul (choose_small k (a + b) h) (choose_small (a + b) a i)

pub start_small : (e m : ℕ) → e ≤ 16 → m ≤ 17 → start e m ≤ m * 2 ^ 32
unfolding start
start_small e zero h i = omega arith
start_small e (suc m) h i = omega (arith, start_small e m h (omega arith), count_small e (m / 2) ((m + 1) / 2) h (omega arith))

-- no position has fewer than no stones; and where those with one stone more begin
pub start_none : (e : ℕ) → start e 0 ≡ 0
unfolding start
start_none e = refl

pub start_next : (e m : ℕ) → start e (m + 1) ≡ start e m + count e (m / 2) ((m + 1) / 2)
unfolding start
start_next e m = let next : m + 1 ≡ suc m = omega arith in ap (start e) next
