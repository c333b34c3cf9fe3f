-- Laws of sets as bits: what the bits of a union, an intersection, one cell more and one cell fewer are.
use Rattle.std.proofs.Common.{◌≡◌, ℕ, zero, suc, ◌+◌, ◌-◌, ◌/◌, ◌%◌, ◌^◌, ◌<◌, ◌≤◌, min, max, ◌⊎◌, refl, ap, ◌∙◌, inl, inr, ⊎_elim, pow-suc, arith}
use lib.Bits.{bit_and, bit_or, and_step, or_step, and_le_l}
use lib.Count.{ones, ones_step, ones-le, count_trailing_zeros, under}
use Rattle.std.proofs.lemmas.Bool.{cases_eq}
use Rattle.ranking.specs.Sets.{bit, Within}

-- a bit is 0 or 1
pub bit_below : (k x : ℕ) → bit k x < 2
unfolding bit
bit_below zero x = omega arith
bit_below (suc k) x = bit_below k (x / 2)

pub bit_of_or : (k x y : ℕ) → bit k (bit_or x y) ≡ max (bit k x) (bit k y)
unfolding bit
bit_of_or zero x y = omega (arith, or_step x y)
bit_of_or (suc k) x y = let half : bit_or x y / 2 ≡ bit_or (x / 2) (y / 2) = omega (arith, or_step x y) in rw half (bit_of_or k (x / 2) (y / 2))

pub bit_of_and : (k x y : ℕ) → bit k (bit_and x y) ≡ min (bit k x) (bit k y)
unfolding bit
bit_of_and zero x y = omega (arith, and_step x y)
bit_of_and (suc k) x y = let half : bit_and x y / 2 ≡ bit_and (x / 2) (y / 2) = omega (arith, and_step x y) in rw half (bit_of_and k (x / 2) (y / 2))

-- one cell more: that cell is in, and each other as before
pub bit_more : (k x : ℕ) → bit k x ≡ 0 → (j : ℕ) → ((j ≡ k) × (bit j (x + 2 ^ k) ≡ 1)) ⊎ ((j ≡ k → ⊥) × (bit j (x + 2 ^ k) ≡ bit j x))
unfolding bit
bit_more zero x h zero = inl (refl, omega arith)
bit_more zero x h (suc j) = let half : (x + 2 ^ 0) / 2 ≡ x / 2 = omega arith in inr (omega arith, rw half)
bit_more (suc k) x h zero = inr (omega arith, omega (arith, pow-suc 2 k))
bit_more (suc k) x h (suc j) =
    let half : (x + 2 ^ suc k) / 2 ≡ x / 2 + 2 ^ k = omega (arith, pow-suc 2 k) in
    ⊎_elim (λ p. inl (ap suc p.0, rw half p.1)) (λ p. inr (λ e. p.0 (omega arith), rw half p.1)) (bit_more k (x / 2) h j)

-- a cell of a set can be taken out
pub cell_le : (k x : ℕ) → bit k x ≡ 1 → 2 ^ k ≤ x
unfolding bit
cell_le zero x h = omega arith
cell_le (suc k) x h = omega (arith, pow-suc 2 k, cell_le k (x / 2) h)

-- one cell fewer: that cell is out, and each other as before
pub bit_less : (k x : ℕ) → bit k x ≡ 1 → (j : ℕ) → ((j ≡ k) × (bit j (x - 2 ^ k) ≡ 0)) ⊎ ((j ≡ k → ⊥) × (bit j (x - 2 ^ k) ≡ bit j x))
unfolding bit
bit_less zero x h zero = inl (refl, omega arith)
bit_less zero x h (suc j) = let half : (x - 2 ^ 0) / 2 ≡ x / 2 = omega arith in inr (omega arith, rw half)
bit_less (suc k) x h zero = inr (omega arith, omega (arith, pow-suc 2 k, cell_le k (x / 2) h))
bit_less (suc k) x h (suc j) =
    let half : (x - 2 ^ suc k) / 2 ≡ x / 2 - 2 ^ k = omega (arith, pow-suc 2 k, cell_le k (x / 2) h) in
    ⊎_elim (λ p. inl (ap suc p.0, rw half p.1)) (λ p. inr (λ e. p.0 (omega arith), rw half p.1)) (bit_less k (x / 2) h j)

-- the empty set has no cell
pub bit_none : (k : ℕ) → bit k 0 ≡ 0
unfolding bit
bit_none zero = refl
bit_none (suc k) = bit_none k

-- the set of one cell has that cell and no other
pub bit_one : (k j : ℕ) → ((j ≡ k) × (bit j (2 ^ k) ≡ 1)) ⊎ ((j ≡ k → ⊥) × (bit j (2 ^ k) ≡ 0))
bit_one k j =
    let alone : 0 + 2 ^ k ≡ 2 ^ k = omega arith in
    let none : bit j 0 ≡ 0 = bit_none j in
    ⊎_elim (λ p. inl (p.0, rw alone at p.1)) (λ p. inr (p.0, (rw alone at p.1) ∙ none)) (bit_more k 0 (bit_none k) j)

pub own_bit : (k : ℕ) → bit k (2 ^ k) ≡ 1
own_bit k = ⊎_elim (λ p. p.1) (λ p. absurd (p.0 refl)) (bit_one k k)

pub only_bit : (k j : ℕ) → bit j (2 ^ k) ≡ 1 → j ≡ k
only_bit k j h = ⊎_elim (λ p. p.0) (λ p. absurd (omega (arith, p.1))) (bit_one k j)

-- sets of cells below e are equal if each cell is in both or in neither
pub same_set : (e x y : ℕ) → x < 2 ^ e → y < 2 ^ e → ((k : ℕ) → bit k x ≡ bit k y) → x ≡ y
unfolding bit
same_set zero x y f g h = omega arith
same_set (suc e) x y f g h =
    let head : x % 2 ≡ y % 2 = h 0 in
    let tail : x / 2 ≡ y / 2 = same_set e (x / 2) (y / 2) (omega (arith, pow-suc 2 e)) (omega (arith, pow-suc 2 e)) (λ k. h (suc k)) in
    omega arith

-- a cell of a set below 2 ^ e is below e
pub cell_below : (e k x : ℕ) → x < 2 ^ e → bit k x ≡ 1 → k < e
unfolding bit
cell_below zero zero x f h = omega arith
cell_below zero (suc k) x f h = omega (arith, cell_below zero k (x / 2) (omega arith) h)
cell_below (suc e) zero x f h = omega arith
cell_below (suc e) (suc k) x f h = omega (arith, cell_below e k (x / 2) (omega (arith, pow-suc 2 e)) h)

-- where a set's zeros end is its lowest cell
pub lowest_in : (w x : ℕ) → 0 < x → x < 2 ^ w → (bit (count_trailing_zeros w x) x ≡ 1) × (count_trailing_zeros w x < w)
unfolding bit count_trailing_zeros
lowest_in zero x p f = absurd (omega arith)
lowest_in (suc w) x p f = go (x % 2) refl (λ e. lowest_in w (x / 2) (omega arith) (omega (arith, pow-suc 2 w)))
  where
    go : (d : ℕ) → x % 2 ≡ d → (x % 2 ≡ 0 → (bit (count_trailing_zeros w (x / 2)) (x / 2) ≡ 1) × (count_trailing_zeros w (x / 2) < w)) →
        (bit (under d (count_trailing_zeros w (x / 2))) x ≡ 1) × (under d (count_trailing_zeros w (x / 2)) < suc w)
    go zero e rest = ((rest e).0, omega (arith, (rest e).1))
    go (suc d) e rest = (omega arith, omega arith)

-- and no cell before it is in the set
pub none_below : (w x j : ℕ) → j < count_trailing_zeros w x → bit j x ≡ 0
unfolding bit count_trailing_zeros
none_below zero x j l = absurd (omega arith)
none_below (suc w) x j l = go (x % 2) refl j l (none_below w (x / 2))
  where
    go : (d : ℕ) → x % 2 ≡ d → (j : ℕ) → j < under d (count_trailing_zeros w (x / 2)) → ((i : ℕ) → i < count_trailing_zeros w (x / 2) → bit i (x / 2) ≡ 0) → bit j x ≡ 0
    go zero e zero m rest = e
    go zero e (suc j) m rest = rest j (omega arith)
    go (suc d) e j m rest = absurd (omega arith)

-- a number is below two to its power
below_pow : (x : ℕ) → x < 2 ^ x
below_pow zero = omega arith
below_pow (suc x) = omega (arith, pow-suc 2 x, below_pow x)

-- a set that has no cell is empty
pub no_cell : (x : ℕ) → ((k : ℕ) → bit k x ≡ 1 → ⊥) → x ≡ 0
no_cell zero h = refl
no_cell (suc x) h = absurd (h _ (lowest_in (suc x) (suc x) (omega arith) (below_pow (suc x))).0)

-- a set within a set of cells below e has only cells below e
pub within_below : (e x y : ℕ) → Within x y → y < 2 ^ e → x < 2 ^ e
unfolding bit
within_below zero x y w f =
    let none : y ≡ 0 = omega arith in
    let out : (k : ℕ) → bit k x ≡ 1 → ⊥ = λ k h. omega (arith, w k h, ap (bit k) none, bit_none k) in
    omega (arith, no_cell x out)
within_below (suc e) x y w f =
    let tail : x / 2 < 2 ^ e = within_below e (x / 2) (y / 2) (λ k. w (suc k)) (omega (arith, pow-suc 2 e)) in omega (arith, pow-suc 2 e)

-- one cell more is one more to count
pub ones_more : (k x : ℕ) → bit k x ≡ 0 → ones (x + 2 ^ k) ≡ ones x + 1
unfolding bit
ones_more zero x h =
    let half : (x + 2 ^ 0) / 2 ≡ x / 2 = omega arith in
    omega (arith, ones_step x, ones_step (x + 2 ^ 0), ap ones half)
ones_more (suc k) x h =
    let half : (x + 2 ^ suc k) / 2 ≡ x / 2 + 2 ^ k = omega (arith, pow-suc 2 k) in
    let odd : (x + 2 ^ suc k) % 2 ≡ x % 2 = omega (arith, pow-suc 2 k) in
    omega (arith, ones_step x, ones_step (x + 2 ^ suc k), ap ones half, ones_more k (x / 2) h)

-- Membership: in or out; in an intersection if in both; in a union if in one.
pub in_or_out : (k x : ℕ) → (bit k x ≡ 1) ⊎ (bit k x ≡ 0)
in_or_out k x = ⊎_elim inl (λ n. inr (omega (arith, bit_below k x))) (cases_eq (bit k x) 1)

pub in_and : (k x y : ℕ) → bit k (bit_and x y) ≡ 1 → (bit k x ≡ 1) × (bit k y ≡ 1)
in_and k x y h = omega (arith, bit_of_and k x y, bit_below k x, bit_below k y)

pub and_in : (k x y : ℕ) → bit k x ≡ 1 → bit k y ≡ 1 → bit k (bit_and x y) ≡ 1
and_in k x y h i = omega (arith, bit_of_and k x y)

pub out_of_and : (k x y : ℕ) → bit k y ≡ 0 → bit k (bit_and x y) ≡ 0
out_of_and k x y h = omega (arith, bit_of_and k x y)

pub in_or : (k x y : ℕ) → bit k (bit_or x y) ≡ 1 → (bit k x ≡ 1) ⊎ (bit k y ≡ 1)
in_or k x y h = ⊎_elim inl (λ out. inr (omega (arith, bit_of_or k x y))) (in_or_out k x)

pub or_left : (k x y : ℕ) → bit k x ≡ 1 → bit k (bit_or x y) ≡ 1
or_left k x y h = omega (arith, bit_of_or k x y, bit_below k y)

pub or_right : (k x y : ℕ) → bit k y ≡ 1 → bit k (bit_or x y) ≡ 1
or_right k x y h = omega (arith, bit_of_or k x y, bit_below k x)

-- one cell more fits if the cell does
pub more_below : (e k x : ℕ) → k < e → x < 2 ^ e → bit k x ≡ 0 → x + 2 ^ k < 2 ^ e
unfolding bit
more_below zero k x l h out = absurd (omega arith)
more_below (suc e) zero x l h out = omega (arith, pow-suc 2 e)
more_below (suc e) (suc k) x l h out = omega (arith, pow-suc 2 e, pow-suc 2 k, more_below e k (x / 2) (omega arith) (omega (arith, pow-suc 2 e)) out)

-- without a cell of its own, an intersection is smaller
pub and_less : (k x y : ℕ) → bit k x ≡ 1 → bit k y ≡ 0 → bit_and x y < x
and_less k x y h out =
    let apart : bit_and x y ≡ x → ⊥ = λ same. omega (arith, bit_of_and k x y, ap (bit k) same) in omega (arith, and_le_l x y)

-- no cell from e on is in a set of cells below e
pub none_above : (e k x : ℕ) → x < 2 ^ e → e ≤ k → bit k x ≡ 0
none_above e k x h l = ⊎_elim (λ i. absurd (omega (arith, cell_below e k x h i))) (λ out. out) (in_or_out k x)

-- what is within a set without a cell leaves that cell out
pub left_out : (k x y : ℕ) → bit k y ≡ 1 → Within x (y - 2 ^ k) → bit k x ≡ 0
left_out k x y h w = ⊎_elim
    (λ i. ⊎_elim (λ p. absurd (omega (arith, w k i))) (λ p. absurd (p.0 refl)) (bit_less k y h k))
    (λ out. out)
    (in_or_out k x)

-- a set within another has no more cells,
pub ones_within : (e x y : ℕ) → x < 2 ^ e → y < 2 ^ e → Within x y → ones x ≤ ones y
unfolding bit
ones_within zero x y f g w = omega (arith, ones-le 0 x f)
ones_within (suc e) x y f g w =
    let rest = ones_within e (x / 2) (y / 2) (omega (arith, pow-suc 2 e)) (omega (arith, pow-suc 2 e)) (λ k. w (suc k)) in
    let head : x % 2 ≤ y % 2 = ⊎_elim (λ i. omega (arith, w 0 i)) (λ out. omega arith) (in_or_out 0 x) in
    omega (arith, ones_step x, ones_step y)

-- and fewer if it leaves one out
pub ones_fewer : (e k x y : ℕ) → y < 2 ^ e → Within x y → bit k y ≡ 1 → bit k x ≡ 0 → ones x < ones y
ones_fewer e k x y f w in_y out =
    let less = bit_less k y in_y in
    let gone : bit k (y - 2 ^ k) ≡ 0 = ⊎_elim (λ p. p.1) (λ p. absurd (p.0 refl)) (less k) in
    let back : y - 2 ^ k + 2 ^ k ≡ y = omega (arith, cell_le k y in_y) in
    let one : ones y ≡ ones (y - 2 ^ k) + 1 = rw back at (ones_more k (y - 2 ^ k) gone) in
    let within : Within x (y - 2 ^ k) = λ j i. ⊎_elim (λ p. absurd (omega (arith, ap (λ m. bit m x) p.0))) (λ p. p.1 ∙ w j i) (less j) in
    omega (arith, ones_within e x (y - 2 ^ k) (within_below e x y w f) (omega arith) within)

-- three sets that share e cells have e cells together
pub ones_shared : (e x y z : ℕ) → x < 2 ^ e → y < 2 ^ e → z < 2 ^ e → ((k : ℕ) → k < e → bit k x + (bit k y + bit k z) ≡ 1) → ones x + (ones y + ones z) ≡ e
unfolding bit
ones_shared zero x y z f g h each = omega (arith, ones-le 0 x f, ones-le 0 y g, ones-le 0 z h)
ones_shared (suc e) x y z f g h each =
    let rest = ones_shared e (x / 2) (y / 2) (z / 2) (omega (arith, pow-suc 2 e)) (omega (arith, pow-suc 2 e)) (omega (arith, pow-suc 2 e)) (λ k l. each (suc k) (omega arith)) in
    omega (arith, ones_step x, ones_step y, ones_step z, each 0 (omega arith))
