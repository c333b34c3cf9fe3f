-- The cells of a set as a list, from the lowest.
use Rattle.std.proofs.Common.{◌≡◌, ℕ, zero, suc, ◌+◌, ◌-◌, ◌/◌, ◌%◌, ◌^◌, ◌<◌, ◌≤◌, List, [], ◌∷◌, length, get_or, drop, refl, sym, ap, ◌∙◌, ⊎_elim, pow-suc, arith}
use lib.Count.{count_trailing_zeros}
use Rattle.std.proofs.lemmas.Bool.{cases_lt}
use Rattle.ranking.specs.Sets.{bit, members_from, joined, members}
use Rattle.ranking.proofs.Bits.{bit_none, cell_le, lowest_in, none_below}

-- no cell is in the empty set
pub members_none : (w k : ℕ) → members_from w k 0 ≡ []
unfolding members_from joined
members_none zero k = refl
members_none (suc w) k = members_none w (suc k)

-- The lowest cell is the first, and without it the others are left.
pub members_first : (w k c x : ℕ) → x < 2 ^ w → bit c x ≡ 1 → ((j : ℕ) → j < c → bit j x ≡ 0) → members_from w k x ≡ (k + c) ∷ members_from w k (x - 2 ^ c)
unfolding members_from joined bit
members_first zero k c x f h low = let none : x ≡ 0 = omega arith in absurd (omega (arith, ap (bit c) none, bit_none c))
members_first (suc w) k zero x f h low =
    let even : (x - 2 ^ 0) % 2 ≡ 0 = omega arith in
    let half : (x - 2 ^ 0) / 2 ≡ x / 2 = omega arith in
    let same : k + 0 ≡ k = omega arith in
    rw (h, even, half, same)
members_first (suc w) k (suc c) x f h low =
    let here : x % 2 ≡ 0 = low 0 (omega arith) in
    let room : 2 ^ suc c ≤ x = cell_le (suc c) x h in
    let even : (x - 2 ^ suc c) % 2 ≡ 0 = omega (arith, pow-suc 2 c) in
    let half : (x - 2 ^ suc c) / 2 ≡ x / 2 - 2 ^ c = omega (arith, pow-suc 2 c) in
    let next : k + suc c ≡ suc k + c = omega arith in
    rw (here, even, half, next) (members_first w (suc k) c (x / 2) (omega (arith, pow-suc 2 w)) h (λ j l. low (suc j) (omega arith)))

pub members_lowest : (c x : ℕ) → x < 2 ^ 64 → bit c x ≡ 1 → ((j : ℕ) → j < c → bit j x ≡ 0) → members x ≡ c ∷ members (x - 2 ^ c)
members_lowest c x f h low = let same : 0 + c ≡ c = omega arith in rw same at (members_first 64 0 c x f h low)

-- A set with no cell in the list is empty.
pub members_empty : (x : ℕ) → x < 2 ^ 64 → members x ≡ [] → x ≡ 0
members_empty x f h = ⊎_elim (λ p. absurd (omega (arith, ap length (members_lowest (count_trailing_zeros 64 x) x f (lowest_in 64 x p f).0 (none_below 64 x)), ap length h))) (λ p. omega arith) (cases_lt 0 x)

-- The first of the list is in the set, and the others are what is left without it.
pub members_rest : (x c : ℕ) (rest : List ℕ) → x < 2 ^ 64 → members x ≡ c ∷ rest → (bit c x ≡ 1) × (c < 64) × (rest ≡ members (x - 2 ^ c))
members_rest x c rest f h = ⊎_elim go (λ p. absurd (omega (arith, ap length h, ap (λ y. length (members y)) (none p), ap length (members_none 64 0)))) (cases_lt 0 x)
  where
    none : x ≤ 0 → x ≡ 0
    none p = omega arith

    go : 0 < x → (bit c x ≡ 1) × (c < 64) × (rest ≡ members (x - 2 ^ c))
    go p =
        let (in-x, small) = lowest_in 64 x p f in
        let same = sym h ∙ members_lowest (count_trailing_zeros 64 x) x f in-x (none_below 64 x) in
        let head : c ≡ count_trailing_zeros 64 x = ap (λ l. get_or l 0 0) same in
        rw head (in-x, small, ap (drop 1) same)
