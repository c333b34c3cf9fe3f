-- Sets of cells as the bits of a number: cell k is in the set x if bit k of x is 1. Definitions
-- only.
use Rattle.std.specs.Prelude.{◌≡◌, ℕ, zero, suc, ◌+◌, ◌/◌, ◌%◌, ◌^◌, ◌≤◌, List, [], ◌∷◌}

-- 1 if cell k is in the set, else 0. The lowest cell is the head of the word, and the others are
-- the set halved
unfoldable pub bit : ℕ → ℕ → ℕ
bit zero x = x % 2
bit (suc k) x = bit k (x / 2)

-- cell k and others, if it is in a set (its bit is 1), else the others alone
unfoldable pub joined : ℕ → ℕ → List ℕ → List ℕ
joined zero k others = others
joined (suc b) k others = k ∷ others

-- the cells of a set of w cells, from the lowest, which is called k
unfoldable pub members_from : ℕ → ℕ → ℕ → List ℕ
members_from zero k x = []
members_from (suc w) k x = joined (x % 2) k (members_from w (suc k) (x / 2))

-- the cells of a set that is kept in a word
abbrev pub members : ℕ → List ℕ
members x = members_from 64 0 x

-- each cell of the first set is in the second
abbrev pub Within : ℕ → ℕ → Type 0
Within x y = (k : ℕ) → bit k x ≡ 1 → bit k y ≡ 1

-- no cell is in both
abbrev pub Apart : ℕ → ℕ → Type 0
Apart x y = (k : ℕ) → bit k x + bit k y ≤ 1

-- z is a set of one cell, which is a cell of m
pub record One (m z : ℕ) : Type 0 where
  pub cell : ℕ
  pub is : z ≡ 2 ^ cell
  pub of : bit cell m ≡ 1
