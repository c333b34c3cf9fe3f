-- The place of a position among all that can arise in an end of a game. Definitions only.
use Rattle.std.specs.Prelude.{◌≡◌, ℕ, zero, suc, ◌+◌, ◌-◌, ◌*◌, ◌/◌, ◌%◌, ◌^◌, ◌<◌, if◌then◌else◌}
use Rattle.std.specs.Prelude.{◌⊎◌, ◌==◌}
use Rattle.std.specs.Prelude.{nat_le, count_ones}
use Rattle.ranking.specs.Sets.{Apart}

-- A position of an end with e cells is two sets, the stones of the side to move and those of the
-- other, laid since the end began. The sides take turns, so the side to move has as many as the
-- other or one fewer.
pub record Position (e mine theirs : ℕ) : Type 0 where
  pub mine_fits : mine < 2 ^ e
  pub theirs_fits : theirs < 2 ^ e
  pub apart : Apart mine theirs
  pub turn : (count_ones mine ≡ count_ones theirs) ⊎ (count_ones mine + 1 ≡ count_ones theirs)

-- how many sets of k of n things there are: Pascal's triangle
unfoldable pub choose : ℕ → ℕ → ℕ
choose n zero = 1
choose zero (suc k) = 0
choose (suc n) (suc k) = choose n k + choose n (suc k)

-- how many ways there are to lay a stones of one side and b of the other on k cells
unfoldable pub count : ℕ → ℕ → ℕ → ℕ
count k a b = choose k (a + b) * choose (a + b) a

-- Of the ways to lay a and b stones on k + 1 cells, those with the first cell empty come first,
-- then those with one of mine on it, then those with one of theirs: how many come before all that
-- begin with m of mine and t of theirs.
unfoldable pub before : ℕ → ℕ → ℕ → ℕ → ℕ → ℕ
before k m t a b = if m == 1 then count k a b
    else if t == 1 then count (suc k) a b - count k a (b - 1) else 0

-- how many of the ways to lay as many stones on k cells come before this one
unfoldable pub rank : ℕ → ℕ → ℕ → ℕ
rank zero mine theirs = 0
rank (suc k) mine theirs =
    before k (mine % 2) (theirs % 2) (count_ones mine) (count_ones theirs) + rank k (mine / 2)
    (theirs / 2)

-- how many positions there are with fewer than m stones
unfoldable pub start : ℕ → ℕ → ℕ
start e zero = 0
start e (suc m) = start e m + count e (m / 2) ((m + 1) / 2)

-- how many positions there are
abbrev pub total : ℕ → ℕ
total e = start e (e + 1)

-- the place of a position: those with fewer stones come first
unfoldable pub place : ℕ → ℕ → ℕ → ℕ
place e mine theirs = start e (count_ones mine + count_ones theirs) + rank e mine theirs

-- how many stones the position at place i has, if it has at most m: the positions with so many
-- begin there or before, and those with one more do not
unfoldable pub stones_up_to : ℕ → ℕ → ℕ → ℕ
stones_up_to e i zero = 0
stones_up_to e i (suc m) = if nat_le (start e (suc m)) i then suc m else stones_up_to e i m

-- how many cells are free in the position at place i
abbrev pub free_at : ℕ → ℕ → ℕ
free_at e i = e - stones_up_to e i e

-- each position has a place below the number of positions, and shares it with no other
abbrev pub EachBelow : Type 0
EachBelow = (e mine theirs : ℕ) → Position e mine theirs → place e mine theirs < total e

abbrev pub NoneShared : Type 0
NoneShared = (e x y z w : ℕ) → Position e x y → Position e z w → place e x y ≡ place e z w → (x ≡ z)
    × (y ≡ w)

-- and its place tells how many cells its stones leave free
abbrev pub TellsFree : Type 0
TellsFree =
    (e mine theirs : ℕ) → Position e mine theirs →
    free_at e (place e mine theirs) + (count_ones mine + count_ones theirs) ≡ e
