-- Which empty cells a side's stones reach, over sets of cells alone. Definitions only.
--
-- The empty cells of a position are numbered. `near` has for each of them the set of those that are
-- next to it, directly or through stones of the side; `first` and `last` are the sets of those at
-- the side's first and last border, directly or through stones. A set x of these cells are stones
-- that the side has laid since.
use Rattle.std.specs.Prelude.{◌≡◌, ℕ, ◌+◌, ◌*◌, ◌^◌, if◌then◌else◌, List, bit_and, bit_or}
use Rattle.std.specs.Prelude.{count_ones}
use Rattle.std.specs.Prelude.{nat_lt, slice_index}
use Rattle.ranking.specs.Sets.{bit, Within}
use Rattle.endgame.specs.declared.links.Links.{Links}

-- cell j is near cell k
abbrev pub Near : List ℕ → ℕ → ℕ → Type 0
Near near k j = bit j (slice_index near k) ≡ 1

-- nearness goes both ways
abbrev pub Mutual : List ℕ → Type 0
Mutual near = (j k : ℕ) → Near near j k → Near near k j

-- the flood from a set of cells over the stones x touches cell k
pub data Touched (near : List ℕ) (from x : ℕ) : ℕ → Type 0 where
  begun : {k : ℕ} → bit k from ≡ 1 → Touched near from x k
  onward : {j k : ℕ} → Touched near from x j → bit j x ≡ 1 → Near near j k → Touched near from x k

-- r is the set of the cells that the flood touches
pub record Flood (near : List ℕ) (from x r : ℕ) : Type 0 where
  pub sound : (k : ℕ) → bit k r ≡ 1 → Touched near from x k
  pub complete : (k : ℕ) → Touched near from x k → bit k r ≡ 1

-- the stones x join the two borders
pub record Joined (near : List ℕ) (first last x : ℕ) : Type 0 where
  pub cell : ℕ
  pub stone : bit cell x ≡ 1
  pub led : Touched near first x cell
  pub at_last : bit cell last ≡ 1

-- the stones x join the two borders, by the links of a side; or a stone on cell k, added to them,
-- does
abbrev pub Joins : Links → ℕ → Type 0
Joins l x = Joined l.near l.first l.last x

abbrev pub Completes : Links → ℕ → ℕ → Type 0
Completes l x k = Touched l.near l.first x k × Touched l.near l.last x k

-- r is the set of those of the free cells on which a stone joins the two borders
pub record Completions (l : Links) (x free r : ℕ) : Type 0 where
  pub inside : Within r free
  pub joins : (k : ℕ) → bit k r ≡ 1 → Completes l x k
  pub all : (k : ℕ) → bit k free ≡ 1 → Completes l x k → bit k r ≡ 1

-- 1 if two sets have a cell in common, else 0
abbrev pub common : ℕ → ℕ → ℕ
common x y = if nat_lt 0 (bit_and x y) then 1 else 0

-- A stone on cell k, with stones x laid before, weighs w: as many free cells as the flood from what
-- is near it touches, and two more for each border that it or the stones touched by the flood are
-- at.
pub record Weighs (l : Links) (k x free w : ℕ) : Type 0 where
  pub reached : ℕ
  pub floods : Flood l.near (slice_index l.near k) x reached
  pub is : w
      ≡ count_ones (bit_and reached free)
      + 2 * common (bit_or (bit_and reached x) (2 ^ k)) l.first
      + 2 * common (bit_or (bit_and reached x) (2 ^ k)) l.last
