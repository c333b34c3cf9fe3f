-- Groups of stones as a forest: each stone hangs from a later stone of its group, and the latest,
-- the root, has the group's borders.
use Rattle.std.specs.Prelude.{ℕ, zero, suc, List, length, Some, None, Option, ◌==◌, bit_or}
use Rattle.std.specs.Prelude.{slice_index, slice_index_or, slice_set, if◌then◌else◌}
use Rattle.hexboard.specs.Board.{Board, at}
use Rattle.hexboard.specs.Geometry.{neighbour_of, touch, over}
use Rattle.hexboard.specs.Words.{words}

-- For each cell its parent, and borders of its side as two bits, 1 for the first and 2 for the
-- last. A root is its own parent, and has the bits of the borders that its group touches; another
-- stone keeps those that it had when it was a root. An empty cell is its own parent and has no
-- bits.
pub record Forest : Type 0 where
  pub parents : List ℕ
  pub borders : List ℕ

-- the forest in lent memory: two bytes for each parent, low byte first, and one for the bits
abbrev pub held : List ℕ → List ℕ → Forest
held ps bs = record { parents = words ps; borders = bs }

-- the parent of cell i; a cell that is not there is its own
abbrev pub parent : List ℕ → ℕ → ℕ
parent ps i = slice_index_or ps i i

-- where k steps up lead from cell i
unfoldable pub climb : List ℕ → ℕ → ℕ → ℕ
climb ps zero i = i
climb ps (suc k) i = climb ps k (parent ps i)

-- the root of cell i; as many steps as there are cells are enough
abbrev pub root : List ℕ → ℕ → ℕ
root ps i = climb ps (length ps) i

-- the group of root r hangs from x now, and x touches what either touched
abbrev pub join : ℕ → ℕ → Forest → Forest
join r x f =
    record {
      parents = slice_set f.parents r x;
      borders =
          slice_set f.borders x (bit_or (slice_index f.borders x) (slice_index f.borders r));
    }

-- what lies next to x is looked at: a stone of side s brings its group to x
abbrev pub take_in : Board → ℕ → ℕ → Option ℕ → Forest → Forest
take_in b s x None f = f
take_in b s x (Some y) f = if at b y == s then join (root f.parents y) x f else f

-- the first k neighbours of x are looked at, one by one
abbrev pub adopt : Board → ℕ → ℕ → (ℕ → Option ℕ) → ℕ → Forest → Forest
adopt b s x next k f = over (take_in b s x) next k f

-- a lone stone with its bits comes to cell x
abbrev pub alone : ℕ → ℕ → Forest → Forest
alone x bits f = record { parents = f.parents; borders = slice_set f.borders x bits }

-- a stone of side s comes to the empty cell x of board b: first alone, then its neighbours' groups
-- join it
abbrev pub place : Board → ℕ → ℕ → Forest → Forest
place b s x f = adopt b s x (neighbour_of b.wide x) 6 (alone x (touch b.wide s x) f)

-- the parent of cell i, which was p, once whoever hangs from x is a root again
abbrev pub freed : ℕ → ℕ → ℕ → ℕ
freed x i p = if p == x then i else p

-- the first k cells are looked at, and those that hang from x are roots again
unfoldable pub free : ℕ → ℕ → List ℕ → List ℕ
free x zero ps = ps
free x (suc k) ps = let qs = free x k ps in slice_set qs k (freed x k (parent qs k))

-- the last stone, on cell x of so many, is taken out: the groups that it joined are apart again,
-- and its cell has no bits
abbrev pub lift : ℕ → ℕ → Forest → Forest
lift cells x f = record { parents = free x cells f.parents; borders = slice_set f.borders x 0 }
