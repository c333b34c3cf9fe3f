-- What a side's stones bring together, cell by cell and neighbour by neighbour, as code can follow
-- it. Definitions only.
use Rattle.std.specs.Prelude.{ℕ, zero, suc, ◌^◌, List, replicate, Some, None, Option, ◌==◌, bit_or}
use Rattle.std.specs.Prelude.{slice_index, slice_set, if◌then◌else◌}
use Rattle.hexboard.specs.Board.{Board, at, other}
use Rattle.hexboard.specs.Geometry.{neighbour_of, touch, over}
use Rattle.groups.specs.Forest.{root}

-- number k comes into the set at place r
abbrev pub enter : ℕ → ℕ → List ℕ → List ℕ
enter k r sets = slice_set sets r (bit_or (slice_index sets r) (2 ^ k))

-- what lies next to the k-th empty cell is looked at: a stone of side w brings k into the set of
-- its root
abbrev pub entered_at : Board → ℕ → List ℕ → ℕ → Option ℕ → List ℕ → List ℕ
entered_at b w ps k None sets = sets
entered_at b w ps k (Some p) sets = if at b p == w then enter k (root ps p) sets else sets

-- the k-th empty cell, i, comes into its own set, and into those of the groups next to it
abbrev pub entered_all : Board → ℕ → List ℕ → ℕ → ℕ → List ℕ → List ℕ
entered_all b w ps k i sets = over (entered_at b w ps k) (neighbour_of b.wide i) 6 (enter k i sets)

-- The first m of the cells es, gathered by what they touch: at a root, those next to its group; at
-- an empty cell, itself.
unfoldable pub gathered : Board → ℕ → List ℕ → List ℕ → ℕ → List ℕ
gathered b w ps es zero = replicate 361 0
gathered b w ps es (suc m) = entered_all b w ps m (slice_index es m) (gathered b w ps es m)

-- what lies next to a cell is looked at: unless it is a stone of the other side, what f has for its
-- root joins x
abbrev pub joined_at : Board → ℕ → List ℕ → (ℕ → ℕ) → Option ℕ → ℕ → ℕ
joined_at b w ps f None x = x
joined_at b w ps f (Some p) x = if at b p == other w then x else bit_or x (f (root ps p))

-- what a list has for a root
abbrev pub by_root : List ℕ → ℕ → ℕ
by_root list r = slice_index list r

-- the empty cells next to cell i, directly or through stones of side w, from the sets by roots
abbrev pub near_at : Board → ℕ → List ℕ → List ℕ → ℕ → ℕ
near_at b w ps sets i = over (joined_at b w ps (by_root sets)) (neighbour_of b.wide i) 6 0

-- the borders of side w that cell i touches, itself or through stones, from the borders by roots
abbrev pub borders_at : Board → ℕ → List ℕ → List ℕ → ℕ → ℕ
borders_at b w ps bs i =
    over (joined_at b w ps (by_root bs)) (neighbour_of b.wide i) 6 (touch b.wide w i)
