-- Stones on a board in lent bytes: what is read, and what a stone put or taken off leaves.
use Rattle.std.specs.Prelude.{ℕ, List, length, Ok, Err, Option, Result, ◌==◌, nat_lt, slice_index}
use Rattle.std.specs.Prelude.{slice_set, if◌then◌else◌}
use Rattle.hexboard.specs.Sides.{by_number}
use Rattle.hexboard.specs.declared.side.Side.{Side}
use Rattle.hexboard.specs.declared.stones.Unplaced.{Unplaced}
use Rattle.hexboard.specs.declared.stones.Unplaced.TheVariants.{NoCell, Taken}

-- the side whose stone stands on cell i; a byte that is neither 1 nor 2 is no stone, and a cell
-- that is not there has none
abbrev pub stone_at : List ℕ → ℕ → Option Side
stone_at cells i = by_number (slice_index cells i)

-- whether a stone can be put on cell i, or why not
abbrev pub placing : List ℕ → ℕ → Result (Unit {0}) Unplaced
placing cells i = if nat_lt i (length cells) then (if slice_index cells i == 0 then Ok tt
    else Err Taken) else Err NoCell

-- the cells with a stone of side s on cell i if that was empty, else as they were
abbrev pub placed : List ℕ → ℕ → ℕ → List ℕ
placed cells s i = if slice_index cells i == 0 then slice_set cells i s else cells
