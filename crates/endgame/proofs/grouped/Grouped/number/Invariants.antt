-- A cell after the other is listed if it is empty.
use Rattle.std.proofs.Common.{◌≡◌, take}
use Rattle.endgame.specs.Cells.{free_cells}
use Rattle.endgame.proofs.grouped.Grouped.number.Given as goal

-- the empty ones of the cells before this one are listed
abbrev pub invariant-loop-cell : goal.invariant-loop-cell
invariant-loop-cell l = l.cells.items ≡ free_cells (take l.cell l.self.stones.now)
