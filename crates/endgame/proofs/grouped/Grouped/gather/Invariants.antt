-- A cell after the other is gathered.
use Rattle.std.proofs.Common.{◌≡◌}
use Rattle.hexboard.specs.Sides.{number}
use Rattle.endgame.specs.Gathering.{gathered}
use Rattle.endgame.specs.Grouped.{board, parents}
use Rattle.endgame.proofs.grouped.Grouped.gather.Given as goal

-- the cells before the k-th have been gathered
abbrev pub invariant-loop-k : goal.invariant-loop-k
invariant-loop-k l = l.sets ≡ gathered (board l.self) (number l.side) (parents l.self) l.cells.items l.k
