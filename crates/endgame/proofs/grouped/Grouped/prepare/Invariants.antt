-- The links of the cells so far are prepared.
use Rattle.std.proofs.Common.{get_or}
use Rattle.hexboard.specs.Sides.{number}
use Rattle.endgame.specs.Gathering.{near_at, borders_at}
use Rattle.endgame.specs.Grouped.{board, parents}
use Rattle.endgame.proofs.Preparing.{Preparing}
use Rattle.endgame.proofs.grouped.Grouped.prepare.Given as goal

abbrev pub invariant-loop-k : goal.invariant-loop-k
invariant-loop-k l =
    Preparing (λ k. near_at (board l.self) (number l.side) (parents l.self) l.sets (get_or l.cells.items k 0))
    (λ k. borders_at (board l.self) (number l.side) (parents l.self) l.self.borders.now (get_or l.cells.items k 0))
    l.k l.near l.first l.last
