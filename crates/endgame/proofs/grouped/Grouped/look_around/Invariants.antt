-- A neighbour after the other is looked at.
use Rattle.hexboard.specs.Geometry.{neighbour_of}
use Rattle.hexboard.specs.Sides.{number}
use Rattle.hexboard.proofs.Given.{Upto}
use Rattle.endgame.specs.Grouped.{board, parents}
use Rattle.endgame.proofs.Gathered.{Looked}
use Rattle.endgame.proofs.grouped.Grouped.look_around.Given as goal

-- so many neighbours have been looked at
abbrev pub invariant-loop-near : goal.invariant-loop-near
invariant-loop-near l =
    Upto (neighbour_of l.self.size.n l.fn.cell) 6 l.near-iterator
    (Looked (board l.self) (number l.side) (parents l.self) l.sets l.self.borders.now l.fn.cell l.all.near l.all.borders)
