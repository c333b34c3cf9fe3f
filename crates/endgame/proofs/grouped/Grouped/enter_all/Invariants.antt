-- A neighbour after the other is looked at.
use Rattle.std.proofs.Common.{◌≡◌}
use Rattle.hexboard.specs.Geometry.{neighbour_of, over}
use Rattle.hexboard.specs.Sides.{number}
use Rattle.endgame.specs.Gathering.{entered_at}
use Rattle.endgame.specs.Grouped.{board, parents}
use Rattle.hexboard.proofs.Given.{Upto}
use Rattle.endgame.proofs.grouped.Grouped.enter_all.Given as goal

-- so many neighbours have been looked at
abbrev pub invariant-loop-near : goal.invariant-loop-near
invariant-loop-near l =
    let next = neighbour_of l.self.size.n l.fn.cell in
    Upto next 6 l.near-iterator (λ m. l.sets ≡ over (entered_at (board l.self) (number l.side) (parents l.self) l.k) next m l.initial.sets)
