-- A neighbour after the other is looked at.
use Rattle.std.proofs.Common.{◌≡◌}
use Rattle.hexboard.specs.Geometry.{neighbour_of, laid}
use Rattle.hexboard.specs.Sides.{number}
use Rattle.groups.specs.Forest.{held, adopt}
use Rattle.groups.specs.Lent.{rest}
use Rattle.hexboard.proofs.Given.{Upto}
use Rattle.groups.proofs.Groups.place.Given as goal

-- so many neighbours have been looked at, and nothing behind the parents has changed
abbrev pub invariant-loop-near : goal.invariant-loop-near
invariant-loop-near l =
    let next = neighbour_of l.fn.size.n l.cell in
    Upto next 6 l.near-iterator (λ k. held l.parents l.borders ≡ adopt (laid l.fn.size.n l.cells) (number l.side) l.cell next k (held l.initial.parents l.initial.borders))
    × (rest l.parents ≡ rest l.initial.parents)
