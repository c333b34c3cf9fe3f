use Rattle.std.proofs.Common.{sym}
use Rattle.hexboard.specs.Geometry.{given}
use Rattle.hexboard.proofs.Adjacent.{neighbours_beside, neighbours_here, neighbours_past}
use Rattle.hexboard.proofs.geometry.Neighbours.of.Goals as goal

pub returns-in_default-clause-value : goal.returns-in_default-clause-value
unfolding given
returns-in_default-clause-value c = sym (neighbours_past c.args.size.n c.args.cell c.in_default.ensures)

pub returns-in_default-clause-beside : goal.returns-in_default-clause-beside
returns-in_default-clause-beside c = rw (returns-in_default-clause-value c) (neighbours_beside c.args.size.n c.args.cell)

pub returns-clause-value : goal.returns-clause-value
returns-clause-value c =
    let on_board = c.in-Some.ensures in
    rw (c.directions.ensures.value, on_board.1, on_board.2) (neighbours_here c.args.size.n c.args.cell on_board.0)

pub returns-clause-beside : goal.returns-clause-beside
returns-clause-beside c = rw (returns-clause-value c) (neighbours_beside c.args.size.n c.args.cell)
