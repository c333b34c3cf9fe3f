use Rattle.std.proofs.Common.{◌/◌, min, length, ap, ◌∙◌}
use Rattle.hexboard.specs.Games as games
use Rattle.hexboard.specs.Sides.{number}
use Rattle.session.proofs.Showing.{whole_cells}
use Rattle.session.proofs.reply.with_way.Goals as goal

pub returns-in-Way-clause-value : goal.returns-in-Way-clause-value
returns-in-Way-clause-value c =
    rw c.in-Way.is
    (ap (games.way (number c.in-Way.side))
    (whole_cells c.args.way.now c.in-Way.count c.min-cells.result (c.min-cells.ensures ∙ ap (λ k. min k (length c.args.way.now / 2)) c.from.ensures)))
