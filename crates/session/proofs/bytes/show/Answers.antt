use Rattle.std.proofs.Common.{ap, arith}
use Rattle.session.specs.Replies.{way_cells}
use Rattle.session.proofs.Showing.{shown_way}
use Rattle.session.proofs.bytes.show.Goals as goal

pub returns-in-Way : goal.returns-in-Way
returns-in-Way c =
    rw (c.in-Way.is, c.from.ensures)
    (shown_way c.in-Way.side c.in-Way.count c.args.answer.now (omega (arith, ap way_cells c.in-Way.is, c.requires.way))
    c.write_way_head.new.out (λ i. omega (arith, c.type_inv.answer i)) c.write_way_head.result c.write_way_head.ensures.head)
