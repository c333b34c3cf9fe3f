use Rattle.std.proofs.Common.{refl, arith, if◌then◌else◌}
use Rattle.wire.proofs.Rows.{way_long, way_written}
use Rattle.wire.proofs.answer.write_way.Goals as goal

pub returns-then-out-size : goal.returns-then-out-size
returns-then-out-size c =
    let t = rw c.in_ok-count.ensures.ok_part at c.count_cells.ensures in (t.0, (omega (arith, way_long c.args.side c.args.cells t.0), refl))

pub returns : goal.returns
returns c =
    let t = rw c.in_ok-count.ensures.ok_part at c.count_cells.ensures in (
      t.0,
      way_written c.args.side c.in_ok-count.count c.args.cells c.args.out.now c.write_way_head.new.out c.copy_from_slice.new.self (λ i. (c.type_inv.cells i).fits) t.0 t.1 c.if-out-size.false
          c.write_way_head.result c.write_way_head.ensures.head c.copy_from_slice.ensures.after,
    )
