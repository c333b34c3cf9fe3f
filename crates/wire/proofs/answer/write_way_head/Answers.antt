use Rattle.std.proofs.Common.{rules}
use Rattle.wire.specs.Bytes.{Written, way_head}
use Rattle.wire.proofs.Rows.{head_written}
use Rattle.wire.proofs.answer.write_way_head.Goals as goal

pub returns : goal.returns
returns c =
    let h : Written (way_head c.args.side c.args.count) c.args.out.now c.put.new.out c.put.result = search rules in
    record { head = h; whole = head_written c.args.side c.args.count c.args.out.now c.put.new.out (λ i. (c.type_inv.out i).fits) c.put.result h }
