use Rattle.std.proofs.Common.{rules}
use Rattle.wire.proofs.Calls.{reads_first, reads_other}
use Rattle.wire.proofs.call.read_call.Goals as goal

pub returns-in-0 : goal.returns-in-0
returns-in-0 c =
    let t = reads_first c.args.bytes.now (λ i. (c.type_inv.bytes i).fits) 0 (search rules) c.in-0.is c.read_move.ensures in
    record { value = t.0; law = t.1 }

pub returns-in-1 : goal.returns-in-1
returns-in-1 c =
    let t = reads_first c.args.bytes.now (λ i. (c.type_inv.bytes i).fits) 1 (search rules) c.in-1.is c.read_end.ensures in
    record { value = t.0; law = t.1 }

pub returns-in-2 : goal.returns-in-2
returns-in-2 c =
    let t = reads_first c.args.bytes.now (λ i. (c.type_inv.bytes i).fits) 2 (search rules) c.in-2.is c.read_end-in-2.ensures in
    record { value = t.0; law = t.1 }

pub returns-in-3 : goal.returns-in-3
returns-in-3 c =
    let t = reads_first c.args.bytes.now (λ i. (c.type_inv.bytes i).fits) 3 (search rules) c.in-3.is c.read_end-in-3.ensures in
    record { value = t.0; law = t.1 }

pub returns-in_default-number : goal.returns-in_default-number
returns-in_default-number c =
    let t = reads_other c.args.bytes.now (search rules) (search rules) in record { value = t.0; law = t.1 }
