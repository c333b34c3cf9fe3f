use Rattle.std.proofs.Common.{[], sym, rules}
use Rattle.std.proofs.lemmas.List.{drop_all, take_rest}
use Rattle.wire.proofs.Replies.{a_byte, a_cell, a_number, by_two_numbers}
use Rattle.wire.proofs.answer.read_answer.Goals as goal

pub returns-in-4 : goal.returns-in-4
returns-in-4 c = (tt, a_byte c.args.bytes.now 4 (search rules) (search rules))

pub returns-in-5 : goal.returns-in-5
returns-in-5 c = (tt, a_byte c.args.bytes.now 5 (search rules) (search rules))

pub returns-in-1 : goal.returns-in-1
returns-in-1 c =
    (tt, a_number c.args.bytes.now (λ i. (c.type_inv.bytes i).fits) 1 c.from_le_bytes.result (search rules) (search rules) c.from_le_bytes.ensures)

pub returns-in-3 : goal.returns-in-3
returns-in-3 c =
    a_cell c.args.bytes.now (λ i. (c.type_inv.bytes i).fits) c.from_le_bytes-in-3.result c.checked_sub.result (search rules) (search rules) c.from_le_bytes-in-3.ensures
    c.from_le_bytes-in-3.type_inv c.checked_sub.ensures

pub returns-in-0 : goal.returns-in-0
returns-in-0 c =
    by_two_numbers c.args.bytes.now (λ i. (c.type_inv.bytes i).fits) 0 c.from_le_bytes-in-0.result c.from_le_bytes-in-0-2.result [] (search rules) (search rules)
    c.from_le_bytes-in-0.ensures c.from_le_bytes-in-0-2.ensures (sym (drop_all 5 c.args.bytes.now (search rules))) c.read_refused.result c.read_refused.ensures

pub returns-in-2 : goal.returns-in-2
returns-in-2 c =
    by_two_numbers c.args.bytes.now (λ i. (c.type_inv.bytes i).fits) 2 c.from_le_bytes-in-2.result c.from_le_bytes-in-2-2.result _ (search rules) (search rules)
    c.from_le_bytes-in-2.ensures c.from_le_bytes-in-2-2.ensures (take_rest c.args.bytes.now 5) c.read_way.result c.read_way.ensures
