use Rattle.std.proofs.Common.{ap, ◌∙◌, rules}
use Rattle.std.specs.Result.{result_ok}
use Rattle.wire.proofs.Replies.{other_count, a_way, side_read}
use Rattle.wire.proofs.answer.read_way.Goals as goal

pub returns-then-cells-from : goal.returns-then-cells-from
returns-then-cells-from c = other_count c.args.side c.args.count c.args.cells.now (search rules)

pub returns : goal.returns
returns c =
    let is = side_read c.in_ok-side.side c.args.side c.in_ok-ok.field-0 c.try_from.result c.try_from.ensures c.in_ok-ok.ensures.value (c.in_ok-side.ensures.value ∙ ap result_ok c.try_from-2.ensures) in
    a_way c.in_ok-side.side c.args.side c.args.count c.args.cells (λ i. (c.type_inv.cells i).fits) is (search rules) (search rules)
