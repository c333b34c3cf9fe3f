use Rattle.std.proofs.Common.{rules}
use Rattle.wire.proofs.Rows.{row_count}
use Rattle.wire.proofs.answer.count_cells.Goals as goal

pub returns : goal.returns
returns c = rw c.ok.ensures.value (row_count c.args.cells.now c.try_from.result (search rules) c.try_from.ensures)
