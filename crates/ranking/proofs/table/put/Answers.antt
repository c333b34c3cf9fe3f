use Rattle.std.proofs.Common.{◌/◌, ◌%◌, get_or, arith}
use Rattle.ranking.proofs.Entries.{writes, written}
use Rattle.ranking.proofs.table.put.Goals as goal

pub overflow_sub-table : goal.overflow_sub-table
overflow_sub-table c = (writes (get_or c.args.table.now (c.args.place / 4) 0) c.args.value (c.args.place % 4) c.requires.small (omega arith) (omega arith)).0

pub overflow_add-table : goal.overflow_add-table
overflow_add-table c =
    let fits = writes (get_or c.args.table.now (c.args.place / 4) 0) c.args.value (c.args.place % 4) c.requires.small (omega arith) (omega arith) in
    omega (arith, fits.1)

pub returns : goal.returns
returns c = written c.args.table.now c.args.place c.args.value c.requires.inside c.requires.small (omega arith)
