use Rattle.std.proofs.Common.{length}
use Rattle.ranking.proofs.Entries.{all_clear}
use Rattle.ranking.proofs.table.clear.Goals as goal

pub returns : goal.returns
returns c = rw (c.fill.ensures.after (λ y e. e)) (all_clear (length c.args.table.now))
