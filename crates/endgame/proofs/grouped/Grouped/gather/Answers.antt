use Rattle.std.proofs.Common.{get_or, ap}
use Rattle.endgame.proofs.Gathered.{gathered_none, gathered_more}
use Rattle.endgame.proofs.grouped.Grouped.gather.Goals as goal

pub loop-k-init : goal.loop-k-init
loop-k-init c = gathered_none _ _ _ _

pub loop-k-preserved : goal.loop-k-preserved
loop-k-preserved c =
    gathered_more _ _ _ _ _ _ _ _ c.loop-k.invariant (ap (λ l. get_or l c.loop-k.k 0) c.deref-cell-items.ensures.0) c.enter_all.ensures
