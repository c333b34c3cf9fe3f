-- The best of the cells that were looked at, and that fewer are left with each.
use Rattle.endgame.specs.Choices.{WeighsBoth}
use Rattle.endgame.proofs.Choosing.{Choosing}
use Rattle.endgame.proofs.search.best.Given as goal

abbrev pub invariant-loop-rest : goal.invariant-loop-rest
invariant-loop-rest l = Choosing (WeighsBoth l.mine l.theirs l.at) l.must l.best l.most l.rest

abbrev pub decreases-loop-rest : goal.decreases-loop-rest
decreases-loop-rest l = l.rest
