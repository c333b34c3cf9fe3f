-- The walk along the cells, and how many positions were passed.
use Rattle.ranking.proofs.Ranks.{Walked}
use Rattle.ranking.proofs.positions.Ranking.place.Given as goal

abbrev pub invariant-loop-k : goal.invariant-loop-k
invariant-loop-k l = Walked l.self.cells l.mine l.theirs l.k l.x l.y l.left.mine l.left.theirs l.place
