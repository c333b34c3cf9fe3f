-- The flood over the stones that are left; there are fewer with each.
use Rattle.endgame.proofs.Flooding.{Flooding}
use Rattle.endgame.proofs.links.Links.flood.Given as goal

abbrev pub invariant-loop-touched : goal.invariant-loop-touched
invariant-loop-touched l = Flooding l.self.near l.from l.stones l.touched l.rest

abbrev pub decreases-loop-touched : goal.decreases-loop-touched
decreases-loop-touched l = l.rest
