-- A line has come so far, and no end of it.
use Rattle.driver.proofs.Keeping.{SoFar}
use Rattle.driver.proofs.line.next_line.Given as goal

abbrev pub invariant-loop : goal.invariant-loop
invariant-loop g l = SoFar g.R.Input.can_break (g.R.Read.remaining l.fn.input) (g.R.Read.remaining l.input) l.line l.counter
