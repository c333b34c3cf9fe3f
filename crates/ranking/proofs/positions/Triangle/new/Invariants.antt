-- The rows of Pascal's triangle so far, and the numbers of the row that is filled.
use Rattle.ranking.proofs.Rows.{Filled}
use Rattle.ranking.proofs.positions.Triangle.new.Given as goal

abbrev pub invariant-loop-n : goal.invariant-loop-n
invariant-loop-n l = Filled l.n 0 l.rows

abbrev pub invariant-loop-k : goal.invariant-loop-k
invariant-loop-k l = Filled l.n l.k l.rows
