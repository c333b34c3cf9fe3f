-- What is known of the cells that were tried, and what was done for them; and that fewer are free after a move and fewer left to try
-- after each.
use Rattle.std.proofs.Common.{◌≡◌}
use Rattle.endgame.proofs.Once.{Counting}
use Rattle.endgame.proofs.Searching.{Searching}
use Rattle.endgame.proofs.search.Search.+solve.Given as goal

abbrev pub decreases-solve : goal.decreases-solve
decreases-solve l = l.at.free

abbrev pub invariant-loop-must : goal.invariant-loop-must
invariant-loop-must l = record {
  same : l.self.ranking ≡ l.fn.self.ranking;
  finds : Searching l.fn.self.ranking.cells l.mine l.theirs l.at l.fn.table l.table l.must l.lost;
  counts : Counting l.fn.self.ranking.cells l.at l.fn.self.effort l.self.effort l.fn.table l.table l.must;
}

abbrev pub decreases-loop-must : goal.decreases-loop-must
decreases-loop-must l = l.must
