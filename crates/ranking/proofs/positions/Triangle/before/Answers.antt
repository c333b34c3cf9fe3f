use Rattle.std.proofs.Common.{add-one, arith}
use Rattle.ranking.proofs.Counting.{theirs_room}
use Rattle.ranking.proofs.positions.Triangle.before.Goals as goal

pub overflow_sub-result : goal.overflow_sub-result
overflow_sub-result c =
    let stones = c.args.stones in
    omega (arith, theirs_room c.args.k stones.mine stones.theirs (omega arith), simp add-one at c.ways-then-first-eq1-2.ensures)
