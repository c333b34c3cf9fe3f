use Rattle.std.proofs.Common.{◌-◌, arith}
use Rattle.ranking.proofs.Counting.{choose_small}
use Rattle.ranking.proofs.Rows.{first_row, first_more, sum_more, row_more}
use Rattle.ranking.proofs.positions.Triangle.new.Goals as goal

pub loop-n-init : goal.loop-n-init
loop-n-init c = first_row

pub loop-k-init : goal.loop-k-init
loop-k-init c = first_more (omega arith) c.loop-n.invariant

pub overflow_add-rows : goal.overflow_add-rows
overflow_add-rows c =
    let n = c.loop-n.n in
    let k = c.loop-k.k in
    let above = c.loop-k.invariant.above in
    omega (arith, above (n - 1) (k - 1) (omega arith) (omega arith), above (n - 1) k (omega arith) (omega arith), choose_small (n - 1) (k - 1) (omega arith), choose_small (n - 1) k (omega arith))

pub loop-k-preserved : goal.loop-k-preserved
loop-k-preserved c = sum_more (omega arith) (omega arith) (omega arith) (omega arith) c.loop-k.invariant

pub loop-n-preserved : goal.loop-n-preserved
loop-n-preserved c = row_more (omega arith) c.loop-k.invariant

pub invariant_of-result : goal.invariant_of-result
invariant_of-result c = record { filled = λ i k l m. c.loop-n.invariant.above i k (omega arith) m }
