use Rattle.std.proofs.Common.{◌+◌, arith}
use lib.Count.{ones}
use Rattle.ranking.proofs.Ranks.{walk_none, walk_few, walk_more, walk_all, place_small, stones_few}
use Rattle.ranking.proofs.positions.Ranking.place.Goals as goal

pub bounds-self-left : goal.bounds-self-left
bounds-self-left c = omega (arith, stones_few c.args.self.now.cells c.args.mine c.args.theirs c.requires)

pub loop-k-init : goal.loop-k-init
loop-k-init c =
    let few = stones_few c.args.self.now.cells c.args.mine c.args.theirs c.requires in
    rw (c.args.self.now.begins (ones c.args.mine + ones c.args.theirs) (omega arith))
    (walk_none c.args.self.now.cells c.args.mine c.args.theirs c.requires)

pub before-place-requires : goal.before-place-requires
before-place-requires c =
    let few = walk_few c.loop-k.invariant in omega arith

pub overflow_add-place-in-loop-k : goal.overflow_add-place-in-loop-k
overflow_add-place-in-loop-k c =
    let on = walk_more c.loop-k-test.true c.loop-k.invariant in
    omega (arith, on.sum, place_small c.args.self.now.cells c.args.mine c.args.theirs c.args.self.now.few c.requires)

pub overflow_sub-left : goal.overflow_sub-left
overflow_sub-left c = (walk_few c.loop-k.invariant).0

pub overflow_sub-left-in-loop-k : goal.overflow_sub-left-in-loop-k
overflow_sub-left-in-loop-k c = (walk_few c.loop-k.invariant).1

pub loop-k-preserved : goal.loop-k-preserved
loop-k-preserved c = rw c.before-place.ensures (walk_more c.loop-k-test.true c.loop-k.invariant)

pub returns : goal.returns
returns c = walk_all (omega arith) c.loop-k.invariant
