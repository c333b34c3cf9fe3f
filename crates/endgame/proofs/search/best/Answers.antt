use Rattle.std.proofs.Common.{refl, arith, if◌then◌else◌}
use Rattle.std.proofs.lemmas.Nat.{and_le_r}
use Rattle.ranking.proofs.Bits.{cell_le, cell_below}
use Rattle.endgame.proofs.Choosing.{choosing_none, choosing_better, choosing_as_before, choosing_all}
use Rattle.endgame.proofs.search.best.Goals as goal

pub loop-rest-init : goal.loop-rest-init
loop-rest-init c = choosing_none c.args.must c.lowest-best.result c.lowest-best.ensures.within c.lowest-best.ensures.first

pub overflow_sub-rest : goal.overflow_sub-rest
overflow_sub-rest c = omega (arith, c.one-rest.ensures, cell_le c.lowest-k.result c.loop-rest.rest c.lowest-k.ensures.within)

pub weight-requires : goal.weight-requires
weight-requires c = record {
  inside = cell_below 16 c.lowest-k.result c.args.must c.requires.fits (c.loop-rest.invariant.inside c.lowest-k.result c.lowest-k.ensures.within);
  few = omega (arith, and_le_r c.args.at.mine 65535);
}

pub weight-requires-in-loop-rest : goal.weight-requires-in-loop-rest
weight-requires-in-loop-rest c = record {
  inside = cell_below 16 c.lowest-k.result c.args.must c.requires.fits (c.loop-rest.invariant.inside c.lowest-k.result c.lowest-k.ensures.within);
  few = omega (arith, and_le_r c.args.at.theirs 65535);
}

pub loop-rest-preserved-then-linked-most : goal.loop-rest-preserved-then-linked-most
loop-rest-preserved-then-linked-most c =
    choosing_better c.loop-rest.invariant c.lowest-k.ensures.within c.lowest-k.ensures.first
    (c.weight.result, c.weight-in-loop-rest.result, c.weight.ensures.value, c.weight-in-loop-rest.ensures.value, refl) c.one-rest.ensures c.if-linked-most.true

pub loop-rest-preserved : goal.loop-rest-preserved
loop-rest-preserved c =
    choosing_as_before c.loop-rest.invariant c.lowest-k.ensures.within c.lowest-k.ensures.first
    (c.weight.result, c.weight-in-loop-rest.result, c.weight.ensures.value, c.weight-in-loop-rest.ensures.value, refl) c.one-rest.ensures c.if-linked-most.false

pub returns : goal.returns
returns c = choosing_all c.loop-rest.invariant (omega arith)
