use Rattle.std.proofs.Common.{sym, arith, if◌then◌else◌}
use Rattle.hexboard.specs.Geometry.{laid}
use Rattle.hexboard.specs.Sides.{number}
use Rattle.hexboard.proofs.Adjacent.{neighbour_next, neighbour_inside}
use Rattle.hexboard.proofs.Given.{upto_next, upto_end}
use Rattle.paths.proofs.Fronts.{look_end, look_past, look_own, look_on, look_met, look_more}
use Rattle.paths.proofs.Grounds.{few_cells, ground_mutual, not_connected, neighbours_on}
use Rattle.paths.proofs.search.search.Goals as goal

pub loop-next-preserved-then-not-is_fresh : goal.loop-next-preserved-then-not-is_fresh
loop-next-preserved-then-not-is_fresh c =
    let there = upto_next look_end c.in-Some-next.ensures.steps c.loop-next.invariant.looking in
    record {
      none = c.loop-next.invariant.none;
      looking = (_, there.3, look_past there.2 c.in-Some-next.next there.1 (sym c.if-not-is_fresh.ensures));
      room = c.loop-next.invariant.room;
    }

pub enlist-requires-clause-fits : goal.enlist-requires-clause-fits
enlist-requires-clause-fits c =
    let there = upto_next look_end c.in-Some-next.ensures.steps c.loop-next.invariant.looking in
    let size = c.args.ground.now.size in
    omega (arith, (neighbour_inside size.n c.in-Some-listed.cell there.0 c.in-Some-next.next there.1).0, few_cells size.n size.few)

pub loop-next-preserved : goal.loop-next-preserved
loop-next-preserved c =
    let there = upto_next look_end c.in-Some-next.ensures.steps c.loop-next.invariant.looking in
    let near = neighbour_next c.args.ground.now.size.n c.in-Some-listed.cell there.0 c.in-Some-next.next there.1 in
    record {
      none = c.loop-next.invariant.none;
      looking = rw (c.enlist.ensures.listed, c.enlist.ensures.reached, c.enlist.ensures.count)
          (_, there.3, look_more there.2 near (sym c.if-not-is_fresh.ensures) there.1 (sym c.if-is_first.ensures));
      room = c.enlist.ensures.room _ c.loop-next.invariant.room;
    }

pub search-preserved : goal.search-preserved
search-preserved c =
    let ground = c.args.ground.now in
    let looking = upto_end look_end c.in-None.ensures.steps.0 c.loop-next.invariant.looking in
    record {
      none = c.loop-next.invariant.none;
      ahead = look_on looking
          (neighbours_on ground.size.n (number ground.side) ground.cells.now c.in-Some-listed.cell 6 ground.whole (look_own looking)
          (omega arith));
      room = c.loop-next.invariant.room;
    }

pub returns-then-is_first-clause-met : goal.returns-then-is_first-clause-met
returns-then-is_first-clause-met c =
    let ground = c.args.ground.now in
    let there = upto_next look_end c.in-Some-next.ensures.steps c.loop-next.invariant.looking in
    let near = neighbour_next ground.size.n c.in-Some-listed.cell there.0 c.in-Some-next.next there.1 in
    rw (c.enlist.ensures.listed, c.enlist.ensures.reached)
    (look_met there.2 near (sym c.if-not-is_fresh.ensures) (ground_mutual (laid ground.size.n ground.cells.now) (number ground.side)) (sym c.if-is_first.ensures))

pub returns-in_default-listed-clause-met : goal.returns-in_default-listed-clause-met
returns-in_default-listed-clause-met c =
    let ground = c.args.ground.now in
    rw c.search.invariant.none
    (not_connected (laid ground.size.n ground.cells.now) (number ground.side) _ _ _ _ c.search.invariant.ahead c.in_default-listed.ensures)
