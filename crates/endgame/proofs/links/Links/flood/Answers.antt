use Rattle.std.proofs.Common.{arith}
use Rattle.ranking.proofs.Bits.{in_and, cell_le, cell_below}
use Rattle.endgame.proofs.Flooding.{flooding_none, flooding_more, flooding_all}
use Rattle.endgame.proofs.links.Links.flood.Goals as goal

pub loop-touched-init : goal.loop-touched-init
loop-touched-init c = flooding_none c.args.self.now.near c.args.from c.args.stones

pub overflow_sub-rest : goal.overflow_sub-rest
overflow_sub-rest c =
    let (on, left) = in_and c.lowest-k.result c.loop-touched.touched c.loop-touched.rest c.lowest-k.ensures.within in
    omega (arith, cell_le c.lowest-k.result c.loop-touched.rest left)

pub bounds-self-k : goal.bounds-self-k
bounds-self-k c =
    let (on, left) = in_and c.lowest-k.result c.loop-touched.touched c.loop-touched.rest c.lowest-k.ensures.within in
    cell_below 16 c.lowest-k.result c.args.stones c.requires (c.loop-touched.invariant.inside c.lowest-k.result left)

pub loop-touched-preserved : goal.loop-touched-preserved
loop-touched-preserved c =
    rw c.one-rest.ensures (flooding_more c.args.self.now.near c.args.from c.args.stones c.loop-touched.touched c.loop-touched.rest c.lowest-k.result c.loop-touched.invariant c.lowest-k.ensures.within)

pub returns : goal.returns
returns c = flooding_all c.args.self.now.near c.args.from c.args.stones c.loop-touched.touched c.loop-touched.rest c.loop-touched.invariant (omega arith)
