use Rattle.std.proofs.Common.{[], ◌∷◌, refl, arith}
use Rattle.wire.specs.declared.call.Call.TheVariants.{Back, Who, CanForce}
use Rattle.text.proofs.Words.{tried_more, all_tried}
use Rattle.text.proofs.reading.read_word.Goals as goal

pub loop-word-init : goal.loop-word-init
loop-word-init c = refl

pub loop-word-preserved : goal.loop-word-preserved
loop-word-preserved c =
    tried_more ((c.as_slice.result, _) ∷ (c.as_slice-2.result, _) ∷ (c.as_slice-3.result, _) ∷ []) c.loop-word.word-index c.args.line.now
    c.loop-word.furthest c.in-Err.place c.max-furthest.result c.max-furthest.ensures c.loop-word.invariant c.in-Err.ensures

pub returns : goal.returns
returns c =
    all_tried (c.as_slice.result, Back) (c.as_slice-2.result, Who) (c.as_slice-3.result, CanForce) c.loop-word.word-index c.args.line.now c.loop-word.furthest (omega arith)
    c.as_slice.ensures c.as_slice-2.ensures c.as_slice-3.ensures c.loop-word.invariant
