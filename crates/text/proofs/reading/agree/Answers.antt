use Rattle.std.proofs.Common.{eqb, ◌∙◌, sym, subst, rules, tests}
use Rattle.std.specs.List.{zip}
use Rattle.std.proofs.lemmas.Iterator.{YieldsList-from_slice, YieldsList-from_zip}
use Rattle.std.proofs.lemmas.Iterator.Consumers.{count_from_yields_List}
use Rattle.std.proofs.lemmas.Iterator.Search.{YieldsList-from_take_while}
use Rattle.std.proofs.lemmas.List.Folds.{length-prefix_len}
use Rattle.text.specs.Places.{Agree}
use Rattle.text.proofs.Fronts.{agreed}
use Rattle.text.proofs.reading.agree.Goals as goal

pub returns : goal.returns
returns c =
    let w = c.args.word.now in
    let l = c.args.line.now in
    let count = count_from_yields_List c.take_while.result _ c.count.ensures.ran
    (YieldsList-from_take_while _ (λ p. eqb p.0 p.1) (YieldsList-from_zip (YieldsList-from_slice w cc) (YieldsList-from_slice l cc)) c.take_while.ensures.closure c.take_while.ensures.done (λ x b q k. search (rules, tests))) in
    subst (Agree w l) (sym (count ∙ length-prefix_len (λ p. eqb p.0 p.1) (zip w l))) (agreed w l)
