use Rattle.std.proofs.Common.{eqb, ◌∙◌, rules, tests}
use Rattle.std.proofs.lemmas.Iterator.Consumers.{YieldsList-from_first}
use Rattle.std.proofs.lemmas.Iterator.Search.{any_from_yields_List}
use Rattle.hexboard.specs.Words.{words}
use Rattle.text.proofs.Marked.{among_any}
use Rattle.text.proofs.drawing.Drawing.is_marked.Goals as goal

pub returns : goal.returns
returns c =
    any_from_yields_List (λ each. eqb each c.args.cell) _ _ _ c.any.ensures.ran (YieldsList-from_first (λ each. each) (λ rest. rest) _ c.of.ensures) (λ x b q k. search (rules, tests))
    ∙ among_any (words c.args.self.now.way.now) c.args.cell
