use Rattle.std.proofs.Common.{arith, rules, if◌then◌else◌}
use Rattle.text.proofs.Asked.{short_word, behind}
use Rattle.text.proofs.reading.number_after.Goals as goal

pub returns-then-same-word : goal.returns-then-same-word
returns-then-same-word c = short_word _ _ _ c.agree-same.ensures c.if-same-word.true

pub returns : goal.returns
returns c = behind _ _ _ c.agree-same.ensures (omega arith) _ (λ q place h. search rules) c.number.result c.map_err.result c.number.ensures c.map_err.ensures.cases
