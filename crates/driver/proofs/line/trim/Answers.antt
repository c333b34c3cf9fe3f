use Rattle.std.proofs.Common.{◌≡◌, take, ap, ◌∙◌, rules}
use Rattle.std.specs.Io.BufRead.{strip_last}
use Rattle.driver.proofs.Keeping.{trim_kept}
use Rattle.driver.proofs.line.trim.Goals.{then-ends_with_return, else-ends_with_return}
use Rattle.driver.proofs.line.trim.Goals as goal

pub returns : goal.returns
returns c = λ all is.
    let stripped : c.if-ends_with_return.line.items ≡ strip_last 13 c.args.line.now.items =
    elim c.if-ends_with_return.branch [ then-ends_with_return w ↦ search rules | else-ends_with_return w ↦ search rules ] in
    c.truncate.ensures.items ∙ ap (take 4097) stripped ∙ trim_kept 4097 all c.args.line.now.items is
