use Rattle.std.proofs.Common.{◌≡◌, ◌<◌, length, take, ap, subst, ◌∙◌, ⊎_elim, arith}
use Rattle.std.proofs.lemmas.Bool.{cases_lt}
use Rattle.std.proofs.lemmas.List.{take_all}
use Rattle.text.specs.Lines.{Asks, Readable}
use Rattle.text.specs.Places.{Stops}
use Rattle.driver.specs.declared.line.TheConstants.{LONGEST_LINE}
use Rattle.driver.proofs.Answering.{kept_is, readable_to_all, readable_to_stop, too_long}
use Rattle.driver.proofs.table.read.Goals as goal

pub returns-in-Ok-2 : goal.returns-in-Ok-2
returns-in-Ok-2 c =
    let bytes = c.args.line.now in
    let kept : take c.min.result bytes ≡ take LONGEST_LINE bytes = ap (λ k. take k bytes) c.min.ensures ∙ kept_is LONGEST_LINE bytes in
    let long : LONGEST_LINE < length bytes =
    ⊎_elim (λ more. more) (λ short. absurd (c.if-kept-line.false (ap length (take_all c.min.result bytes (omega (arith, short, c.min.ensures)))))) (cases_lt LONGEST_LINE (length bytes)) in
    (λ _. long, readable_to_all LONGEST_LINE bytes c.in-Ok.asked long (subst (λ b. Asks b c.in-Ok.asked) kept c.in-Ok.ensures))

pub returns-in-Err : goal.returns-in-Err
returns-in-Err c =
    let bytes = c.args.line.now in
    let kept : take c.min.result bytes ≡ take LONGEST_LINE bytes = ap (λ k. take k bytes) c.min.ensures ∙ kept_is LONGEST_LINE bytes in
    let stops = subst (λ b. Stops Readable b c.in-Err.place) kept c.in-Err.ensures in
    (too_long LONGEST_LINE bytes c.in-Err.place stops, readable_to_stop _ _ stops)
