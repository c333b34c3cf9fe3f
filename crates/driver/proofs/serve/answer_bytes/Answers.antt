use Rattle.std.proofs.Common.{◌≡◌, [], Some, ap, rules}
use Rattle.driver.proofs.Writing.{answers_all}
use Rattle.driver.proofs.serve.answer_bytes.Goals as goal

pub returns : goal.returns
returns c =
    let before = c.new-answers.result.out.items in
    let after = c.serve_lines.new.listener.out.items in
    let nothing : before ≡ [] = search rules in
    let handed : after ≡ c.into_inner.result.items = search rules in
    answers_all c.args.limits _ c.args.input.now _ _ (Some before) (Some after) c.into_inner.result.items c.in_ok-serve_lines.ensures.served c.in_ok-table.ensures.limits
    c.in_ok-table.ensures.closed (ap Some nothing) (ap Some handed)
