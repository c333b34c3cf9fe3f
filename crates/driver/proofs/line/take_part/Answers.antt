use Rattle.std.proofs.Common.{◌≡◌, false, ◌==◌, length, take, take_all, ◌∙◌, sym, append-nil, arith}
use Rattle.std.proofs.lemmas.Bool.Decides.{nat_tests}
use Rattle.driver.proofs.Keeping.{fed, unfed}
use Rattle.driver.proofs.line.take_part.Goals as goal

pub returns-in-Some-clause-taken : goal.returns-in-Some-clause-taken
returns-in-Some-clause-taken c =
    let before = fed c.args.bytes.now c.in-Some.end (sym c.line_feed.ensures ∙ c.in-Some.is) in
    record { part = take c.in-Some.end c.args.bytes.now; bytes_are = before.1; no_feed = before.2; some = tt; kept = c.extend.ensures }

pub returns-in-None-clause-taken : goal.returns-in-None-clause-taken
returns-in-None-clause-taken c =
    record { part = c.args.bytes.now; bytes_are = take_all (length c.args.bytes.now) c.args.bytes.now (omega arith) ∙ sym (append-nil c.args.bytes.now); no_feed = unfed c.args.bytes.now (sym c.line_feed.ensures ∙ c.in-None.is); some = let e : false ≡ (length c.args.bytes.now == 0) = c.if-is_empty.ensures in grind (arith, nat_tests); kept = c.extend-in-None.ensures }
