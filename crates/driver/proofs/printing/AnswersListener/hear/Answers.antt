use Rattle.std.proofs.Common.{ap}
use Rattle.driver.specs.Served.{reply_line}
use Rattle.driver.specs.Tables.{exchange_at}
use Rattle.driver.proofs.Writing.{made, answer_more}
use Rattle.driver.proofs.printing.AnswersListener.hear.Goals as goal

pub returns-clause-heard : goal.returns-clause-heard
returns-clause-heard g c =
    made c.flush.result
    (λ all was. answer_more _ _ _ all (exchange_at c.args.table.now c.args.served) _ c.in_ok-writeln.ensures.bytes c.flush.ensures.bytes (ap reply_line c.told-told.ensures.value) was)
