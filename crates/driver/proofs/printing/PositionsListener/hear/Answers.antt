use Rattle.std.proofs.Common.{ap}
use Rattle.std.proofs.KnownBytes.{Appends-kept}
use Rattle.driver.specs.Served.{reply_line}
use Rattle.driver.specs.Tables.{exchange_at}
use Rattle.driver.proofs.Writing.{made, printed_more}
use Rattle.driver.proofs.printing.PositionsListener.hear.Goals as goal

pub returns-clause-heard : goal.returns-clause-heard
returns-clause-heard g c =
    let shown = c.in_ok-write_position.ensures.written in
    let told = Appends-kept _ _ _ _ c.in_ok-writeln.ensures.bytes c.in_ok-flush.ensures.bytes in
    made c.flush-2.result (λ all was. printed_more _ _ _ _ all (exchange_at c.args.table.now c.args.served) _ shown.0
    told shown.2 c.flush-2.ensures.bytes (ap reply_line c.told-told.ensures.value) shown.1 was)
