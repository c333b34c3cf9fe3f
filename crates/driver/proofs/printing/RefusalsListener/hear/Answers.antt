use Rattle.std.proofs.Common.{◌∙◌, ap, sym, true≢false, append_assoc}
use Rattle.driver.specs.Served.{reply_line}
use Rattle.driver.specs.Tables.{exchange_at, way_of}
use Rattle.driver.proofs.Writing.{refusal_more, still_written, nothing_more, counted_more, number_is}
use Rattle.driver.proofs.printing.RefusalsListener.hear.Goals as goal

pub returns-in_ok-flush-clause-heard : goal.returns-in_ok-flush-clause-heard
returns-in_ok-flush-clause-heard g c = λ all was.
    let x = exchange_at c.args.table.now c.args.served in (
      c.saturating_add-number.ensures ∙ counted_more all x c.args.self.now.lines was.0,
      still_written _ _ _ c.in_ok-flush.ensures.bytes
          (refusal_more _ _ all x c.saturating_add-number.result _ _ c.in_ok-writeln.ensures.bytes (c.saturating_add-number.ensures ∙ number_is all c.args.self.now.lines was.0)
          (ap reply_line c.told-told.ensures.value) (simp append_assoc) ((c.is_refused.ensures (way_of c.args.table.now)).0 c.if-is_refused.true) was.1),
    )

pub returns-else-is_refused-clause-heard : goal.returns-else-is_refused-clause-heard
returns-else-is_refused-clause-heard g c = λ all was.
    let x = exchange_at c.args.table.now c.args.served in (
      c.saturating_add-number.ensures ∙ counted_more all x c.args.self.now.lines was.0,
      nothing_more _ all x (λ refused. true≢false (sym ((c.is_refused.ensures (way_of c.args.table.now)).1 refused) ∙ c.if-is_refused.false)) was.1,
    )
