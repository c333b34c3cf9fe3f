use Rattle.std.proofs.Common.{max, sym, ap, ◌∙◌, subst}
use Rattle.text.specs.Lines.{Readable}
use Rattle.text.specs.Places.{Stops}
use Rattle.text.proofs.Asked.{line_stops}
use Rattle.text.proofs.reading.read_line.Goals as goal

pub returns-in-Err-read_word : goal.returns-in-Err-read_word
returns-in-Err-read_word c =
    subst (Stops Readable c.args.line.now) (sym (c.max-in-Err-read_word.ensures ∙ ap (λ m. max m c.in-Err-number_after.place) c.max.ensures))
    (line_stops _ _ _ _ c.in-Err-read_word.ensures c.in-Err.ensures c.in-Err-number_after.ensures)
