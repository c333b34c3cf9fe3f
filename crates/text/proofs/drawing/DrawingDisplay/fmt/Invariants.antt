-- The rows so far are written.
use Rattle.std.specs.Fmt.{HasWritten, IsPlainFormatter}
use Rattle.hexboard.specs.Words.{words}
use Rattle.text.specs.Boards.{each, row_line}
use Rattle.text.proofs.drawing.DrawingDisplay.fmt.Given as goal

abbrev pub invariant-loop-row : goal.invariant-loop-row
invariant-loop-row g l =
    IsPlainFormatter l.fn.f →
    HasWritten g.W.Write.write_str_gives l.fn.f (each l.row (row_line l.self.size.n l.self.cells.now (words l.self.way.now))) l.f
