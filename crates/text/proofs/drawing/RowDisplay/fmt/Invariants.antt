-- The cells of the row so far are written.
use Rattle.std.proofs.Common.{◌++◌}
use Rattle.std.specs.Fmt.{HasWritten, IsPlainFormatter}
use Rattle.hexboard.specs.Words.{words}
use Rattle.text.specs.Boards.{each, cell_shown, spaces}
use Rattle.text.proofs.drawing.RowDisplay.fmt.Given as goal

abbrev pub invariant-loop-column : goal.invariant-loop-column
invariant-loop-column g l =
    let board = l.self.board in
    IsPlainFormatter l.fn.f →
    HasWritten g.W.Write.write_str_gives l.fn.f
    (spaces l.self.row ++ each l.column (cell_shown board.size.n board.cells.now (words board.way.now) l.self.row)) l.f
