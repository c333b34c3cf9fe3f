use Rattle.std.proofs.Common.{◌≡◌, ◌++◌, ◌^◌, ◌-◌, List, ℕ, [], refl, sym, ap, ◌∙◌}
use Rattle.std.proofs.Output.{has_written_append, has_written_of_eq}
use Rattle.std.proofs.lemmas.List.{append-nil}
use Rattle.std.specs.Fmt.{styled_text, format_spec}
use Rattle.hexboard.specs.Words.{words}
use Rattle.text.specs.Boards.{spaces, each, cell_shown}
use Rattle.text.proofs.Added.{each_more}
use Rattle.text.proofs.Indented.{indented}
use Rattle.text.proofs.drawing.RowDisplay.fmt.Goals as goal

pub loop-column-init : goal.loop-column-init
loop-column-init g c = λ p.
    let row = c.args.self.now.row in
    let indent : c.laid_out.result ≡ format_spec 32 0 0 row (2 ^ 64 - 1) =
    c.laid_out.ensures ∙ ap (λ k. format_spec 32 0 0 k (2 ^ 64 - 1)) c.from-indent.ensures in
    has_written_of_eq _ _ _ _ _ (ap (λ s. styled_text s []) indent ∙ (indented row ∙ sym (append-nil _))) (c.in_ok-write.ensures.writes p refl)

pub loop-column-preserved : goal.loop-column-preserved
loop-column-preserved g c = λ p.
    let before = c.loop-column.invariant p in
    let row = c.args.self.now.row in
    let board = c.args.self.now.board in
    let shown = cell_shown board.size.n board.cells.now (words board.way.now) row in
    let column = c.loop-column.column in
    let sofar = spaces row ++ each column shown in
    let cell : c.gap-gap.result.now ++ c.mark-mark.result.now ≡ shown column = cc in
    has_written_of_eq _ _ _ _ _ (each_more shown column (spaces row) sofar _ refl (ap (λ (xs : List ℕ). sofar ++ xs) cell))
    (has_written_append _ _ _ _ _ _ before (c.in_ok-write-2.ensures.writes before.plain refl))
