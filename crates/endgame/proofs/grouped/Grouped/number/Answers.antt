use Rattle.std.proofs.Common.{◌≡◌, ◌++◌, ◌∷◌, [], Ok, Err, Some, None, Result, OnOk, OnErr, ap, sym, ◌∙◌, if◌then◌else◌}
use Rattle.std.specs.Result.{result_ok}
use Rattle.endgame.specs.Cells.{zeros_from}
use Rattle.endgame.proofs.Numbering.{free_same, free_more, free_beyond, lists_all}
use Rattle.endgame.proofs.grouped.Grouped.number.Goals as goal
use Rattle.endgame.proofs.grouped.Grouped.number.Goals.{then-stone-eq0+in_ok-ok, else-stone-eq0}

-- what `ok` made of a result says which it was
on_none : {T E P : Type 0} (r : Result T E) → result_ok r ≡ None → OnErr r P → P
on_none (Ok x) e h = absurd (cc)
on_none (Err y) e h = h

on_some : {T E P : Type 0} (r : Result T E) (x : T) → result_ok r ≡ Some x → OnOk r P → P
on_some (Ok y) x e h = h
on_some (Err y) x e h = absurd (cc)

pub loop-cell-init : goal.loop-cell-init
unfolding zeros_from
loop-cell-init c = c.new-cells.ensures

pub returns-in_err-ok : goal.returns-in_err-ok
returns-in_err-ok c =
    rw c.from_residual.ensures
    (free_beyond _ _ _ c.loop-cell.invariant c.loop-cell-test.true c.if-stone-eq0.true (on_none _ (sym c.ok.ensures.value ∙ c.in_err-ok.was) c.try_push.ensures.full))

pub loop-cell-preserved : goal.loop-cell-preserved
loop-cell-preserved c =
    elim c.if-stone-eq0.branch [
      | then-stone-eq0+in_ok-ok w ↦ rw w.cells-is
          (on_some _ _ (sym w.ok.ensures.value ∙ w.in_ok-ok.was) w.try_push.ensures.ok
          ∙ ap (λ l. l ++ c.loop-cell.cell ∷ []) c.loop-cell.invariant ∙ sym (free_more _ _ c.loop-cell-test.true w.if-stone-eq0.true))
      | else-stone-eq0 w ↦ rw w.cells-is (c.loop-cell.invariant ∙ sym (free_same _ _ c.loop-cell-test.true w.if-stone-eq0.false))
    ]

pub returns : goal.returns
returns c = lists_all _ _ _ c.loop-cell.invariant c.loop-cell-test.false
