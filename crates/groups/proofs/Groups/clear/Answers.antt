use Rattle.std.proofs.Common.{sym, ap, ◌∙◌, ◌+◌, subst, arith}
use Rattle.hexboard.specs.Board.{all_cells}
use Rattle.hexboard.specs.Words.{words}
use Rattle.hexboard.proofs.Boards.{all_cells_replicate}
use Rattle.groups.proofs.Clearing.{Cleared, cleared_more, cleared_kept}
use Rattle.groups.proofs.Theorems.{kept_once}
use Rattle.groups.proofs.Groups.clear.Goals as goal

pub loop-each-preserved : goal.loop-each-preserved
loop-each-preserved c =
    subst (Cleared (c.loop-each.each + 1)) (sym c.set_word.ensures.after) (cleared_more c.loop-each.each (words c.loop-each.parents) c.loop-each.invariant)

pub returns-clause-told : goal.returns-clause-told
returns-clause-told c = kept_once

pub returns-clause-bare : goal.returns-clause-bare
returns-clause-bare c =
    cleared_kept c.args.size.n c.loop-each.each c.loop-each.parents _ (c.loop-each.auto.parents ∙ c.requires.parents_long)
    (c.fill.ensures.after (λ y e. e) ∙ all_cells_replicate _ ∙ ap all_cells c.requires.borders_long) (omega arith) c.loop-each.invariant
