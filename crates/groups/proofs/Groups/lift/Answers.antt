use Rattle.std.proofs.Common.{sym, refl, ap, ◌∙◌, arith, if◌then◌else◌}
use Rattle.hexboard.specs.Words.{words}
use Rattle.groups.specs.Forest.{held}
use Rattle.groups.specs.Lent.{before, rest}
use Rattle.groups.proofs.Behind.{rest_kept}
use Rattle.groups.proofs.Lifting.{free_none, free_hit, free_miss}
use Rattle.groups.proofs.Theorems.{memory_back}
use Rattle.groups.proofs.Groups.lift.Goals as goal
use Rattle.groups.proofs.Groups.lift.Goals.{then-parent-cell, else-parent-cell}

pub loop-below-init : goal.loop-below-init
loop-below-init c = (free_none c.args.cell (words c.args.self.parents.now), refl)

pub loop-below-preserved : goal.loop-below-preserved
loop-below-preserved c =
    elim c.if-parent-cell.branch [
      | then-parent-cell w ↦ (
        ap words w.parents-is ∙ free_hit c.args.cell c.loop-below.below (words c.args.self.parents.now) (words c.loop-below.parents) _ c.loop-below.invariant.0 (sym c.parent.ensures ∙ w.if-parent-cell.true) w.set_word.ensures.after,
        ap rest w.parents-is ∙ (rest_kept c.loop-below.parents _ c.loop-below.below _ w.set_word.auto.bytes w.set_word.ensures.told w.set_word.ensures.refused w.set_word.ensures.behind ∙ c.loop-below.invariant.1),
      )
      | else-parent-cell w ↦ (
        ap words w.parents-is ∙ free_miss c.args.cell c.loop-below.below (words c.args.self.parents.now) (words c.loop-below.parents) c.loop-below.invariant.0 (λ e. w.if-parent-cell.false (c.parent.ensures ∙ e)),
        ap rest w.parents-is ∙ c.loop-below.invariant.1,
      )
    ]

pub returns-clause-back : goal.returns-clause-back
returns-clause-back c =
    memory_back c.args.size.n c.args.cell (before c.args.self) (held c.loop-below.parents c.write.new.borders) (grind arith)
