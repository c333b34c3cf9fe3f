use Rattle.std.proofs.Common.{sym, ap, ◌∙◌, arith, if◌then◌else◌}
use Rattle.hexboard.specs.Words.{words}
use Rattle.groups.specs.Forest.{climb}
use Rattle.hexboard.proofs.TwoBytes.{words_length}
use Rattle.groups.proofs.Climbs.{climb_root, climb_step, climb_none}
use Rattle.groups.proofs.Theorems.{together}
use Rattle.groups.proofs.root.Goals as goal

pub loop-init : goal.loop-init
loop-init c = ap (λ k. climb (words c.args.parents.now) k c.args.cell) (omega (arith, words_length c.args.parents.now))

pub returns-then-above-at-clause-value : goal.returns-then-above-at-clause-value
returns-then-above-at-clause-value c =
    sym (climb_root (words c.args.parents.now) _ c.loop.at (sym c.parent-above.ensures ∙ c.if-above-at.true)) ∙ c.loop.invariant

pub loop-preserved : goal.loop-preserved
loop-preserved c =
    climb_step (words c.args.parents.now) _ _ c.loop.at c.parent-above.result (omega arith) c.parent-above.ensures ∙ c.loop.invariant

pub returns-then-above-at-clause-together : goal.returns-then-above-at-clause-together
returns-then-above-at-clause-together c = together

pub returns-clause-together : goal.returns-clause-together
returns-clause-together c = together

pub returns-clause-value : goal.returns-clause-value
returns-clause-value c = climb_none (words c.args.parents.now) _ c.loop.at (omega arith) ∙ c.loop.invariant
