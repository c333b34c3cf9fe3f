-- A cell after the other is looked at.
use Rattle.std.proofs.Common.{◌≡◌}
use Rattle.hexboard.specs.Words.{words}
use Rattle.groups.specs.Forest.{free}
use Rattle.groups.specs.Lent.{rest}
use Rattle.groups.proofs.Groups.lift.Given as goal

-- the cells before this one have been looked at, and nothing behind the parents has changed
abbrev pub invariant-loop-below : goal.invariant-loop-below
invariant-loop-below l = (words l.parents ≡ free l.cell l.below (words l.initial.parents)) × (rest l.parents ≡ rest l.initial.parents)
