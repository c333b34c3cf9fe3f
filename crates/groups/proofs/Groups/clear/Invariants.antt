-- A cell after the other is made its own parent.
use Rattle.hexboard.specs.Words.{words}
use Rattle.groups.proofs.Clearing.{Cleared}
use Rattle.groups.proofs.Groups.clear.Given as goal

-- the cells before this one are their own parents
abbrev pub invariant-loop-each : goal.invariant-loop-each
invariant-loop-each l = Cleared l.each (words l.parents)
