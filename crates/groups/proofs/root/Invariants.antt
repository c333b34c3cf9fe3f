-- The climb to the root.
use Rattle.std.proofs.Common.{◌≡◌, ◌-◌}
use Rattle.hexboard.specs.Words.{words}
use Rattle.groups.specs.Forest.{climb, root}
use Rattle.groups.proofs.root.Given as goal

-- what is left of the climb leads to the root
abbrev pub invariant-loop : goal.invariant-loop
invariant-loop l = climb (words l.parents) (l.end - l.counter) l.at ≡ root (words l.parents) l.cell
