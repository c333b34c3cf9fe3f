-- The starts so far.
use Rattle.std.proofs.Common.{◌≡◌, ◌+◌, length}
use Rattle.ranking.specs.Triangle.{Starts}
use Rattle.ranking.proofs.positions.Ranking.new.Given as goal

abbrev pub invariant-loop-m : goal.invariant-loop-m
invariant-loop-m l = (length l.starts ≡ 18) × Starts l.cells (l.m + 1) l.starts
