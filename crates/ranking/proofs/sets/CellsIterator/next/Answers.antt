use Rattle.std.proofs.Common.{sym, ap, ◌∙◌, arith, rules, if◌then◌else◌}
use Rattle.ranking.specs.Sets.{members}
use Rattle.ranking.proofs.Bits.{cell_le}
use Rattle.ranking.proofs.Members.{members_none, members_lowest}
use Rattle.ranking.proofs.sets.CellsIterator.next.Goals as goal
use Rattle.ranking.proofs.sets.CellsIterator.next.Goals.{After-one}

pub returns-then-self-eq0-clause-steps : goal.returns-then-self-eq0-clause-steps
returns-then-self-eq0-clause-steps c = let none = sym c.self.view_is ∙ ap members c.if-self-eq0.true ∙ members_none 64 0 in (none, none)

pub overflow_sub-self : goal.overflow_sub-self
overflow_sub-self c = omega (arith, c.one.ensures, cell_le c.lowest-cell.result c.self.inside.rest c.lowest-cell.ensures.within)

pub returns-clause-steps : goal.returns-clause-steps
returns-clause-steps c = sym c.self.view_is ∙ rw c.one.ensures (members_lowest c.lowest-cell.result c.self.inside.rest (omega arith) c.lowest-cell.ensures.within c.lowest-cell.ensures.first)

pub returns-clause-goes : goal.returns-clause-goes
returns-clause-goes c = rw (returns-clause-steps c) (search rules)
