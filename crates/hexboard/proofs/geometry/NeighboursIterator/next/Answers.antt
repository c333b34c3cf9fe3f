use Rattle.std.proofs.Common.{rules, tests, sym}
use Rattle.hexboard.specs.Geometry.{neighbour_at}
use Rattle.hexboard.proofs.Given.{found_given, goes_first}
use Rattle.hexboard.proofs.geometry.NeighboursIterator.next.Goals as goal

pub returns-clause-steps : goal.returns-clause-steps
returns-clause-steps c =
    let it = c.self.inside in
    rw (sym c.self.view_is)
    (found_given (neighbour_at it.size.n it.row it.column) _ _ _ _ _ c.find_map.ensures.ran c.find_map.ensures.runs (λ x b q k. search (rules, tests)))

pub returns-clause-goes : goal.returns-clause-goes
returns-clause-goes c = goes_first _ _ _ _ (λ l. tt) (returns-clause-steps c)
