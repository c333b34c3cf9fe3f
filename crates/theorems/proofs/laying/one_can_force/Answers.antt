use Rattle.hexboard.specs.Laying.{has}
use Rattle.theorems.proofs.Advantage.{full_won}
use Rattle.theorems.proofs.Outcome.{one_can_force_lem, beaten_forces_nothing}
use Rattle.theorems.proofs.laying.one_can_force.Goals as goal

pub returns : goal.returns
returns c = record {
  theorem = search one_can_force_lem;
  beaten = search beaten_forces_nothing;
  full = λ g s t b e. (λ f. full_won f e, has t);
}
