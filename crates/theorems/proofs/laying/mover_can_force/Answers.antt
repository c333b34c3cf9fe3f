use Rattle.theorems.proofs.Renaming.{mover_can_force_lem, first_can_force}
use Rattle.theorems.proofs.laying.mover_can_force.Goals as goal

pub returns : goal.returns
returns c = record { theorem = search mover_can_force_lem; first = search first_can_force }
