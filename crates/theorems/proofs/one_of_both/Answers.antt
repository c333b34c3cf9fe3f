use Rattle.theorems.proofs.Decided.{one_of_both_lem, else_other_forces}
use Rattle.theorems.proofs.NotBoth.{beaten}
use Rattle.theorems.proofs.one_of_both.Goals as goal

pub returns : goal.returns
returns c = record { theorem = one_of_both_lem; decided = search else_other_forces; beaten = search beaten }
