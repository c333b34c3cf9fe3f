use Rattle.theorems.proofs.Better.{never_a_loss_lem, move_no_loss}
use Rattle.theorems.proofs.never_a_loss.Goals as goal

pub returns : goal.returns
returns c = record { theorem = never_a_loss_lem; turn = search move_no_loss }
