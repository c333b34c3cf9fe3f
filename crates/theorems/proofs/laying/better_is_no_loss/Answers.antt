use Rattle.theorems.proofs.Advantage.{force_better, force_stone, force_move}
use Rattle.theorems.proofs.laying.better_is_no_loss.Goals as goal

pub returns : goal.returns
returns c = record { theorem = search force_better; stone = search force_stone; turn = search force_move }
