use Rattle.theorems.proofs.FirstWins.{first_wins_lem, mover_wins, second_loses}
use Rattle.theorems.proofs.first_wins.Goals as goal

pub returns : goal.returns
returns c = record { theorem = first_wins_lem; mover = mover_wins; second = search second_loses }
