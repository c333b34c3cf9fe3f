use Rattle.theorems.proofs.Pairing.{pairs_can_force, answering_wins, answering_can_force}
use Rattle.theorems.proofs.pairs.answering_in_pairs.Goals as goal

pub returns : goal.returns
returns c = record { theorem = pairs_can_force; answering = answering_wins; forcing = λ g s answer b w. answering_can_force w }
