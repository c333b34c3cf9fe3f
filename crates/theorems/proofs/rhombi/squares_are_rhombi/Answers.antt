use Rattle.theorems.proofs.SameSquares.{squares_are_rhombi}
use Rattle.theorems.proofs.rhombi.squares_are_rhombi.Goals as goal

pub returns : goal.returns
returns c = squares_are_rhombi
