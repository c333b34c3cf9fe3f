use Rattle.theorems.proofs.Mirror.{squares_exchange}
use Rattle.theorems.proofs.Squares.{to_game, of_game, good_laid, position, squares_lawful}
use Rattle.theorems.proofs.laying.squares_are_lawful.Goals as goal

pub returns : goal.returns
returns c = record {
  lawful = squares_lawful;
  turned = squares_exchange;
  positions = λ n cells pos. (λ g. position g, λ p. good_laid pos p);
  forcing = λ b s t. (to_game, of_game);
}
