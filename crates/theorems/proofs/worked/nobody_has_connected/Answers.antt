use Rattle.std.proofs.Common.{refl, lit<}
use Rattle.hexboard.specs.Board.{all_cells}
use Rattle.hexboard.specs.Games.{after}
use Rattle.theorems.specs.Search.{some_below, finds}
use Rattle.theorems.proofs.Running.{checks, next, checks_all}
use Rattle.theorems.proofs.WorkedGames.{all_numbers, only_numbers}
use Rattle.theorems.proofs.worked.nobody_has_connected.Goals as goal

pub returns : goal.returns
unfolding all_cells after some_below finds checks next checks_all all_numbers
returns c = only_numbers 3 _ _ (lit< tt) refl refl
