use Rattle.std.proofs.Common.{refl, lit<}
use Rattle.hexboard.specs.Board.{all_cells, goes_on, is_way}
use Rattle.hexboard.specs.Games.{after, last_of, but_last}
use Rattle.theorems.specs.Search.{some_below, finds}
use Rattle.theorems.proofs.Running.{checks, next, checks_all, last_game}
use Rattle.theorems.proofs.Shortest.{all_below, all_lists}
use Rattle.theorems.proofs.WorkedGames.{ends_in_shortest}
use Rattle.theorems.proofs.worked.side_one_connects_after_two_taken_back.Goals as goal

pub returns : goal.returns
unfolding all_cells goes_on is_way after last_of but_last some_below finds checks next checks_all last_game all_below all_lists
returns c = ends_in_shortest 3 _ _ 1 _ (lit< tt) refl refl refl
