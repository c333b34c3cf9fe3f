use Rattle.std.proofs.Common.{refl, inl, lit<, arith}
use Rattle.theorems.proofs.ShorterWay.{shorter_can_force, tall_can_force, first_exactly_on_squares}
use Rattle.theorems.proofs.rhombi.first_wins_exactly_on_squares.Goals as goal

pub returns : goal.returns
returns c = record {
  theorem = first_exactly_on_squares;
  one_by_two = (shorter_can_force 1 2 1 (lit< tt) (lit< tt) (omega arith) (inl refl)).1;
  second = tall_can_force 1 2 1 (lit< tt) (lit< tt) (inl refl);
}
