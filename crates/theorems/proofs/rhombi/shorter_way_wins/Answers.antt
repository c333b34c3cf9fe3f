use Rattle.theorems.proofs.ShorterWay.{partners_are_enough, partners_can_force, partners_answer, shorter_can_force, wide_can_force, tall_can_force}
use Rattle.theorems.proofs.rhombi.shorter_way_wins.Goals as goal

pub returns : goal.returns
returns c = record {
  theorem = shorter_can_force;
  wide = wide_can_force;
  tall = tall_can_force;
  enough = partners_are_enough;
  held = partners_can_force;
  answering = partners_answer;
}
