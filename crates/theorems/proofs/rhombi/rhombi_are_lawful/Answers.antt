use Rattle.theorems.proofs.Advantage.{force_stone, force_move}
use Rattle.theorems.proofs.Outcome.{one_can_force_lem}
use Rattle.theorems.proofs.RhombusWays.{rhombus_fair}
use Rattle.theorems.proofs.Turning.{rhombi_exchange, shape_keeps, rhombi_lawful}
use Rattle.hexboard.specs.Shapes.{rhombus}
use Rattle.theorems.proofs.rhombi.rhombi_are_lawful.Goals as goal

pub returns : goal.returns
returns c = record {
  theorem = rhombi_lawful;
  fair = rhombus_fair;
  one = λ w t hw ht. one_can_force_lem (rhombi_lawful w t hw ht);
  stone = λ w t s r i b side h f. force_stone (shape_keeps (rhombus w t)) side i h f;
  turn = λ w t s b side f. force_move (shape_keeps (rhombus w t)) side f;
  over = rhombi_exchange;
}
