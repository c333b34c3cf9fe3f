use Rattle.theorems.proofs.Mirror.{turned_over_lem, turned_way}
use Rattle.theorems.proofs.turned_over.Goals as goal

pub returns : goal.returns
returns c = record { theorem = turned_over_lem; ways = λ b c s w good over side. turned_way b c good over s w side }
