use Rattle.std.proofs.Common.{refl}
use Rattle.theorems.specs.Shorter.{partner}
use Rattle.theorems.proofs.Partners.{partners_pair_off}
use Rattle.theorems.proofs.rhombi.partners_pair_off.Goals as goal

pub returns : goal.returns
unfolding partner
returns c = record { theorem = partners_pair_off; drawn = refl }
