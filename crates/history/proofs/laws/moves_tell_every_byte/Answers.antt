use Rattle.history.proofs.Telling.{moves_tell, back_to_the_byte}
use Rattle.history.proofs.laws.moves_tell_every_byte.Goals as goal

pub returns : goal.returns
returns c = record { told = moves_tell; back = back_to_the_byte }
