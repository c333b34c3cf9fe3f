use Rattle.wire.specs.Laws.{OneCall}
use Rattle.wire.proofs.Calls.{same_call}
use Rattle.wire.proofs.laws.one_call.Goals as goal

pub returns : goal.returns
unfolding OneCall
returns c = same_call
