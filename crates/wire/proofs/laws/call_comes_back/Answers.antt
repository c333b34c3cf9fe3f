use Rattle.wire.specs.Laws.{CallComesBack}
use Rattle.wire.proofs.Calls.{read_back}
use Rattle.wire.proofs.laws.call_comes_back.Goals as goal

pub returns : goal.returns
unfolding CallComesBack
returns c = read_back
