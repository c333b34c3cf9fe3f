use Rattle.wire.specs.Laws.{OneAnswer}
use Rattle.wire.proofs.Tellings.{same_told, same_bytes}
use Rattle.wire.proofs.laws.one_answer.Goals as goal

pub returns : goal.returns
unfolding OneAnswer
returns c = λ a b. (same_told a b, same_bytes a b)
