use Rattle.wire.specs.Laws.{AnswerComesBack}
use Rattle.wire.proofs.Tellings.{understood}
use Rattle.wire.proofs.laws.answer_comes_back.Goals as goal

pub returns : goal.returns
unfolding AnswerComesBack
returns c = understood
