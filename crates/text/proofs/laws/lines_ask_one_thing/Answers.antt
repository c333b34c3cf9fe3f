use Rattle.text.proofs.Again.{one_thing, one_answer}
use Rattle.text.proofs.laws.lines_ask_one_thing.Goals as goal

pub returns : goal.returns
returns c = record { thing = one_thing; answer = one_answer }
