use Rattle.text.proofs.Again.{read_back}
use Rattle.text.proofs.laws.lines_are_read_back.Goals as goal

pub returns : goal.returns
returns c = read_back
