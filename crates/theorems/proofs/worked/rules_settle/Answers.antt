use Rattle.theorems.proofs.Settled.{rules_settle}
use Rattle.theorems.proofs.worked.rules_settle.Goals as goal

pub returns : goal.returns
returns c = rules_settle
