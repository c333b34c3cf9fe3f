use Rattle.theorems.proofs.NeverBoth.{never_both, never_both_of}
use Rattle.theorems.proofs.Stones.{against_other}
use Rattle.theorems.proofs.never_both.Goals as goal

pub returns : goal.returns
returns c = record { theorem = never_both; alone = search (never_both_of, against_other) }
