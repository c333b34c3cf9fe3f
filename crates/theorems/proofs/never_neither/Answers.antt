use Rattle.theorems.proofs.NeverNeither.{never_neither_lem, else_other}
use Rattle.theorems.proofs.never_neither.Goals as goal

pub returns : goal.returns
returns c = record { theorem = never_neither_lem; lost = search else_other }
