use Rattle.std.proofs.Common.{◌%◌, eqb, ap}
use Rattle.groups.proofs.Theorems.{joined, byte_tells}
use Rattle.groups.proofs.touches_both.Goals as goal

pub returns-clause-joined : goal.returns-clause-joined
returns-clause-joined c = joined

pub returns-clause-decides : goal.returns-clause-decides
returns-clause-decides c = byte_tells c.args.borders.now c.args.cell _ (ap (λ v. eqb (v % 4) 3) c.touched.ensures)
