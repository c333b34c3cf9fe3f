-- The number that the bytes so far write.
use Rattle.text.proofs.Numbers.{Sofar}
use Rattle.text.proofs.reading.number.Given as goal

abbrev pub invariant-loop-at : goal.invariant-loop-at
invariant-loop-at l = Sofar l.bytes l.at l.value
