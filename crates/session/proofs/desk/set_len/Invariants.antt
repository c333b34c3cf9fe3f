-- Zeros stand behind what was there, and the vector has the room that it had.
use Rattle.session.proofs.Rooms.{IsLonger}
use Rattle.session.proofs.desk.set_len.Given as goal

abbrev pub invariant-loop-end : goal.invariant-loop-end
invariant-loop-end l = IsLonger l.initial.bytes.items l.initial.bytes.len l.bytes.items l.bytes.len l.end (l.bytes.cap) (l.initial.bytes.cap)
