use Rattle.wire.specs.Laws.{RoomEnough}
use Rattle.wire.proofs.Tellings.{room}
use Rattle.wire.proofs.laws.room_enough.Goals as goal

pub returns : goal.returns
unfolding RoomEnough
returns c = room
