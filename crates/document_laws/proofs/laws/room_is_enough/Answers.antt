use Rattle.document_laws.proofs.Rooms.{room_is_enough}
use Rattle.document_laws.proofs.laws.room_is_enough.Goals as goal

pub returns : goal.returns
returns c = room_is_enough
