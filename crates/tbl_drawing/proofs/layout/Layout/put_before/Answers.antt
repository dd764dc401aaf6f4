use Rattle.tbl_drawing.proofs.Tapes.{draws_then}
use Rattle.tbl_drawing.proofs.layout.Layout.put_before.Goals as goal

pub returns : goal.returns
returns g c = draws_then c.put_definitions.ensures c.put_room.ensures
