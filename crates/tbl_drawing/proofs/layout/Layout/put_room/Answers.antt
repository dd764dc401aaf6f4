use Rattle.tbl_drawing.proofs.layout.Layout.put_room.Goals as goal

pub returns : goal.returns
returns g c = (rw c.last_below.ensures at c.put_room_if.ensures)
