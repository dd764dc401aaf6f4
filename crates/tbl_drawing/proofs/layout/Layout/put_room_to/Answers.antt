use Rattle.tbl_drawing.proofs.Tapes.{draws_both}
use Rattle.tbl_drawing.proofs.layout.Layout.put_room_to.Goals as goal

pub returns : goal.returns
returns g c =
    (rw c.row_end.ensures at (rw c.row_line.ensures at (rw c.saturating_sub.ensures at (rw c.saturating_add-lines.ensures at (draws_both c.pieces.ensures c.ask.ensures)))))
