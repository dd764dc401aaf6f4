use Rattle.tbl_drawing.proofs.Tapes.{draws_then}
use Rattle.tbl_drawing.proofs.layout.Layout.put_next_outside.Goals as goal

pub returns : goal.returns
returns g c = draws_then c.put_blank.ensures (rw c.saturating_add.ensures at c.put_outside.ensures)
