use Rattle.tbl_drawing.proofs.Tapes.{draws_then}
use Rattle.tbl_drawing.proofs.layout.Layout.put_beyond.Goals as goal

pub returns : goal.returns
returns g c = draws_then (draws_then c.ask.ensures (rw c.placed-beyond.ensures at (rw c.row-row.ensures at (rw c.saturating_sub.ensures at c.put_all_outside.ensures)))) c.ask-2.ensures
