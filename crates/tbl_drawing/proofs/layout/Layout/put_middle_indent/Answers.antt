use Rattle.tbl_drawing.proofs.Tapes.{draws_both}
use Rattle.tbl_drawing.proofs.layout.Layout.put_middle_indent.Goals as goal

pub returns : goal.returns
returns g c = draws_both (rw c.end-width.ensures at c.line.ensures) c.ask.ensures
