use Rattle.tbl_drawing.proofs.Tapes.{draws_both}
use Rattle.tbl_drawing.proofs.layout.Layout.put_request.Goals as goal

pub returns : goal.returns
returns g c = draws_both (rw c.bytes-text.ensures at c.line.ensures) (rw c.bytes-text.ensures at (rw c.is_harmless.ensures at c.ask_if.ensures))
