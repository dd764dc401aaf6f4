use Rattle.tbl_drawing.proofs.Tapes.{draws_then}
use Rattle.tbl_drawing.proofs.layout.Layout.put_lines.Goals as goal

pub returns : goal.returns
returns g c = draws_then (draws_then (draws_then c.put_opening.ensures c.put_indent.ensures) c.put_steps.ensures) c.put_closing.ensures
