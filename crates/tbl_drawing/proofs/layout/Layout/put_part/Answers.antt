use Rattle.tbl_drawing.proofs.Tapes.{draws_both}
use Rattle.tbl_drawing.proofs.layout.Layout.put_part.Goals as goal

pub returns : goal.returns
returns g c =
    rw c.part-part.ensures at (rw c.span_of.ensures at (rw c.bytes.ensures at (draws_both (draws_both c.put_blanks_if.ensures c.change_font.ensures) c.put_bracketed.ensures)))
