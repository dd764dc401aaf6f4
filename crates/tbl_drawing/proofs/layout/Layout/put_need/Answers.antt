use Rattle.tbl_drawing.proofs.Tapes.{draws_both}
use Rattle.tbl_drawing.proofs.layout.Layout.put_need.Goals as goal

pub returns : goal.returns
returns g c = draws_both c.line.ensures c.line-2.ensures
