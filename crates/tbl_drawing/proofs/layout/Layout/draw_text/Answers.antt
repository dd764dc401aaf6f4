use Rattle.tbl_drawing.proofs.Tapes.{draws_then, draws_same}
use Rattle.tbl_drawing.proofs.layout.Layout.draw_text.Goals as goal

pub returns : goal.returns
returns g c = draws_same (draws_then (draws_then c.to.ensures c.begin.ensures) (draws_then c.put_text.ensures c.passed.ensures)) cc
