use Rattle.tbl_drawing.proofs.Tapes.{draws_then}
use Rattle.tbl_drawing.proofs.writing.Out.bars.Goals as goal

pub returns : goal.returns
returns g c = draws_then c.begin.ensures (draws_then c.repeat.ensures c.passed.ensures)
