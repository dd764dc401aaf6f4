use Rattle.tbl_drawing.proofs.Tapes.{draws_both}
use Rattle.tbl_drawing.proofs.writing.Out.add.Goals as goal

pub returns : goal.returns
returns g c = draws_both c.send.ensures.draws c.pass.ensures
