use Rattle.tbl_drawing.proofs.Tapes.{draws_then}
use Rattle.tbl_setting.proofs.press.Press.stands.Goals as goal

pub returns-clause-draws : goal.returns-clause-draws
returns-clause-draws g c = draws_then c.ends_begun.ensures.draws c.put.ensures.draws
