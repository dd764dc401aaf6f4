use Rattle.tbl_drawing.proofs.Tapes.{draws_both}
use Rattle.tbl_drawing.proofs.blocks.put_bracketed.Goals as goal

pub returns : goal.returns
returns g c = draws_both (draws_both c.ask_if.ensures c.add.ensures) c.ask_if-2.ensures
