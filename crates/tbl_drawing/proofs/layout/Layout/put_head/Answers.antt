use Rattle.tbl_drawing.proofs.Tapes.{draws_both}
use Rattle.tbl_drawing.proofs.layout.Layout.put_head.Goals as goal

pub returns : goal.returns
returns g c = draws_both (draws_both (draws_both c.ask.ensures c.put_boxed.ensures) c.put_centered.ensures) c.put_whole_room.ensures
