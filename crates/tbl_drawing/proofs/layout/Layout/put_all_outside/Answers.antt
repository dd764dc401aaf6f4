use Rattle.tbl_drawing.specs.Lines.{next_outside}
use Rattle.tbl_drawing.proofs.Joined.{strokes_more}
use Rattle.tbl_drawing.proofs.Tapes.{draws_nothing}
use Rattle.tbl_drawing.proofs.layout.Layout.put_all_outside.Goals as goal

pub loop-number-init : goal.loop-number-init
loop-number-init g c = draws_nothing _

pub loop-number-preserved : goal.loop-number-preserved
loop-number-preserved g c = strokes_more c.loop-number.number (next_outside c.args.self.now c.args.first) c.loop-number.invariant c.put_next_outside.ensures
