use Rattle.tbl_drawing.specs.Lines.{nth_strokes}
use Rattle.tbl_drawing.proofs.Joined.{strokes_more}
use Rattle.tbl_drawing.proofs.Tapes.{draws_nothing}
use Rattle.tbl_drawing.proofs.layout.Layout.put_steps.Goals as goal

pub loop-number-init : goal.loop-number-init
loop-number-init g c = draws_nothing _

pub loop-number-preserved : goal.loop-number-preserved
loop-number-preserved g c = strokes_more c.loop-number.number (nth_strokes c.args.self.now) c.loop-number.invariant (rw c.step.ensures at c.put_step.ensures)
