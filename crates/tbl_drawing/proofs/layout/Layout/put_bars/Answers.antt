use Rattle.std.proofs.Common.{ℕ, ap, add-one}
use Rattle.tbl_drawing.specs.Drawing.{bars_lines}
use Rattle.tbl_drawing.proofs.Tapes.{draws_nothing, draws_same, draws_then}
use Rattle.tbl_drawing.proofs.layout.Layout.put_bars.Goals as goal

pub loop-place-init : goal.loop-place-init
loop-place-init g c = draws_nothing _

pub loop-place-preserved : goal.loop-place-preserved
loop-place-preserved g c =
    draws_same (draws_then c.loop-place.invariant c.put_bars_on.ensures)
    (ap (λ (m : ℕ). bars_lines m c.args.self.now c.args.row c.args.line) (add-one c.loop-place.place))
