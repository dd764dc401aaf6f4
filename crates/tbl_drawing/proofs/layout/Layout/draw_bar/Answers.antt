use Rattle.std.proofs.Common.{ℕ, true, ◌<◌, ◌==◌, ap, sym, arith, eq-eqb, ◌∙◌}
use Rattle.tbl_drawing.specs.Drawing.{bars_as}
use Rattle.tbl_columns.specs.Frames.{bars_of}
use Rattle.tbl_table.specs.Signs.{joint}
use Rattle.tbl_drawing.proofs.Choices.{some_of}
use Rattle.tbl_drawing.proofs.Chosen.{strokes_chosen}
use Rattle.tbl_drawing.proofs.Tapes.{draws_nothing, draws_same}
use Rattle.tbl_drawing.proofs.layout.Layout.draw_bar.Goals as goal

pub returns-then-bars-eq0 : goal.returns-then-bars-eq0
returns-then-bars-eq0 g c =
    let t = c.args.self.now in
    let bars = bars_of t.grid c.args.row c.args.column in
    strokes_chosen (bars == 0) (bars_as t c.args.column (joint t.grid.table.signs true true c.args.was c.args.now) c.args.was bars) (draws_nothing _)
    (ap (λ (n : ℕ). n == 0) (sym c.bars_of-bars.ensures) ∙ eq-eqb c.bars_of-bars.result 0 c.if-bars-eq0.true)

pub returns : goal.returns
returns g c =
    let t = c.args.self.now in
    let bars = bars_of t.grid c.args.row c.args.column in
    let byte = joint t.grid.table.signs true true c.args.was c.args.now in
    let some : 0 < bars = omega (arith, c.bars_of-bars.ensures) in
    draws_same c.draw_some_bars.ensures
    (some_of bars (bars_as t c.args.column byte c.args.was bars) some
    ∙ ap (λ (n : ℕ). bars_as t c.args.column byte c.args.was n) (sym c.bars_of-bars.ensures)
    ∙ ap (λ (b : ℕ). bars_as t c.args.column b c.args.was c.bars_of-bars.result) (sym c.joint.ensures))
