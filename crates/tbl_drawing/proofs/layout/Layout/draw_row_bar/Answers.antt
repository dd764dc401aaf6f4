use Rattle.std.proofs.Common.{Bool, ℕ, ◌<◌, ◌==◌, ap, sym, arith, eq-eqb, ◌∙◌}
use Rattle.tbl_drawing.specs.Drawing.{bar_byte, bars_as}
use Rattle.tbl_columns.specs.Frames.{bars_seen, is_ruled, was_ruled}
use Rattle.tbl_drawing.proofs.Choices.{some_of}
use Rattle.tbl_drawing.proofs.Chosen.{strokes_chosen}
use Rattle.tbl_drawing.proofs.Tapes.{draws_nothing, draws_same}
use Rattle.tbl_drawing.proofs.layout.Layout.draw_row_bar.Goals as goal

pub returns-then-bars-eq0 : goal.returns-then-bars-eq0
returns-then-bars-eq0 g c =
    let t = c.args.self.now in
    let bars = bars_seen t.grid c.args.row c.args.column in
    let before = was_ruled t.grid c.args.row c.args.column in
    strokes_chosen (bars == 0)
    (bars_as t c.args.column (bar_byte t c.args.row before (is_ruled t.grid c.args.row c.args.column)) before bars) (draws_nothing _)
    (ap (λ (n : ℕ). n == 0) (sym c.bars_seen-bars.ensures) ∙ eq-eqb c.bars_seen-bars.result 0 c.if-bars-eq0.true)

pub returns : goal.returns
returns g c =
    let t = c.args.self.now in
    let before = was_ruled t.grid c.args.row c.args.column in
    let following = is_ruled t.grid c.args.row c.args.column in
    let bars = bars_seen t.grid c.args.row c.args.column in
    let some : 0 < bars = omega (arith, c.bars_seen-bars.ensures) in
    draws_same c.draw_some_bars.ensures
    (some_of bars (bars_as t c.args.column (bar_byte t c.args.row before following) before bars) some
    ∙ ap (λ (n : ℕ). bars_as t c.args.column (bar_byte t c.args.row before following) before n) (sym c.bars_seen-bars.ensures)
    ∙ ap (λ (b : Bool). bars_as t c.args.column (bar_byte t c.args.row b following) b c.bars_seen-bars.result) (sym c.was_ruled-was.ensures)
    ∙ ap (λ (b : Bool). bars_as t c.args.column (bar_byte t c.args.row c.was_ruled-was.result b) c.was_ruled-was.result c.bars_seen-bars.result)
    (sym c.is_ruled-now.ensures)
    ∙ ap (λ (b : ℕ). bars_as t c.args.column b c.was_ruled-was.result c.bars_seen-bars.result) (sym c.bar_byte.ensures))
