use Rattle.std.proofs.Common.{◌≡◌, ℕ, ◌<◌, Bool, ◌==◌, ◌++◌, max, ap, sym, arith, eq-eqb, ◌∙◌}
use Rattle.tbl_drawing.specs.Drawing.{begun_crossing, crossing_begin, some_crossing, turned, turning}
use Rattle.tbl_columns.specs.Frames.{bars_at, framing_at, is_covered, meeting}
use Rattle.tbl_drawing.specs.Pens.{bars}
use Rattle.tbl_drawing.proofs.Choices.{other_of}
use Rattle.tbl_drawing.proofs.Chosen.{strokes_chosen}
use Rattle.tbl_drawing.proofs.Tapes.{draws_same, draws_then}
use Rattle.tbl_drawing.proofs.layout.Layout.draw_crossing.Goals as goal

pub returns-then-bars-eq0 : goal.returns-then-bars-eq0
returns-then-bars-eq0 g c =
    let t = c.args.self.now in
    let most = meeting t.grid c.args.above c.args.below c.args.column in
    let is : most ≡ c.most_meeting-bars.result =
    ap (λ (n : ℕ). max (max n (bars_at t.grid c.args.below c.args.column)) (framing_at t.grid c.args.column)) (sym c.bars_at-up.ensures)
    ∙ ap (λ (n : ℕ). max (max c.bars_at-up.result n) (framing_at t.grid c.args.column)) (sym c.bars_at-down.ensures)
    ∙ sym c.most_meeting-bars.ensures in
    strokes_chosen (most == 0) (some_crossing t c.args.above c.args.below c.args.column most)
    (draws_same c.turn_rule.ensures
    (ap (λ (b : Bool). turned t c.args.column b (is_covered t.grid c.args.above c.args.below c.args.column)) (sym c.was_covered-was.ensures)
    ∙ ap (λ (b : Bool). turned t c.args.column c.was_covered-was.result b) (sym c.is_covered.ensures)))
    (ap (λ (n : ℕ). n == 0) is ∙ eq-eqb c.most_meeting-bars.result 0 c.if-bars-eq0.true)

pub returns : goal.returns
returns g c =
    let t = c.args.self.now in
    let most = meeting t.grid c.args.above c.args.below c.args.column in
    let is : most ≡ c.most_meeting-bars.result =
    ap (λ (n : ℕ). max (max n (bars_at t.grid c.args.below c.args.column)) (framing_at t.grid c.args.column)) (sym c.bars_at-up.ensures)
    ∙ ap (λ (n : ℕ). max (max c.bars_at-up.result n) (framing_at t.grid c.args.column)) (sym c.bars_at-down.ensures)
    ∙ sym c.most_meeting-bars.ensures in
    let some : 0 < most = omega (arith, is) in
    draws_same (draws_then c.begin_crossing.ensures c.bars.ensures)
    (other_of most (turning t c.args.above c.args.below c.args.column) (some_crossing t c.args.above c.args.below c.args.column most) some
    ∙ ap (λ (n : ℕ). some_crossing t c.args.above c.args.below c.args.column n) is
    ∙ ap (λ (b : ℕ). crossing_begin t c.args.above c.args.below c.args.column ++ bars b c.most_meeting-bars.result) (sym c.crossing_of.ensures)
    ∙ ap (λ (b : Bool). begun_crossing t b c.args.column ++ bars c.crossing_of.result c.most_meeting-bars.result) (sym c.was_covered-was.ensures))
