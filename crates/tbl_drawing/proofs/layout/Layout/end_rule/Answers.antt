use Rattle.std.proofs.Common.{◌≡◌, ℕ, ◌<◌, Bool, ◌==◌, not, max, ap, sym, arith, eq-eqb, ◌∙◌}
use Rattle.tbl_columns.specs.Frames.{bars_at, framing_at, meeting, table_end}
use Rattle.tbl_columns.specs.Held.{columns}
use Rattle.tbl_drawing.specs.Drawing.{crossing_byte, ends_covered, go}
use Rattle.tbl_drawing.specs.Pens.{bars}
use Rattle.tbl_table.specs.Sums.{sum}
use Rattle.tbl_drawing.proofs.Choices.{other_of}
use Rattle.tbl_drawing.proofs.Chosen.{strokes_chosen}
use Rattle.tbl_drawing.proofs.Tapes.{draws_same}
use Rattle.tbl_drawing.proofs.layout.Layout.end_rule.Goals as goal

pub returns-then-most_meeting-eq0 : goal.returns-then-most_meeting-eq0
returns-then-most_meeting-eq0 g c =
    let l = c.args.self.now in
    let t = l.grid in
    let last = columns t in
    let following = c.len-columns.result in
    let is : meeting t c.args.above c.args.below last ≡ c.most_meeting.result =
    ap (λ (n : ℕ). meeting t c.args.above c.args.below n) (sym c.len-columns.ensures.value)
    ∙ ap (λ (n : ℕ). max (max n (bars_at t c.args.below following)) (framing_at t following)) (sym c.bars_at-up.ensures)
    ∙ ap (λ (n : ℕ). max (max c.bars_at-up.result n) (framing_at t following)) (sym c.bars_at-down.ensures)
    ∙ sym c.most_meeting.ensures in
    strokes_chosen (meeting t c.args.above c.args.below last == 0) (bars (crossing_byte l c.args.above c.args.below last) 1)
    (draws_same c.go.ensures
    (ap (λ (b : Bool). go l (not b) (sum (table_end t) 1)) (sym c.ends_covered.ensures)
    ∙ ap (λ (p : ℕ). go l (not c.ends_covered.result) p) (ap (λ (p : ℕ). sum p 1) (sym c.end.ensures) ∙ sym c.saturating_add.ensures)))
    (ap (λ (n : ℕ). n == 0) is ∙ eq-eqb c.most_meeting.result 0 c.if-most_meeting-eq0.true)

pub returns : goal.returns
returns g c =
    let l = c.args.self.now in
    let t = l.grid in
    let last = columns t in
    let following = c.len-columns.result in
    let is : meeting t c.args.above c.args.below last ≡ c.most_meeting.result =
    ap (λ (n : ℕ). meeting t c.args.above c.args.below n) (sym c.len-columns.ensures.value)
    ∙ ap (λ (n : ℕ). max (max n (bars_at t c.args.below following)) (framing_at t following)) (sym c.bars_at-up.ensures)
    ∙ ap (λ (n : ℕ). max (max c.bars_at-up.result n) (framing_at t following)) (sym c.bars_at-down.ensures)
    ∙ sym c.most_meeting.ensures in
    let some : 0 < meeting t c.args.above c.args.below last = omega (arith, is) in
    draws_same c.bars.ensures
    (other_of (meeting t c.args.above c.args.below last) (go l (not (ends_covered l c.args.above c.args.below)) (sum (table_end t) 1)) (bars (crossing_byte l c.args.above c.args.below last) 1) some
    ∙ ap (λ (b : ℕ). bars b 1) (sym (c.crossing_of.ensures ∙ ap (λ (n : ℕ). crossing_byte l c.args.above c.args.below n) c.len-columns.ensures.value)))
