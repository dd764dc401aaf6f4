use Rattle.std.proofs.Common.{◌==◌, ◌&&◌, [], sym, ◌∙◌}
use Rattle.tbl_drawing.proofs.Chosen.{nothing_chosen, strokes_chosen}
use Rattle.tbl_drawing.specs.Drawing.{field_strokes}
use Rattle.tbl_drawing.specs.Held.{begin_line}
use Rattle.tbl_drawing.proofs.layout.Layout.draw_text_on.Goals as goal

pub returns-then-not-falls_on : goal.returns-then-not-falls_on
returns-then-not-falls_on g c =
    let l = c.args.self.now in
    let f = c.args.cell.now in
    nothing_chosen (f.falls && (begin_line l c.args.number == c.args.line)) (field_strokes l f) (sym c.falls_on.ensures ∙ c.if-not-falls_on.true)

pub returns : goal.returns
returns g c =
    let l = c.args.self.now in
    let f = c.args.cell.now in
    strokes_chosen (f.falls && (begin_line l c.args.number == c.args.line)) [] c.draw_field.ensures (sym c.falls_on.ensures ∙ c.if-not-falls_on.false)
