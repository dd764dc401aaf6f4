use Rattle.std.proofs.Common.{◌||◌, sym, ◌∙◌}
use Rattle.tbl_columns.specs.Columns.{is_given}
use Rattle.tbl_drawing.specs.Drawing.{falling, field_strokes}
use Rattle.tbl_drawing.proofs.Choices.{chosen, other}
use Rattle.tbl_drawing.proofs.Tapes.{draws_same}
use Rattle.tbl_drawing.proofs.layout.Layout.draw_own.Goals as goal

pub returns-then-has_lines : goal.returns-then-has_lines
returns-then-has_lines g c =
    let t = c.args.self.now in
    let f = c.args.cell.now in
    draws_same c.draw_falling.ensures
    (chosen (f.falls || is_given f.block) (falling t c.args.row c.args.column c.args.line) (field_strokes t f) (sym c.has_lines.ensures ∙ c.if-has_lines.true))

pub returns : goal.returns
returns g c =
    let t = c.args.self.now in
    let f = c.args.cell.now in
    draws_same c.draw_field.ensures
    (other (f.falls || is_given f.block) (falling t c.args.row c.args.column c.args.line) (field_strokes t f) (sym c.has_lines.ensures ∙ c.if-has_lines.false))
