use Rattle.std.proofs.Common.{[], sym, ◌∙◌}
use Rattle.tbl_drawing.proofs.Chosen.{nothing_chosen, strokes_chosen}
use Rattle.tbl_drawing.specs.Drawing.{has_letters, line_strokes}
use Rattle.tbl_drawing.proofs.layout.Layout.draw_some_line.Goals as goal

pub returns-then-not-has_letters : goal.returns-then-not-has_letters
returns-then-not-has_letters g c =
    let l = c.args.self.now in
    nothing_chosen (has_letters l c.args.line) (line_strokes l c.args.cell.now c.args.line) (sym c.has_letters.ensures ∙ c.if-not-has_letters.true)

pub returns : goal.returns
returns g c = strokes_chosen (has_letters c.args.self.now c.args.line) [] c.draw_line_of.ensures (sym c.has_letters.ensures ∙ c.if-not-has_letters.false)
