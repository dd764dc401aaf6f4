use Rattle.std.proofs.Common.{sym, ap, ◌∙◌}
use Rattle.tbl_drawing.specs.Drawing.{field_in, text_strokes}
use Rattle.tbl_table.specs.Held.{has_text}
use Rattle.tbl_table.specs.declared.table.Form.{Form}
use Rattle.tbl_drawing.proofs.Chosen.{nothing_chosen}
use Rattle.tbl_drawing.proofs.Tapes.{draws_same}
use Rattle.tbl_drawing.proofs.layout.Layout.draw_field.Goals as goal

pub returns-else-has_text : goal.returns-else-has_text
returns-else-has_text g c =
    draws_same (nothing_chosen (has_text c.args.cell.now.field) (text_strokes c.args.self.now c.args.cell.now) (sym c.has_text.ensures ∙ c.if-has_text.false))
    (ap (λ (f : Form). field_in f c.args.self.now c.args.cell.now) c.in-Text.is)
