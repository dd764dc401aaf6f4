use Rattle.std.proofs.Common.{[], ◌∷◌, sym, ◌∙◌}
use Rattle.tbl_drawing.specs.Drawing.{font_text, is_same_font}
use Rattle.tbl_drawing.specs.Pens.{Bytes}
use Rattle.tbl_drawing.proofs.Chosen.{draws_chosen, draws_other}
use Rattle.tbl_drawing.proofs.Tapes.{draws_no_bytes}
use Rattle.tbl_drawing.proofs.blocks.change_font.Goals as goal

pub returns-then-is_same : goal.returns-then-is_same
returns-then-is_same g c =
    draws_chosen (is_same_font c.args.before c.args.font) (font_text c.args.font) (draws_no_bytes _) (sym c.is_same.ensures ∙ c.if-is_same.true)

pub returns : goal.returns
returns g c =
    draws_other (is_same_font c.args.before c.args.font) []
    c.put_font.ensures (sym c.is_same.ensures ∙ c.if-is_same.false)
