use Rattle.std.proofs.Common.{◌++◌, ◌∷◌, [], ℕ, List, ap, refl}
use Rattle.tbl_blocks.specs.declared.parts.Font.{Font}
use Rattle.tbl_blocks.specs.declared.parts.Font.TheVariants as fonts
use Rattle.tbl_drawing.specs.Drawing.{font_change, line_text}
use Rattle.tbl_drawing.specs.Pens.{Bytes, Text}
use Rattle.tbl_drawing.specs.Tapes.{Draws}
use Rattle.tbl_drawing.proofs.Tapes.{draws_as, draws_both}
use Rattle.tbl_drawing.proofs.layout.Layout.put_line_of.Goals as goal

pub returns : goal.returns
returns g c =
    let text = line_text c.args.self.now c.args.line in
    let p : Draws c.args.out.now c.change_font.new.out (Bytes text ∷ []) =
    rw c.put_parts_of-font.ensures.font at (draws_both (draws_both c.put_parts_of-font.ensures.draws c.ask_if.ensures) c.change_font.ensures) in
    draws_as (Text text ∷ []) p refl refl
