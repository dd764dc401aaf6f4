use Rattle.std.proofs.Common.{ℕ, List, [], ◌∷◌, ◌++◌, ap, refl, sym}
use Rattle.tbl_drawing.specs.Drawing.{field_text, font_back, font_if}
use Rattle.tbl_drawing.specs.Pens.{Bytes, Text}
use Rattle.tbl_drawing.specs.Tapes.{Draws}
use Rattle.tbl_table.specs.Held.{text_of}
use Rattle.tbl_drawing.proofs.Tapes.{draws_as, draws_both, draws_same}
use Rattle.tbl_drawing.proofs.layout.Layout.put_text.Goals as goal

pub returns : goal.returns
returns g c =
    let f = c.args.cell.now in
    let text = field_text c.args.self.now f in
    let p : Draws c.args.out.now c.put_font_back.new.out (Bytes text ∷ []) =
    draws_same (draws_both (draws_both c.put_font_if.ensures c.put_unset.ensures) c.put_font_back.ensures)
    (ap (λ (l : List ℕ). Bytes (font_if f.key.font ++ text_of c.args.self.now.grid.table f.field.span ++ font_back f.key.font l) ∷ []) (sym c.bytes.ensures)) in
    draws_as (Text text ∷ []) p refl refl
