use Rattle.std.proofs.Common.{[], ◌∷◌, None, refl, ap, ◌∙◌}
use Rattle.tbl_drawing.proofs.Tapes.{draws_both, draws_to}
use Rattle.tbl_drawing.specs.Pens.{FillByEscape, gone}
use Rattle.tbl_drawing.proofs.writing.Out.fill_by_escape.Goals as goal

pub returns : goal.returns
returns g c =
    let d = draws_both (draws_both c.add.ensures c.number.ensures) c.add-2.ensures in
    let n = c.gone.ensures ∙ ap (gone None) (c.pen-pen.ensures ∙ d.pen) in
    rw c.set_pen.ensures (draws_to _ (FillByEscape c.args.byte c.args.place ∷ []) d n refl)
