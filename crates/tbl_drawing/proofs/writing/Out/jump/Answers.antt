use Rattle.std.proofs.Common.{[], ◌∷◌, ◌++◌, Some, codes, decimal, ap, ◌∙◌, append_assoc}
use Rattle.tbl_drawing.proofs.Tapes.{draws_both, draws_then, draws_to}
use Rattle.tbl_drawing.specs.Pens.{Jump, blanks, gone}
use Rattle.tbl_drawing.proofs.writing.Out.jump.Goals as goal

pub returns : goal.returns
returns g c =
    let d = draws_then c.release.ensures (draws_both (draws_both (draws_both c.add.ensures c.add-2.ensures) c.number.ensures) c.add-3.ensures) in
    let n = c.gone.ensures ∙ ap (gone (Some c.args.place)) (c.pen-pen.ensures ∙ d.pen) in
    rw c.set_pen.ensures (draws_to _ (Jump c.args.place ∷ []) d n (append_assoc (blanks c.args.self.now.pen) (codes " \\h'|" ++ decimal c.args.place ++ codes "n'") []))
