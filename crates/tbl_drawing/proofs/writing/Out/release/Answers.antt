use Rattle.std.proofs.Common.{ℕ, ◌<◌, [], ◌∷◌, ◌++◌, replicate, sym, ap, ◌∙◌, arith}
use Prim.Native.Char.{code}
use Rattle.tbl_drawing.specs.declared.pen.Pen.{Pen}
use Rattle.tbl_drawing.specs.Pens.{Release, lead, released}
use Rattle.tbl_drawing.proofs.Choices.{some_of}
use Rattle.tbl_drawing.proofs.Tapes.{draws_both, draws_to}
use Rattle.tbl_drawing.proofs.writing.Out.release.Goals as goal

pub returns : goal.returns
returns g c =
    let p = c.args.self.now.pen in
    let same = ap (λ (q : Pen). q.blanks) c.pen-pen.ensures in
    let some : 0 < p.blanks = omega (arith, same) in
    let n = c.released.ensures ∙ ap released c.pen-pen.ensures in
    rw c.set_pen.ensures
    (draws_to _ (Release ∷ []) (draws_both c.ask_if.ensures c.repeat.ensures) n
    (ap (λ l. l ++ []) (some_of p.blanks (lead p.begun ++ replicate p.blanks (code " ")) some)
    ∙ ap (λ (q : Pen). (lead q.begun ++ replicate q.blanks (code " ")) ++ []) (sym c.pen-pen.ensures)))
