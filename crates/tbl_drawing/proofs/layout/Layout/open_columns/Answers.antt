use Rattle.std.proofs.Common.{[], ◌∷◌, sym, ◌∙◌}
use Rattle.tbl_drawing.proofs.Choices.{left, taken}
use Rattle.tbl_drawing.proofs.Chosen.{strokes_chosen, strokes_other}
use Rattle.tbl_drawing.proofs.Tapes.{draws_nothing}
use Rattle.tbl_drawing.specs.Lines.{closing}
use Rattle.tbl_drawing.specs.Pens.{Bytes}
use Rattle.tbl_drawing.specs.Tables.{columns_renewed, columns_stand}
use Rattle.tbl_drawing.proofs.layout.Layout.open_columns.Goals as goal

pub returns-then-columns_stand-clause-draws : goal.returns-then-columns_stand-clause-draws
returns-then-columns_stand-clause-draws g c =
    let l = c.args.self.now in
    strokes_chosen (columns_stand l) (Bytes (closing l.measured) ∷ []) (draws_nothing _) (sym c.columns_stand.ensures ∙ c.if-columns_stand.true)

pub returns-then-columns_stand-clause-value : goal.returns-then-columns_stand-clause-value
returns-then-columns_stand-clause-value g c =
    let l = c.args.self.now in
    sym (taken (columns_stand l) l (columns_renewed l) (sym c.columns_stand.ensures ∙ c.if-columns_stand.true))

pub returns-clause-draws : goal.returns-clause-draws
returns-clause-draws g c = strokes_other (columns_stand c.args.self.now) [] c.renew_columns.ensures.draws (sym c.columns_stand.ensures ∙ c.if-columns_stand.false)

pub returns-clause-value : goal.returns-clause-value
returns-clause-value g c =
    let l = c.args.self.now in
    c.renew_columns.ensures.value ∙ sym (left (columns_stand l) l (columns_renewed l) (sym c.columns_stand.ensures ∙ c.if-columns_stand.false))
