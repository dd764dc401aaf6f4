use Rattle.std.proofs.Common.{◌∙◌, ap}
use Rattle.document_printing.proofs.Carried.{carried, held_from}
use Rattle.document_printing.proofs.joining.format_joined.Goals as goal

pub returns-in-Some-clause-answers : goal.returns-in-Some-clause-answers
returns-in-Some-clause-answers g c rest q = c.in-Some.ensures.answers rest q

pub returns-in-None-clause-answers : goal.returns-in-None-clause-answers
returns-in-None-clause-answers g c rest q =
    let left = c.go_on.ensures.text c.in-None.is in
    let held = c.go_on.ensures.output c.in-None.is in
    held_from _ _ _ _ _ _ _ _ (ap g.W.Sink.held held)
    (carried _ _ _ _ _ _ _ _ (c.format_anew.ensures.answers rest (ap g.R.Source.supply left ∙ q)) c.go_on.ensures.desk)
