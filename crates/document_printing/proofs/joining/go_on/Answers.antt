use Rattle.document_printing.proofs.AfterMacros.{joined_where}
use Rattle.document_printing.proofs.joining.go_on.Goals as goal

pub returns-clause-answers : goal.returns-clause-answers
returns-clause-answers g c =
    joined_where _ _ _ _ _ _ c.format_after.result _ _ c.lend.ensures.limits c.format_after.ensures.answers
