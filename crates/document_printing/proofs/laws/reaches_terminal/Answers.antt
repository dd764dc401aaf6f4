use Rattle.document_printing.proofs.Reached.{cut-reached, reached}
use Rattle.document_printing.proofs.laws.reaches_terminal.Goals as goal

pub returns-clause-whole : goal.returns-clause-whole
returns-clause-whole c = reached

pub returns-clause-cut : goal.returns-clause-cut
returns-clause-cut c = cut-reached
