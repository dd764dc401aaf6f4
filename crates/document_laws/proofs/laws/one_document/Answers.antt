use Rattle.document_laws.proofs.Documents.{one_document}
use Rattle.document_laws.proofs.laws.one_document.Goals as goal

pub returns : goal.returns
returns c = one_document
