use Rattle.document_laws.proofs.Documents.{few_moves}
use Rattle.document_laws.proofs.laws.few_moves.Goals as goal

pub returns : goal.returns
returns c = few_moves
