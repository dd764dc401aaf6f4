use Rattle.document_laws.proofs.Documents.{none_goes_out}
use Rattle.document_laws.proofs.laws.no_control_goes_out.Goals as goal

pub returns : goal.returns
returns c = none_goes_out
