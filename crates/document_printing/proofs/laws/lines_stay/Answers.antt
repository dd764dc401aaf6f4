use Rattle.document_printing.proofs.Reached.{lines-stay}
use Rattle.document_printing.proofs.laws.lines_stay.Goals as goal

pub returns : goal.returns
returns c = lines-stay
