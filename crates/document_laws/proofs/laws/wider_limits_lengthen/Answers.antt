use Rattle.document_laws.proofs.Documents.{done_stays, wider_limits_lengthen}
use Rattle.document_laws.proofs.laws.wider_limits_lengthen.Goals as goal

pub returns-clause-lengthen : goal.returns-clause-lengthen
returns-clause-lengthen c = wider_limits_lengthen

pub returns-clause-done : goal.returns-clause-done
returns-clause-done c = done_stays
