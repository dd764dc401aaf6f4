use Rattle.tbl_laws.proofs.PageFields.{fields_go_out}
use Rattle.tbl_laws.proofs.laws.fields_go_out.Goals as goal

pub returns : goal.returns
returns c = fields_go_out
