use Rattle.tbl_columns.proofs.Stays.{fitting_tables_stay}
use Rattle.tbl_columns.proofs.laws.fitting_tables_stay.Goals as goal

pub returns : goal.returns
returns c = fitting_tables_stay
