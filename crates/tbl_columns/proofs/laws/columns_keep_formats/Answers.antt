use Rattle.tbl_columns.proofs.LeastFits.{equal_columns, least_fits}
use Rattle.tbl_columns.proofs.laws.columns_keep_formats.Goals as goal

pub returns-clause-least : goal.returns-clause-least
returns-clause-least c = least_fits

pub returns-clause-equal : goal.returns-clause-equal
returns-clause-equal c = equal_columns
