use Rattle.tbl_columns.proofs.TablesFit.{tables_fit}
use Rattle.tbl_columns.proofs.laws.narrowed_tables_fit.Goals as goal

pub returns : goal.returns
returns c = tables_fit
