use Rattle.tbl_drawing.proofs.TablesRead.{fields_read_stand, read_tables_fit, texts_read_fit}
use Rattle.tbl_drawing.proofs.laws.read_tables_fit.Goals as goal

pub returns-clause-fields : goal.returns-clause-fields
returns-clause-fields c = fields_read_stand

pub returns-clause-texts : goal.returns-clause-texts
returns-clause-texts c = texts_read_fit

pub returns-clause-narrowed : goal.returns-clause-narrowed
returns-clause-narrowed c = read_tables_fit
