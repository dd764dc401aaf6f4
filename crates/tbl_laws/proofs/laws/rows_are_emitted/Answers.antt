use Rattle.tbl_laws.proofs.Heads.{formats_are_read, tables_are_emitted}
use Rattle.tbl_laws.proofs.OptionHeads.{options_are_read}
use Rattle.tbl_laws.proofs.RowsLaw.{rows_are_emitted}
use Rattle.tbl_laws.proofs.laws.rows_are_emitted.Goals as goal

pub returns : goal.returns
returns c = record { formats = formats_are_read; options = options_are_read; rows = rows_are_emitted; tables = tables_are_emitted }
