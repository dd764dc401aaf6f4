use Rattle.tbl_drawing.proofs.RowsInOrder.{rows_go_out}
use Rattle.tbl_drawing.proofs.laws.rows_go_out_once.Goals as goal

pub returns : goal.returns
returns c = rows_go_out
