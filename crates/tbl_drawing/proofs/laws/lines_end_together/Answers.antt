use Rattle.tbl_drawing.proofs.Ends.{edges_end_together, rows_end_together, rows_end_within, rules_end_together}
use Rattle.tbl_drawing.proofs.laws.lines_end_together.Goals as goal

pub returns-clause-rows : goal.returns-clause-rows
returns-clause-rows c = rows_end_together

pub returns-clause-within : goal.returns-clause-within
returns-clause-within c = rows_end_within

pub returns-clause-rules : goal.returns-clause-rules
returns-clause-rules c = rules_end_together

pub returns-clause-edges : goal.returns-clause-edges
returns-clause-edges c = edges_end_together
