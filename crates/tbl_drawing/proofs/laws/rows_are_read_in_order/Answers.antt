use Rattle.tbl_drawing.proofs.RowsRead.{nothing_is_held, others_stay_held, request_stays_held, row_stays_held, rule_stays_held}
use Rattle.tbl_drawing.proofs.laws.rows_are_read_in_order.Goals as goal

pub returns-clause-nothing : goal.returns-clause-nothing
returns-clause-nothing c = nothing_is_held

pub returns-clause-others : goal.returns-clause-others
returns-clause-others c = others_stay_held

pub returns-clause-row : goal.returns-clause-row
returns-clause-row c = row_stays_held

pub returns-clause-rule : goal.returns-clause-rule
returns-clause-rule c = rule_stays_held

pub returns-clause-request : goal.returns-clause-request
returns-clause-request c = request_stays_held
