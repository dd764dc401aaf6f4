use Rattle.std.proofs.Common.{◌≡◌, true}
use Rattle.tbl_table.specs.Rows.{are_ruling}
use Rattle.tbl_table.proofs.table.Table.is_rule.Given as goal

abbrev pub invariant-loop-column : goal.invariant-loop-column
invariant-loop-column l = are_ruling l.column l.self l.line ≡ true
