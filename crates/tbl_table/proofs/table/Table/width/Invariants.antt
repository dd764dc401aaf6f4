use Rattle.std.proofs.Common.{◌≡◌, drop}
use Rattle.tbl_table.specs.Table.{most_columns}
use Rattle.tbl_table.proofs.table.Table.width.Given as goal

abbrev pub invariant-loop-line : goal.invariant-loop-line
invariant-loop-line l = most_columns l.most (drop l.line-index l.self.lines.items) ≡ most_columns 0 l.self.lines.items
