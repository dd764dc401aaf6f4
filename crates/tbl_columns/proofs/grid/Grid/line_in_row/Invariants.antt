use Rattle.std.proofs.Common.{◌≡◌, ◌-◌}
use Rattle.tbl_columns.specs.Texts.{line_in_row, line_up_to}
use Rattle.tbl_columns.proofs.grid.Grid.line_in_row.Given as goal

abbrev pub invariant-loop-back : goal.invariant-loop-back
invariant-loop-back l = line_up_to (l.most - l.back) l.block.line l.row l.self.blocks.lines.items ≡ line_in_row l.self l.block l.row
