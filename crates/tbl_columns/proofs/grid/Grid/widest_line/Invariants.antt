use Rattle.std.proofs.Common.{◌≡◌, max, drop}
use Rattle.tbl_columns.specs.Texts.{lines_from, widest_line}
use Rattle.tbl_columns.proofs.grid.Grid.widest_line.Given as goal

abbrev pub invariant-loop-number : goal.invariant-loop-number
invariant-loop-number l = max (widest_line (drop l.number l.self.blocks.lines.items)) l.most ≡ widest_line (lines_from l.first l.self)
