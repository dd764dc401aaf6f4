use Rattle.std.proofs.Common.{◌≡◌}
use Rattle.tbl_columns.specs.Cells.{went_on_at}
use Rattle.tbl_columns.specs.Held.{emptied}
use Rattle.tbl_table.specs.Lists.{in_turn}
use Rattle.tbl_columns.proofs.grid.Grid.judge_columns.Given as goal

abbrev pub invariant-loop-column : goal.invariant-loop-column
invariant-loop-column l = record {
  value : l.self ≡ in_turn l.column (went_on_at l.row l.cells) l.initial.self;
  room : emptied l.self ≡ emptied l.initial.self;
}
