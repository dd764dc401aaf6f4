use Rattle.std.proofs.Common.{◌≡◌}
use Rattle.tbl_columns.specs.Cells.{settled_row, settling}
use Rattle.tbl_columns.specs.Held.{emptied}
use Rattle.tbl_table.specs.Lists.{in_turn}
use Rattle.tbl_columns.proofs.grid.Grid.settle_rows.Given as goal

abbrev pub invariant-loop-number : goal.invariant-loop-number
invariant-loop-number l = record {
  value : settling l.self l.last_own ≡ in_turn l.number settled_row (settling l.initial.self 0);
  room : emptied l.self ≡ emptied l.initial.self;
}
