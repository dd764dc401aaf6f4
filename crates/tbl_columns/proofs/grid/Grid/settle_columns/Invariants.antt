use Rattle.std.proofs.Common.{◌≡◌}
use Rattle.tbl_columns.specs.Columns.{settled_column}
use Rattle.tbl_columns.specs.Held.{emptied}
use Rattle.tbl_table.specs.Lists.{in_turn}
use Rattle.tbl_columns.proofs.grid.Grid.settle_columns.Given as goal

abbrev pub invariant-loop-number : goal.invariant-loop-number
invariant-loop-number l = record {
  value : l.self ≡ in_turn l.number settled_column l.initial.self;
  room : emptied l.self ≡ emptied l.initial.self;
}
