use Rattle.std.proofs.Common.{◌≡◌}
use Rattle.tbl_columns.specs.Narrow.{long_read}
use Rattle.tbl_columns.specs.Held.{emptied}
use Rattle.tbl_table.specs.Lists.{in_turn}
use Rattle.tbl_columns.proofs.grid.Grid.read_long_fields.Given as goal

abbrev pub invariant-loop-number : goal.invariant-loop-number
invariant-loop-number l = record {
  value : l.self ≡ in_turn l.number long_read l.initial.self;
  room : emptied l.self ≡ emptied l.initial.self;
}
