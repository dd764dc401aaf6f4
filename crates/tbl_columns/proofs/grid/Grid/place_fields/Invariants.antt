use Rattle.std.proofs.Common.{◌≡◌}
use Rattle.tbl_columns.specs.Cells.{placing}
use Rattle.tbl_columns.specs.Held.{emptied}
use Rattle.tbl_columns.proofs.grid.Grid.place_fields.Given as goal

abbrev pub invariant-loop-column : goal.invariant-loop-column
invariant-loop-column l = record {
  value : record { grid = l.self; given = l.given; next = l.next } ≡ placing l.column l.number l.row l.initial.self;
  room : emptied l.self ≡ emptied l.initial.self;
}
