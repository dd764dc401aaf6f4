use Rattle.std.proofs.Common.{◌≡◌, ◌-◌}
use Rattle.tbl_columns.specs.Held.{emptied}
use Rattle.tbl_columns.specs.Narrow.{cells_taken, least}
use Rattle.tbl_columns.proofs.grid.Grid.take_cells.Given as goal

abbrev pub invariant-loop : goal.invariant-loop
invariant-loop l = record {
  value : cells_taken (l.count - l.counter) (least l.initial.self) l.self ≡ cells_taken l.count (least l.initial.self) l.initial.self;
  room : emptied l.self ≡ emptied l.initial.self;
}
