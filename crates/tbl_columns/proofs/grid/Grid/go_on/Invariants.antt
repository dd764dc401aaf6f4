use Rattle.std.proofs.Common.{◌≡◌, ℕ, ◌+◌, ◌-◌, ◌≤◌, max}
use Rattle.tbl_columns.specs.Cells.{gone_on_at}
use Rattle.tbl_columns.specs.Held.{emptied}
use Rattle.tbl_table.specs.Lists.{in_turn}
use Rattle.tbl_columns.proofs.grid.Grid.go_on.Given as goal

abbrev pub invariant-loop-column : goal.invariant-loop-column
invariant-loop-column l = record {
  value : l.self ≡ in_turn (l.column - l.first) (λ (n : ℕ). gone_on_at l.row (l.first + n)) l.initial.self;
  within : l.column ≤ max l.first l.column-end;
  room : emptied l.self ≡ emptied l.initial.self;
}
