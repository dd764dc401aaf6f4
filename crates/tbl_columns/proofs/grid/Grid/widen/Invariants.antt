use Rattle.std.proofs.Common.{◌≡◌, ℕ, ◌+◌, ◌-◌, ◌≤◌, max}
use Rattle.tbl_columns.specs.Columns.{dealing, dealt_at}
use Rattle.tbl_columns.specs.Held.{emptied}
use Rattle.tbl_table.specs.Lists.{in_turn}
use Rattle.tbl_columns.proofs.grid.Grid.widen.Given as goal

abbrev pub invariant-loop-number : goal.invariant-loop-number
invariant-loop-number l = record {
  value : dealing l.self l.rest
      ≡ in_turn (l.number - l.first) (λ (n : ℕ). dealt_at l.whole l.all l.last (l.first + n)) (dealing l.initial.self l.whole);
  within : l.number ≤ max l.first l.number-end;
  room : emptied l.self ≡ emptied l.initial.self;
}
