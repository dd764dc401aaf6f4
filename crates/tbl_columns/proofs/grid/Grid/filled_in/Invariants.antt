use Rattle.std.proofs.Common.{◌≡◌, ◌≤◌, drop}
use Rattle.tbl_columns.specs.Registers.{filled_from, filled_in, waiting, written}
use Rattle.tbl_columns.proofs.grid.Grid.filled_in.Given as goal

abbrev pub invariant-loop-at : goal.invariant-loop-at
invariant-loop-at l = record {
  value : filled_from l.self (drop l.at l.text) (waiting l.more (written l.filled)) ≡ filled_in l.self l.text;
  within : l.filled.len ≤ 128;
}
