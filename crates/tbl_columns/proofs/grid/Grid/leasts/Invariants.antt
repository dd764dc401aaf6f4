use Rattle.std.proofs.Common.{◌≡◌, ℕ, ◌<◌, get_or, length, drop}
use Rattle.tbl_columns.specs.Narrow.{least, least_by_fields}
use Rattle.tbl_columns.proofs.grid.Grid.leasts.Given as goal

abbrev pub invariant-loop-number : goal.invariant-loop-number
invariant-loop-number l = record {
  len : length l.leasts ≡ 64;
  leasts : (c : ℕ) → c < 64 → least_by_fields l.self c (get_or l.leasts c 0) (drop l.number l.self.cells.items) ≡ least l.self c;
}
