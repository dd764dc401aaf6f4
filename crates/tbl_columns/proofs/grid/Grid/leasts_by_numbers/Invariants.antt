use Rattle.std.proofs.Common.{◌≡◌, ℕ, ◌<◌, get_or, length, nat_lt, if◌then◌else◌}
use Rattle.tbl_columns.specs.Narrow.{least_by_numbers}
use Rattle.tbl_columns.proofs.grid.Grid.leasts_by_numbers.Given as goal

abbrev pub invariant-loop-number : goal.invariant-loop-number
invariant-loop-number l = record {
  len : length l.leasts ≡ 64;
  leasts : (c : ℕ) → c < 64 → get_or l.leasts c 0 ≡ (if nat_lt c l.number then least_by_numbers l.self c else 1);
}
