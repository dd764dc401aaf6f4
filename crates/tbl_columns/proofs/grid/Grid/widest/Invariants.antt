use Rattle.std.proofs.Common.{◌≡◌, get_or}
use Rattle.tbl_columns.specs.Narrow.{found_at, found_so_far, nothing_found}
use Rattle.tbl_table.specs.Lists.{in_turn}
use Rattle.tbl_columns.proofs.grid.Grid.widest.Given as goal

abbrev pub invariant-loop-number : goal.invariant-loop-number
invariant-loop-number l = found_so_far l.found l.most ≡ in_turn l.number (found_at l.self (λ c. get_or l.leasts c 0)) nothing_found
