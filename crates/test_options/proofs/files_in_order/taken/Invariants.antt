-- There is room for what was taken.
use Rattle.std.proofs.Common.{◌≤◌}
use Rattle.test_options.proofs.files_in_order.taken.Given as goal

abbrev pub invariant-loop : goal.invariant-loop
invariant-loop g l = l.used ≤ 40
