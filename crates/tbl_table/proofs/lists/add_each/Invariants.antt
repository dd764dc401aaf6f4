use Rattle.std.proofs.Common.{◌≡◌}
use Rattle.tbl_table.specs.Lists.{added_each}
use Rattle.tbl_table.proofs.lists.add_each.Given as goal

abbrev pub invariant-loop : goal.invariant-loop
invariant-loop g l = l.items ≡ added_each l.counter l.item l.initial.items
