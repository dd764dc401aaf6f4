use Rattle.std.proofs.Common.{◌≡◌}
use Rattle.tbl_table.specs.Held.{emptied}
use Rattle.tbl_setting.specs.Hearing.{empty_added}
use Rattle.tbl_setting.proofs.hearing.add_empty.Given as goal

abbrev pub invariant-loop : goal.invariant-loop
invariant-loop l = (l.table ≡ empty_added l.counter l.initial.table) × (emptied l.table ≡ emptied l.initial.table)
