use Rattle.std.proofs.Common.{◌≡◌, ◌-◌}
use Rattle.tbl_table.specs.Held as held
use Rattle.tbl_table.proofs.table.Table.some_print.Given as goal

abbrev pub invariant-loop-number : goal.invariant-loop-number
invariant-loop-number l = held.some_print (l.fn.end - l.number) l.self l.number ≡ held.some_print (l.fn.end - l.fn.first) l.self l.fn.first
