-- No line that begins before the place begins a table.
use Rattle.std.proofs.Common.{◌≡◌, true, drop}
use Rattle.utf8_command.specs.Choosing.{has_table_from}
use Rattle.utf8_command.proofs.choosing.has_tables.Given as goal

abbrev pub invariant-loop-place : goal.invariant-loop-place
invariant-loop-place l = has_table_from true l.page ≡ has_table_from l.begins (drop l.place l.page)
