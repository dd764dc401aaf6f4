-- No line that begins before the place does so.
use Rattle.std.proofs.Common.{◌≡◌, true, drop}
use Rattle.document_printing.specs.Tables.{has_table}
use Rattle.document_printing.proofs.prefix.has_tables.Given as goal

abbrev pub invariant-loop-at : goal.invariant-loop-at
invariant-loop-at l = has_table true l.page ≡ has_table l.begins (drop l.at l.page)
