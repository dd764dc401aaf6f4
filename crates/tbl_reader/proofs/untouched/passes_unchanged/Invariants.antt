use Rattle.std.proofs.Common.{◌≡◌, drop}
use Rattle.tbl_reader.specs.Untouched.{has_table, has_table_from}
use Rattle.tbl_reader.proofs.untouched.passes_unchanged.Given as goal

abbrev pub invariant-loop-i : goal.invariant-loop-i
invariant-loop-i l = has_table_from l.starts (drop l.i l.text) ≡ has_table l.text
