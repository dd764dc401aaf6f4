use Rattle.std.proofs.Common.{◌≡◌, drop}
use Rattle.tbl_reader.specs.Fields.{without_blanks_before}
use Rattle.tbl_reader.proofs.field.without_blanks_before.Given as goal

abbrev pub invariant-loop-at : goal.invariant-loop-at
invariant-loop-at l = without_blanks_before (drop l.at l.text) ≡ without_blanks_before l.text
