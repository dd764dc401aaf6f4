use Rattle.std.proofs.Common.{◌≡◌, drop}
use Rattle.tbl_columns.specs.Narrow.{has_blank}
use Rattle.tbl_columns.proofs.narrow.has_blank.Given as goal

abbrev pub invariant-loop-byte : goal.invariant-loop-byte
invariant-loop-byte l = has_blank (drop l.byte-index l.text) ≡ has_blank l.text
