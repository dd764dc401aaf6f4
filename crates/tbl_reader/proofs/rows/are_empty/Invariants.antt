use Rattle.std.proofs.Common.{◌≡◌, drop}
use Rattle.tbl_reader.specs.RowLines.{are_empty}
use Rattle.tbl_reader.proofs.rows.are_empty.Given as goal

abbrev pub invariant-loop-byte : goal.invariant-loop-byte
invariant-loop-byte l = are_empty l.tab (drop l.byte-index l.text) ≡ are_empty l.tab l.text
