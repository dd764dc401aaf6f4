use Rattle.std.proofs.Common.{◌≡◌, drop}
use Rattle.tbl_columns.specs.Registers.{has_escape}
use Rattle.tbl_columns.proofs.registers.has_escape.Given as goal

abbrev pub invariant-loop-byte : goal.invariant-loop-byte
invariant-loop-byte l = has_escape (drop l.byte-index l.text) ≡ has_escape l.text
