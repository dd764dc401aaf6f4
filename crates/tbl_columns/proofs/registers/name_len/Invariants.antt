use Rattle.std.proofs.Common.{◌≡◌, ◌+◌, drop}
use Rattle.tbl_columns.specs.Registers.{name_len}
use Rattle.tbl_columns.proofs.registers.name_len.Given as goal

abbrev pub invariant-loop-byte : goal.invariant-loop-byte
invariant-loop-byte l = record {
  value : l.len + name_len (drop l.byte-index l.text) ≡ name_len l.text;
  len : l.len ≡ l.byte-index;
}
