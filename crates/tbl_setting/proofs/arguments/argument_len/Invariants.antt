use Rattle.std.proofs.Common.{◌≡◌, ◌+◌, drop}
use Rattle.tbl_setting.specs.Arguments.{argument_len}
use Rattle.tbl_setting.proofs.arguments.argument_len.Given as goal

abbrev pub invariant-loop-byte : goal.invariant-loop-byte
invariant-loop-byte l = record {
  value : l.len + argument_len (drop l.byte-index l.text) ≡ argument_len l.text;
  len : l.len ≡ l.byte-index;
}
