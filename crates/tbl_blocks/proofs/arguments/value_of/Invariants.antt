use Rattle.std.proofs.Common.{◌≡◌, ◌≤◌, drop}
use Rattle.tbl_blocks.specs.Arguments.{value_of}
use Rattle.tbl_blocks.proofs.arguments.value_of.Given as goal

abbrev pub invariant-loop-digit : goal.invariant-loop-digit
invariant-loop-digit l = record {
  value : value_of l.number (drop l.digit-index l.digits) ≡ value_of 0 l.digits;
  most : l.number ≤ 65535;
}
