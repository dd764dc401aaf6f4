use Rattle.std.proofs.Common.{◌≡◌, ◌+◌, drop, false}
use Rattle.tbl_blocks.specs.Arguments.{argument_len}
use Rattle.tbl_blocks.proofs.arguments.argument_len.Given as goal

abbrev pub invariant-loop-at : goal.invariant-loop-at
invariant-loop-at l = l.at + argument_len l.quoted l.escaped (drop l.at l.text) ≡ argument_len l.quoted false l.text
