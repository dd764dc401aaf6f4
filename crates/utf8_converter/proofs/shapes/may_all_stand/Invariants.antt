use Rattle.std.proofs.Common.{◌≡◌, true}
use Rattle.utf8_converter.specs.Shapes.{StandAll}
use Rattle.utf8_converter.proofs.shapes.may_all_stand.Given as goal

abbrev pub invariant-loop-byte : goal.invariant-loop-byte
invariant-loop-byte l = l.all ≡ true → StandAll l.byte-index l.bytes
