use Rattle.std.proofs.Common.{◌≡◌, take}
use Rattle.nr_units.proofs.name.Name.of.Given as goal

abbrev pub invariant-loop-byte : goal.invariant-loop-byte
invariant-loop-byte l = l.name ≡ take l.byte-index l.bytes
