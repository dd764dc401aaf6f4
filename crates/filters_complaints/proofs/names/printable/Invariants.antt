use Rattle.std.proofs.Common.{◌≡◌, ◌≤◌, length, map, take}
use Rattle.filters_complaints.specs.Names.{printable_byte}
use Rattle.filters_complaints.proofs.names.printable.Given as goal

abbrev pub invariant-loop-byte : goal.invariant-loop-byte
invariant-loop-byte l = (l.all ≡ map printable_byte (take l.byte-index l.byte-items)) × (length l.byte-items ≤ 32)
