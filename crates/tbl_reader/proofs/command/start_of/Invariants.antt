use Rattle.std.proofs.Common.{◌≡◌, drop}
use Rattle.tbl_reader.specs.Commands.{start_after, start_of}
use Rattle.tbl_reader.proofs.command.start_of.Given as goal

abbrev pub invariant-loop-byte : goal.invariant-loop-byte
invariant-loop-byte l = start_after l.letter (drop l.byte-index l.bytes) l.start ≡ start_of l.letter l.bytes
