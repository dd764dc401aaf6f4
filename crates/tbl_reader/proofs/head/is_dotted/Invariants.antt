use Rattle.std.proofs.Common.{◌≡◌, drop}
use Rattle.tbl_reader.specs.Heads.{dotted_after, is_dotted}
use Rattle.tbl_reader.proofs.head.is_dotted.Given as goal

abbrev pub invariant-loop-byte : goal.invariant-loop-byte
invariant-loop-byte l = dotted_after l.dotted (drop l.byte-index l.line) ≡ is_dotted l.line
