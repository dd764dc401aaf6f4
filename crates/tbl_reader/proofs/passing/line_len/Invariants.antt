use Rattle.std.proofs.Common.{◌≡◌, ◌+◌, drop}
use Rattle.tbl_reader.specs.Passing.{line_len}
use Rattle.tbl_reader.proofs.passing.line_len.Given as goal

abbrev pub invariant-loop-byte : goal.invariant-loop-byte
invariant-loop-byte l =
    (l.byte-index + line_len (drop l.byte-index l.bytes) ≡ line_len l.bytes) × (l.len ≡ l.byte-index)
