use Rattle.std.proofs.Common.{◌≡◌, ◌+◌, drop}
use Rattle.document_stages.specs.Counted.{line_len}
use Rattle.document_stages.proofs.counted.line_len.Given as goal

abbrev pub invariant-loop-i : goal.invariant-loop-i
invariant-loop-i l = l.i + line_len (drop l.i l.bytes) ≡ line_len l.bytes
