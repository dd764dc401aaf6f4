-- The bytes before the place are of one line.
use Rattle.std.proofs.Common.{◌≡◌, ◌+◌, drop}
use Rattle.std.specs.List.{prefix_len}
use Rattle.document_sources.specs.Joining.{is_line_byte}
use Rattle.document_sources.proofs.joining.run_len.Given as goal

abbrev pub invariant-loop-at : goal.invariant-loop-at
invariant-loop-at l = prefix_len is_line_byte l.bytes ≡ l.at + prefix_len is_line_byte (drop l.at l.bytes)
