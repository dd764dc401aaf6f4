-- The bytes before the place are blanks.
use Rattle.std.proofs.Common.{◌≡◌, ◌+◌, drop}
use Rattle.std.specs.List.{prefix_len}
use Rattle.document_sources.specs.Names.{is_blank}
use Rattle.document_sources.proofs.names.blanks.Given as goal

abbrev pub invariant-loop-at : goal.invariant-loop-at
invariant-loop-at l = prefix_len is_blank l.text ≡ l.at + prefix_len is_blank (drop l.at l.text)
