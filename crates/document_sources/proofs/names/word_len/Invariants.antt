-- The bytes before the place are of the word.
use Rattle.std.proofs.Common.{◌≡◌, ◌+◌, drop}
use Rattle.std.specs.List.{prefix_len}
use Rattle.document_sources.specs.Names.{is_word_byte}
use Rattle.document_sources.proofs.names.word_len.Given as goal

abbrev pub invariant-loop-at : goal.invariant-loop-at
invariant-loop-at l = prefix_len is_word_byte l.text ≡ l.at + prefix_len is_word_byte (drop l.at l.text)
