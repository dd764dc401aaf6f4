use Rattle.std.proofs.Common.{◌≡◌, map, take, string_bytes}
use Rattle.filters.specs.Arguments.{texts}
use Rattle.filters.proofs.arguments.borrowed.Given as goal

abbrev pub invariant-loop-word : goal.invariant-loop-word
invariant-loop-word l = texts l.borrowed.items ≡ map string_bytes (take l.word-index l.words)
