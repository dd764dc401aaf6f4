use Rattle.std.proofs.Common.{◌≡◌, ℕ, ◌+◌, ◌-◌, ◌^◌, ◌<◌, length, map, slice_get, string_bytes, vec_len}
use Rattle.command_line.proofs.arguments.words_of.Given as goal

-- each word so far stands at its place
abbrev pub invariant-loop-words : goal.invariant-loop-words
invariant-loop-words g l = record {
  long : length l.words.items ≡ vec_len l.words;
  each : (place : ℕ) → place < length l.words.items → g.C.CommandLine.may_stand l.line (place + 1) (slice_get (map string_bytes l.words.items) place);
}

abbrev pub decreases-loop-words : goal.decreases-loop-words
decreases-loop-words g l = 2 ^ 64 - vec_len l.words
