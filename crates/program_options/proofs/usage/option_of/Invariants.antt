-- The bytes from the third to `len` go on with the letter.
use Rattle.std.proofs.Common.{◌≡◌, ◌+◌, ◌-◌, ◌≤◌, length, drop}
use Rattle.std.specs.List.{prefix_len}
use Rattle.program_options.specs.Usage.{goes_on}
use Rattle.program_options.proofs.usage.option_of.Given as goal

abbrev pub invariant-loop-len : goal.invariant-loop-len
invariant-loop-len l = record {
  within : l.len ≤ length l.word;
  so_far : 2 + prefix_len goes_on (drop 2 l.word) ≡ l.len + prefix_len goes_on (drop l.len l.word);
}

abbrev pub decreases-loop-len : goal.decreases-loop-len
decreases-loop-len l = length l.word - l.len
