-- The digits before the index were read.
use Rattle.std.proofs.Common.{◌≡◌, fold, drop, Some}
use Rattle.program_options.specs.Numbers.{with_digit}
use Rattle.program_options.proofs.numbers.read_number.Given as goal

abbrev pub invariant-loop-byte : goal.invariant-loop-byte
invariant-loop-byte l = fold with_digit (Some 0) l.text ≡ fold with_digit l.number (drop l.byte-index l.text)
