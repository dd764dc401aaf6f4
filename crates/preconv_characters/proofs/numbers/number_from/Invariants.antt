use Rattle.std.proofs.Common.{◌≡◌, drop}
use Rattle.preconv_characters.specs.Numbers.{number_from}
use Rattle.preconv_characters.proofs.numbers.number_from.Given as goal

abbrev pub invariant-loop-byte : goal.invariant-loop-byte
invariant-loop-byte l = number_from l.base l.number (drop l.byte-index l.digits) ≡ number_from l.base l.fn.start l.digits
