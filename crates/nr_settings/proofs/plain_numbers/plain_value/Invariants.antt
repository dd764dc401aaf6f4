use Rattle.nr_settings.specs.PlainNumbers.{ReadsDigits}
use Rattle.nr_settings.proofs.plain_numbers.plain_value.Given as goal

abbrev pub invariant-loop-at : goal.invariant-loop-at
invariant-loop-at l = ReadsDigits l.argument l.at l.number
