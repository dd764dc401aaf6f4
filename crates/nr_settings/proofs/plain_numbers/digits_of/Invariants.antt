use Rattle.nr_settings.specs.PlainNumbers.{ReadsDigits}
use Rattle.nr_settings.proofs.plain_numbers.digits_of.Given as goal

abbrev pub invariant-loop-at : goal.invariant-loop-at
invariant-loop-at l = ReadsDigits l.text l.at l.number
