use Rattle.std.proofs.Common.{arith}
use Rattle.std.proofs.lemmas.Grind.{common_steps}
use Rattle.nr_units.proofs.number_text.push_roman.Goals as goal

pub push_roman_digit-requires-clause-room : goal.push_roman_digit-requires-clause-room
push_roman_digit-requires-clause-room c = grind (arith, common_steps)

pub push_roman_digit-requires-2-clause-room : goal.push_roman_digit-requires-2-clause-room
push_roman_digit-requires-2-clause-room c = grind (arith, common_steps)

pub push_roman_digit-requires-3-clause-room : goal.push_roman_digit-requires-3-clause-room
push_roman_digit-requires-3-clause-room c = grind (arith, common_steps)

pub returns-clause-appends : goal.returns-clause-appends
returns-clause-appends c = grind (arith, common_steps)

pub returns-clause-short : goal.returns-clause-short
returns-clause-short c = grind (arith, common_steps)

pub returns-clause-computed : goal.returns-clause-computed
returns-clause-computed c = grind (arith, common_steps)
