use Rattle.std.proofs.Common.{arith}
use Rattle.std.proofs.lemmas.Grind.{common_steps}
use Rattle.nr_units.proofs.number_text.push_roman_digit.Goals as goal

pub returns-in-1-clause-short : goal.returns-in-1-clause-short
returns-in-1-clause-short c = grind (arith, common_steps)

pub returns-in-2-clause-short : goal.returns-in-2-clause-short
returns-in-2-clause-short c = grind (arith, common_steps)

pub returns-in-3-clause-short : goal.returns-in-3-clause-short
returns-in-3-clause-short c = grind (arith, common_steps)

pub returns-in-4-clause-short : goal.returns-in-4-clause-short
returns-in-4-clause-short c = grind (arith, common_steps)

pub returns-in-5-clause-short : goal.returns-in-5-clause-short
returns-in-5-clause-short c = grind (arith, common_steps)

pub returns-in-6-clause-short : goal.returns-in-6-clause-short
returns-in-6-clause-short c = grind (arith, common_steps)

pub returns-in-7-clause-short : goal.returns-in-7-clause-short
returns-in-7-clause-short c = grind (arith, common_steps)

pub returns-in-8-clause-short : goal.returns-in-8-clause-short
returns-in-8-clause-short c = grind (arith, common_steps)

pub returns-in_default-clause-short : goal.returns-in_default-clause-short
returns-in_default-clause-short c = grind (arith, common_steps)
