use Rattle.std.proofs.Common.{arith}
use Rattle.std.proofs.lemmas.Grind.{common_steps}
use Rattle.preconv_characters.proofs.numbers.number_from.Goals as goal

pub returns-then-byte-eq95 : goal.returns-then-byte-eq95
returns-then-byte-eq95 c = grind (arith, common_steps)

pub returns-then-number-ge-CODES : goal.returns-then-number-ge-CODES
returns-then-number-ge-CODES c = grind (arith, common_steps)

pub returns-in_default : goal.returns-in_default
returns-in_default c = grind (arith, common_steps)

pub loop-byte-preserved : goal.loop-byte-preserved
loop-byte-preserved c = grind (arith, common_steps)

pub returns : goal.returns
returns c = grind (arith, common_steps)
