use Rattle.std.proofs.Common.{arith}
use Rattle.std.proofs.lemmas.Grind.{common_steps}
use Rattle.nr_formatter.proofs.formatter.Formatter.new.Goals as goal

pub returns-in_err-line-clause-made : goal.returns-in_err-line-clause-made
returns-in_err-line-clause-made c = grind (arith, common_steps)

pub returns-in_err-store-clause-made : goal.returns-in_err-store-clause-made
returns-in_err-store-clause-made c = grind (arith, common_steps)

pub returns-clause-made : goal.returns-clause-made
returns-clause-made c = grind (arith, common_steps)
