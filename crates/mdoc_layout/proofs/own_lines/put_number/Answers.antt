use Rattle.std.proofs.Common.{arith}
use Rattle.std.proofs.lemmas.Grind.{common_steps}
use Rattle.mdoc_layout.proofs.own_lines.put_number.Goals as goal

pub returns-then-n-lt10-clause-few : goal.returns-then-n-lt10-clause-few
returns-then-n-lt10-clause-few c = grind (arith, common_steps)

pub returns-then-n-lt100-clause-few : goal.returns-then-n-lt100-clause-few
returns-then-n-lt100-clause-few c = grind (arith, common_steps)

pub returns-then-n-lt1000-clause-few : goal.returns-then-n-lt1000-clause-few
returns-then-n-lt1000-clause-few c = grind (arith, common_steps)

pub returns-else-n-lt1000-clause-few : goal.returns-else-n-lt1000-clause-few
returns-else-n-lt1000-clause-few c = grind (arith, common_steps)
