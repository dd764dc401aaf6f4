use Rattle.std.proofs.Common.{arith}
use Rattle.std.proofs.lemmas.Grind.{common_steps}
use Rattle.fast_machine.proofs.empty_lines.newlines_next.Goals as goal

pub returns-clause-next : goal.returns-clause-next
returns-clause-next g c = grind (arith, common_steps)

pub returns-clause-longest : goal.returns-clause-longest
returns-clause-longest g c = grind (arith, common_steps)
