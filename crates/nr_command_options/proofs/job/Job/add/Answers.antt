use Rattle.std.proofs.Common.{arith, rules}
use Rattle.std.proofs.lemmas.Grind.{common_steps}
use Rattle.nr_command_options.proofs.job.Job.add.Goals as goal

pub returns-then-is_full-2 : goal.returns-then-is_full-2
returns-then-is_full-2 c = grind (arith, common_steps)

pub returns-else-is_full : goal.returns-else-is_full
returns-else-is_full c = search rules

pub returns-else-is_full-2 : goal.returns-else-is_full-2
returns-else-is_full-2 c = grind (arith, common_steps)
