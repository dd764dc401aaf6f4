use Rattle.std.proofs.Common.{rules}
use Rattle.program_command.specs.Plan.{table_with_most}
use Rattle.program_command.proofs.plan.fullest.Goals as goal

pub returns : goal.returns
unfolding table_with_most
returns c = c.choose_of.ensures
