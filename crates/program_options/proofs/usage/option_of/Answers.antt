use Rattle.std.proofs.Common.{arith}
use Rattle.std.proofs.lemmas.Grind.{common_steps}
use Rattle.program_options.proofs.usage.option_of.Goals as goal

pub loop-len-preserved : goal.loop-len-preserved
loop-len-preserved c = grind (arith, common_steps)

pub returns : goal.returns
returns c = grind (arith, common_steps)
