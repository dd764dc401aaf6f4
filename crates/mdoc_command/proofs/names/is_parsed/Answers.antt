use Rattle.std.proofs.Common.{arith}
use Rattle.std.proofs.lemmas.Grind.{common_steps}
use Rattle.mdoc_command.proofs.names.is_parsed.Goals as goal

pub returns-then-first-ne37 : goal.returns-then-first-ne37
returns-then-first-ne37 c = grind (arith, common_steps)
