use Rattle.std.proofs.Common.{arith}
use Rattle.std.proofs.lemmas.Grind.{common_steps}
use Rattle.fast_input.proofs.macro_lines.end_argument.Goals as goal

pub returns-in_default-eq10-clause-taken_in : goal.returns-in_default-eq10-clause-taken_in
returns-in_default-eq10-clause-taken_in c = grind (arith, common_steps)

pub returns-in-Word-eq32-clause-taken_in : goal.returns-in-Word-eq32-clause-taken_in
returns-in-Word-eq32-clause-taken_in c = grind (arith, common_steps)

pub returns-in-Quoted-eq34-clause-taken_in : goal.returns-in-Quoted-eq34-clause-taken_in
returns-in-Quoted-eq34-clause-taken_in c = grind (arith, common_steps)
