use Rattle.std.proofs.Common.{arith}
use Rattle.std.proofs.lemmas.Grind.{common_steps}
use Rattle.preconv_converter.proofs.runs.dotted_len.Goals as goal

pub returns-in-len2-up-clause-len : goal.returns-in-len2-up-clause-len
returns-in-len2-up-clause-len c = grind (arith, common_steps)
