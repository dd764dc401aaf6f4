use Rattle.std.proofs.Common.{arith}
use Rattle.std.proofs.lemmas.Grind.{common_steps}
use Rattle.preconv_converter.proofs.reader.Reader.hear_pending.Goals as goal

pub returns-in-Two-clause-items : goal.returns-in-Two-clause-items
returns-in-Two-clause-items c = grind (arith, common_steps)

pub returns-in-Three-clause-items : goal.returns-in-Three-clause-items
returns-in-Three-clause-items c = grind (arith, common_steps)
