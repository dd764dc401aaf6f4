use Rattle.std.proofs.Common.{arith}
use Rattle.std.proofs.lemmas.Grind.{common_steps}
use Rattle.tbl_reader.proofs.field.without_blanks_before.Goals as goal

pub returns-then-byte-ne32-clause-value : goal.returns-then-byte-ne32-clause-value
returns-then-byte-ne32-clause-value c = grind (arith, common_steps)

pub loop-at-preserved : goal.loop-at-preserved
loop-at-preserved c = grind (arith, common_steps)

pub returns-clause-value : goal.returns-clause-value
returns-clause-value c = grind (arith, common_steps)
