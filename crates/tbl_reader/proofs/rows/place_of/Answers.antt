use Rattle.std.proofs.Common.{arith}
use Rattle.std.proofs.lemmas.Grind.{common_steps}
use Rattle.tbl_reader.proofs.rows.place_of.Goals as goal

pub returns-then-other-byte-clause-value : goal.returns-then-other-byte-clause-value
returns-then-other-byte-clause-value c = grind (arith, common_steps)

pub loop-other-preserved : goal.loop-other-preserved
loop-other-preserved c = grind (arith, common_steps)

pub returns-clause-value : goal.returns-clause-value
returns-clause-value c = grind (arith, common_steps)
