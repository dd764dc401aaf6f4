use Rattle.std.proofs.Common.{arith}
use Rattle.std.proofs.lemmas.Grind.{common_steps}
use Rattle.nr_symbol_tables.proofs.word.has_bytes.Goals as goal

pub returns-then-cell-bytes : goal.returns-then-cell-bytes
returns-then-cell-bytes c = grind (arith, common_steps)

pub loop-place-preserved : goal.loop-place-preserved
loop-place-preserved c = grind (arith, common_steps)

pub returns : goal.returns
returns c = grind (arith, common_steps)
