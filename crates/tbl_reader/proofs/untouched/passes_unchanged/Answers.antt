use Rattle.std.proofs.lemmas.Grind.{common_steps}
use Rattle.std.proofs.Common.{arith}
use Rattle.tbl_reader.proofs.Tableless.{untouched, untouched_at_end}
use Rattle.tbl_reader.proofs.untouched.passes_unchanged.Goals as goal

pub returns-clause-law : goal.returns-clause-law
returns-clause-law c = λ _ l. untouched l c.args.text.now
    (untouched_at_end c.args.text.now c.loop-i.i c.loop-i.starts (omega arith) c.loop-i.invariant)

pub returns-then-begins_table-clause-value : goal.returns-then-begins_table-clause-value
returns-then-begins_table-clause-value c = grind (arith, common_steps)

pub loop-i-preserved : goal.loop-i-preserved
loop-i-preserved c = grind (arith, common_steps)

pub returns-clause-value : goal.returns-clause-value
returns-clause-value c = grind (arith, common_steps)
