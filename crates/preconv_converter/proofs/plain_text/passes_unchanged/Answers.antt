use Rattle.std.proofs.lemmas.Grind.{common_steps}
use Rattle.std.proofs.Common.{arith}
use Rattle.preconv_converter.proofs.Unchanged.{plain_at_end, plain_steps, plain_unchanged}
use Rattle.preconv_converter.proofs.plain_text.passes_unchanged.Goals as goal

pub returns-clause-law : goal.returns-clause-law
returns-clause-law c = λ _ e. plain_unchanged e c.args.text.now
    (plain_at_end c.args.text.now c.loop-byte.byte-index c.loop-byte.starts (omega arith) c.loop-byte.invariant)

pub returns-clause-steps : goal.returns-clause-steps
returns-clause-steps c = λ _ e. plain_steps e c.args.text.now
    (plain_at_end c.args.text.now c.loop-byte.byte-index c.loop-byte.starts (omega arith) c.loop-byte.invariant)

pub returns-then-not-goes_on-clause-value : goal.returns-then-not-goes_on-clause-value
returns-then-not-goes_on-clause-value c = grind (arith, common_steps)

pub loop-byte-preserved : goal.loop-byte-preserved
loop-byte-preserved c = grind (arith, common_steps)

pub returns-clause-value : goal.returns-clause-value
returns-clause-value c = grind (arith, common_steps)
