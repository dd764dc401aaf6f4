use Rattle.std.proofs.lemmas.Grind.{common_steps}
use Rattle.std.proofs.Common.{sym, ◌∙◌, arith}
use Rattle.mdoc_converter.proofs.Unchanged.{other_at_end, other_unchanged}
use Rattle.mdoc_converter.proofs.passing.passes_unchanged.Goals as goal

pub returns-clause-law : goal.returns-clause-law
returns-clause-law c = λ e. other_unchanged c.args.text.now
    (other_at_end c.args.text.now c.loop-byte.byte-index c.loop-byte.scan (omega arith) c.loop-byte.invariant (sym c.is_some.ensures ∙ e))

pub loop-byte-preserved : goal.loop-byte-preserved
loop-byte-preserved c = grind (arith, common_steps)

pub returns-clause-value : goal.returns-clause-value
returns-clause-value c = grind (arith, common_steps)
