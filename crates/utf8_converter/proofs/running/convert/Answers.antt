use Rattle.utf8_converter.proofs.Runs.{ran-of}
use Rattle.utf8_converter.proofs.running.convert.Goals as goal

pub returns-clause-ran : goal.returns-clause-ran
returns-clause-ran g c =
    ran-of c.args.table c.args.escapes _ _ _ _ _ _ _ _ _ c.run-outcome.result c.new-text.ensures.says c.new-text.ensures.counts c.new-text.ensures.wants c.strays.ensures.counted c.run-outcome.ensures.ran
