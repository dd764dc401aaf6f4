use Rattle.nr_formatter.proofs.Hearing.{made-act}
use Rattle.nr_formatter.proofs.formatter.Formatter.take_effect.Goals as goal

-- the request was acted on, and all that has a limit is within it
pub returns-in-Ok-clause-result : goal.returns-in-Ok-clause-result
returns-in-Ok-clause-result c = λ within. made-act c.args.request c.args.self.now c.act.new.self c.in-Ok.ensures.ok c.fit_memory.ensures within
