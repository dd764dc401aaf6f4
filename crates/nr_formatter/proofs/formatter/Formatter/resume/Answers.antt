use Rattle.std.proofs.Common.{rules}
use Rattle.nr_formatter.specs.Springing.{resumed}
use Rattle.nr_formatter.proofs.Falling.{falls-is}
use Rattle.nr_formatter.proofs.InputFalls.{falls-resumed}
use Rattle.nr_formatter.proofs.formatter.Formatter.resume.Goals as goal

pub returns-clause-falls : goal.returns-clause-falls
returns-clause-falls c = λ none read. let f = c.args.self.now in falls-is 0 510 f _ (resumed c.args.resume.now f) (search rules) (falls-resumed c.args.resume.now f none read)
