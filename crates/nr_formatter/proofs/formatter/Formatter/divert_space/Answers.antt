use Rattle.std.proofs.Common.{rules}
use Rattle.nr_formatter.proofs.DivertedFalls.{made_along, falls-diverted_space}
use Rattle.nr_formatter.proofs.formatter.Formatter.divert_space.Goals as goal

pub returns-clause-falls : goal.returns-clause-falls
returns-clause-falls c = λ nothing task. made_along _ c.divert.result (falls-diverted_space c.args.distance c.args.self.now nothing task) (search rules)
