use Rattle.std.proofs.Common.{rules}
use Rattle.nr_formatter.proofs.DivertedFalls.{falls_along, falls-diverted_end}
use Rattle.nr_formatter.proofs.formatter.Formatter.divert_line_end.Goals as goal

pub returns-in-Ok-clause-falls : goal.returns-in-Ok-clause-falls
returns-in-Ok-clause-falls c = λ nothing task. falls_along (falls-diverted_end c.args.cells c.args.height c.args.self.now nothing task) (search rules)
