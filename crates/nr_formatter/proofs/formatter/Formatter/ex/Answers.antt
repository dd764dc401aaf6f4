use Rattle.std.proofs.Common.{rules}
use Rattle.nr_formatter.specs.Ending.{ex}
use Rattle.nr_formatter.proofs.Falling.{falls-is}
use Rattle.nr_formatter.proofs.RequestFalls.{falls-ex}
use Rattle.nr_formatter.proofs.formatter.Formatter.ex.Goals as goal

pub returns-clause-falls : goal.returns-clause-falls
returns-clause-falls c = λ none act. let f = c.args.self.now in falls-is 1 0 f _ (ex f) (search rules) (falls-ex f none act)
