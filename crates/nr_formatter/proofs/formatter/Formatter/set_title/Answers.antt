use Rattle.std.proofs.Common.{rules}
use Rattle.nr_formatter.specs.Titles.{title_set}
use Rattle.nr_formatter.proofs.WorkFalls.{falls-at}
use Rattle.nr_formatter.proofs.LineFalls.{falls-title_set}
use Rattle.nr_formatter.proofs.formatter.Formatter.set_title.Goals as goal

pub returns-clause-falls : goal.returns-clause-falls
returns-clause-falls g c = λ event task. falls-at 5 0 c.args.self.now _ (title_set c.args.self.now) (search rules) (falls-title_set c.args.self.now event task)
