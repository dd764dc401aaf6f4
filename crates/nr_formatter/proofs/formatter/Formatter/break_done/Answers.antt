use Rattle.std.proofs.Common.{rules}
use Rattle.nr_formatter.specs.Lines.{break_done}
use Rattle.nr_formatter.proofs.WorkFalls.{falls-at}
use Rattle.nr_formatter.proofs.LineFalls.{falls-break_done}
use Rattle.nr_formatter.proofs.formatter.Formatter.break_done.Goals as goal

pub returns-clause-falls : goal.returns-clause-falls
returns-clause-falls c = λ event task. falls-at 1 0 c.args.self.now _ (break_done c.args.then c.args.self.now) (search rules) (falls-break_done c.args.then c.args.self.now event task)
