use Rattle.std.proofs.Common.{rules}
use Rattle.nr_formatter.specs.Lines.{flow_done}
use Rattle.nr_formatter.proofs.WorkFalls.{falls-at}
use Rattle.nr_formatter.proofs.LineFalls.{falls-flow_done}
use Rattle.nr_formatter.proofs.formatter.Formatter.flow_done.Goals as goal

pub returns-clause-falls : goal.returns-clause-falls
returns-clause-falls c = λ breaks event task. falls-at 1 0 c.args.self.now _ (flow_done c.args.after c.args.self.now) (search rules) (falls-flow_done c.args.after breaks c.args.self.now event task)
