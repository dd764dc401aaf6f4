use Rattle.nr_formatter.proofs.WorkFalls.{falls-on_ok}
use Rattle.nr_formatter.proofs.TextFalls.{falls-title_dash_end, falls-dash_end}
use Rattle.nr_formatter.proofs.formatter.Formatter.finish_dash.Goals as goal

pub returns-then-reads_title-clause-falls : goal.returns-then-reads_title-clause-falls
returns-then-reads_title-clause-falls c = λ event task. falls-on_ok 1 0 c.args.self.now _ _ _ c.title_dash_end.ensures.ok (falls-title_dash_end c.args.self.now event task)

pub returns-clause-falls : goal.returns-clause-falls
returns-clause-falls c = λ event task. falls-on_ok 1 0 c.args.self.now _ _ _ c.dash_end.ensures.ok (falls-dash_end c.args.self.now event task)
