use Rattle.std.proofs.Common.{◌∙◌, rules}
use Rattle.nr_formatter.specs.Moves.{gone_on}
use Rattle.nr_formatter.specs.Requests.{act}
use Rattle.nr_formatter.proofs.Falling.{falls-is, on_ok}
use Rattle.nr_formatter.proofs.HearingFalls.{ok_line}
use Rattle.nr_formatter.proofs.RequestFalls.{falls-act}
use Rattle.nr_formatter.proofs.TaskFalls.{falls-gone_on}
use Rattle.nr_formatter.proofs.formatter.Formatter.work.Goals as goal

pub returns-in-Dash-clause-falls : goal.returns-in-Dash-clause-falls
returns-in-Dash-clause-falls c = λ none is at_work.
    ok_line c.finish_dash.result c.of_line.result _ c.of_line.ensures (c.finish_dash.ensures.falls none (is ∙ c.in-Dash.is))

pub returns-in-Act-clause-falls : goal.returns-in-Act-clause-falls
returns-in-Act-clause-falls c = λ none is at_work.
    let f = c.args.self.now in
    let r = c.in-Act.request in
    on_ok c.take_effect.result (λ same. falls-is 1 0 f c.take_effect.new.self (act r f) same (falls-act r f none (is ∙ c.in-Act.is))) c.take_effect.ensures.ok

pub returns-in_default-clause-falls : goal.returns-in_default-clause-falls
returns-in_default-clause-falls c = λ none is at_work.
    let f = c.args.self.now in
    falls-is 1 0 f _ (gone_on c.args.task f) (search rules) (falls-gone_on c.args.task f c.in_default.not-Dash c.in_default.not-Act at_work none is)
