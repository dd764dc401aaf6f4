use Rattle.nr_input.proofs.Costs.{title_costs}
use Rattle.nr_input.proofs.reader.Reader.begin_title.Goals as goal

pub returns-clause-costs : goal.returns-clause-costs
returns-clause-costs c = rw c.begin_title.ensures (title_costs c.args.self.now.half)
