use Rattle.nr_input.proofs.Costs.{judged_costs}
use Rattle.nr_input.proofs.reader.Reader.accept.Goals as goal

pub returns-clause-costs : goal.returns-clause-costs
returns-clause-costs c = rw c.judge.ensures (judged_costs c.args.holds c.args.self.now.half)
