use Rattle.nr_input.proofs.Costs.{stand_costs}
use Rattle.nr_input.proofs.reader.Reader.stand.Goals as goal

pub returns-clause-costs : goal.returns-clause-costs
returns-clause-costs c = rw c.stand.ensures (stand_costs c.args.standing c.args.self.now.half)
