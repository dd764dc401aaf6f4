use Rattle.nr_laws.proofs.laws.limits_unmet.Goals as goal
use Rattle.nr_laws.proofs.OutputLaws.{limits_unmet}

pub returns : goal.returns
returns c = limits_unmet
