use Rattle.nr_laws.proofs.laws.limits_are_exact.Goals as goal
use Rattle.nr_laws.proofs.ExactRuns.{limits_are_exact}

pub returns : goal.returns
returns c = limits_are_exact
