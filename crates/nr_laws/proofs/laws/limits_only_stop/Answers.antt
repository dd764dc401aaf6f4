use Rattle.nr_laws.proofs.laws.limits_only_stop.Goals as goal
use Rattle.nr_laws.proofs.OutputLaws.{limits_only_stop, no_limit_asked}

pub returns-clause-states : goal.returns-clause-states
returns-clause-states c = limits_only_stop

pub returns-clause-unasked : goal.returns-clause-unasked
returns-clause-unasked c = no_limit_asked
