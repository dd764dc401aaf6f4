use Rattle.nr_laws.proofs.laws.limits_cut.Goals as goal
use Rattle.nr_laws.proofs.OutputLaws.{limits_cut, limits_cut_output}

pub returns-clause-after : goal.returns-clause-after
returns-clause-after c = limits_cut

pub returns-clause-output : goal.returns-clause-output
returns-clause-output c = limits_cut_output
