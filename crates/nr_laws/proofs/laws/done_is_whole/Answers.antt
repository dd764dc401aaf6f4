use Rattle.nr_laws.proofs.laws.done_is_whole.Goals as goal
use Rattle.nr_laws.proofs.OutputLaws.{done_is_whole, one_whole}

pub returns-clause-whole : goal.returns-clause-whole
returns-clause-whole c = done_is_whole

pub returns-clause-one : goal.returns-clause-one
returns-clause-one c = one_whole
