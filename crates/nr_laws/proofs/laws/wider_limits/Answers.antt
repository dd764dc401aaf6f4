use Rattle.nr_laws.proofs.laws.wider_limits.Goals as goal
use Rattle.nr_laws.proofs.OutputLaws.{wider_limits}

pub returns : goal.returns
returns c = wider_limits
