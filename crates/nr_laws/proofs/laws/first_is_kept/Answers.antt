use Rattle.nr_laws.proofs.laws.first_is_kept.Goals as goal
use Rattle.nr_machine.proofs.FirstBytes.{first_is_kept}

pub returns : goal.returns
returns c = first_is_kept
