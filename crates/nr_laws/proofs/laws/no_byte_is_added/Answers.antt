use Rattle.nr_laws.proofs.laws.no_byte_is_added.Goals as goal
use Rattle.nr_laws.proofs.PrintedLaw.{no_byte_is_added, no_high_control_goes_out}

pub returns-clause-bytes : goal.returns-clause-bytes
returns-clause-bytes c = no_byte_is_added

pub returns-clause-controls : goal.returns-clause-controls
returns-clause-controls c = no_high_control_goes_out
