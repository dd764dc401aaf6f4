use Rattle.nr_laws.proofs.laws.no_control_goes_out.Goals as goal
use Rattle.nr_laws.proofs.PrintedLaw.{no_control_goes_out, backspace_strikes}

pub returns-clause-bytes : goal.returns-clause-bytes
returns-clause-bytes c = no_control_goes_out

pub returns-clause-struck : goal.returns-clause-struck
returns-clause-struck c = backspace_strikes
