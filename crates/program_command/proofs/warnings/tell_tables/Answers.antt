use Rattle.std.proofs.Common.{refl}
use Rattle.program_command.proofs.Warning.{TellsEach-one}
use Rattle.program_command.proofs.warnings.tell_tables.Goals as goal

pub returns-in-Some : goal.returns-in-Some
returns-in-Some g c = rw c.in-Some.is (TellsEach-one _ _ _ _ _ (rw c.deref.ensures.value at c.tell_complaints.ensures))

pub returns-in-None : goal.returns-in-None
returns-in-None g c = rw c.in-None.is refl
