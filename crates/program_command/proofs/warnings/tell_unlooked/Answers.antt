use Rattle.std.proofs.Common.{ap}
use Rattle.filters.proofs.Telling.{Tells-put}
use Rattle.program_command.specs.Warnings.{unlooked}
use Rattle.program_command.proofs.warnings.tell_unlooked.Goals as goal

pub returns : goal.returns
returns g c =
    Tells-put c.put_all.result _ _ _ _ _ _ (ap unlooked c.as_bytes.ensures.value) c.put_all.ensures.ok c.put_all.ensures.err c.put_all.ensures.failures
