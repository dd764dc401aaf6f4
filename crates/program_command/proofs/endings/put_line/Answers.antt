use Rattle.filters.proofs.Telling.{Tells-put}
use Rattle.program_command.proofs.Telling.{reported_is}
use Rattle.program_command.proofs.endings.put_line.Goals as goal

pub returns : goal.returns
returns g c =
    Tells-put c.put_all.result _ _ _ _ _ _ (reported_is _ _ _ _ c.as_bytes.ensures.value c.as_bytes-2.ensures.value)
    c.put_all.ensures.ok c.put_all.ensures.err c.put_all.ensures.failures
