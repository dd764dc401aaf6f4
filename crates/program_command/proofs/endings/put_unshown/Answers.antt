use Rattle.filters.proofs.Telling.{Tells-put}
use Rattle.program_command.proofs.Telling.{unshown_is}
use Rattle.program_command.proofs.endings.put_unshown.Goals as goal

pub returns : goal.returns
returns g c =
    Tells-put c.put_all.result _ _ _ _ _ _ (unshown_is _ _ c.args.names.now c.as_bytes.ensures.value)
    c.put_all.ensures.ok c.put_all.ensures.err c.put_all.ensures.failures
