use Rattle.mdoc_command.proofs.Written.{err_is, ok_is, parts_are}
use Rattle.mdoc_command.proofs.complaints.ComplaintComplains.put.Goals as goal

pub returns-clause-ok : goal.returns-clause-ok
returns-clause-ok g c =
    ok_is c.put_parts.result _ _ _ _ (parts_are c.parts_of-parts.result _ c.parts_of-parts.ensures) c.put_parts.ensures.ok

pub returns-clause-err : goal.returns-clause-err
returns-clause-err g c =
    err_is c.put_parts.result _ _ _ _ (parts_are c.parts_of-parts.result _ c.parts_of-parts.ensures) c.put_parts.ensures.err
