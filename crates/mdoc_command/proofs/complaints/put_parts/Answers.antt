use Rattle.std.proofs.Common.{◌∙◌}
use Rattle.mdoc_command.proofs.Written.{err_is, ok_is, rest_is}
use Rattle.mdoc_command.proofs.complaints.put_parts.Goals as goal

pub returns-clause-ok : goal.returns-clause-ok
returns-clause-ok g c =
    ok_is c.put_all.result _ _ _ _ (rest_is c.args.what.now c.args.between.now _ _ c.args.first c.args.second (c.as_bytes.ensures.value ∙ c.printable-first.ensures.bytes) (c.as_bytes-2.ensures.value ∙ c.printable-second.ensures.bytes)) c.put_all.ensures.ok

pub returns-clause-err : goal.returns-clause-err
returns-clause-err g c =
    err_is c.put_all.result _ _ _ _ (rest_is c.args.what.now c.args.between.now _ _ c.args.first c.args.second (c.as_bytes.ensures.value ∙ c.printable-first.ensures.bytes) (c.as_bytes-2.ensures.value ∙ c.printable-second.ensures.bytes)) c.put_all.ensures.err
