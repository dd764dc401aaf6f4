use Rattle.tbl_command.proofs.Written.{err_is, ok_is, rest_is}
use Rattle.tbl_command.proofs.complaints.put_rest.Goals as goal

pub returns-clause-ok : goal.returns-clause-ok
returns-clause-ok g c = ok_is c.put_all.result _ _ _ _ (rest_is c.args.words.now _ _ c.as_bytes.ensures.value) c.put_all.ensures.ok

pub returns-clause-err : goal.returns-clause-err
returns-clause-err g c = err_is c.put_all.result _ _ _ _ (rest_is c.args.words.now _ _ c.as_bytes.ensures.value) c.put_all.ensures.err
