use Rattle.tbl_command.proofs.Written.{err_is, line_is, ok_is}
use Rattle.tbl_command.proofs.complaints.put_if.Goals as goal

pub returns-then-said-clause-ok : goal.returns-then-said-clause-ok
returns-then-said-clause-ok g c =
    ok_is c.put_all.result _ _ _ _ (line_is _ _ c.args.what.now _ _ c.args.said c.as_bytes.ensures.value c.as_bytes-then-said.ensures.value c.if-said.true) c.put_all.ensures.ok

pub returns-then-said-clause-err : goal.returns-then-said-clause-err
returns-then-said-clause-err g c =
    err_is c.put_all.result _ _ _ _ (line_is _ _ c.args.what.now _ _ c.args.said c.as_bytes.ensures.value c.as_bytes-then-said.ensures.value c.if-said.true) c.put_all.ensures.err
