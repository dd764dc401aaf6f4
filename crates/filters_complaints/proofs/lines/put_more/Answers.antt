use Rattle.std.proofs.Common.{rules, ◌≡◌, true}
use Rattle.filters_complaints.proofs.Written.{err_is, more_is, ok_is}
use Rattle.filters_complaints.proofs.lines.put_more.Goals as goal

pub returns-clause-ok : goal.returns-clause-ok
returns-clause-ok g c =
    let missed : c.args.missed ≡ true = search rules in
    ok_is c.put_all.result _ _ _ _ (more_is _ _ _ _ c.args.missed c.as_bytes.ensures.value c.as_bytes-2.ensures.value missed) c.put_all.ensures.ok

pub returns-clause-err : goal.returns-clause-err
returns-clause-err g c =
    let missed : c.args.missed ≡ true = search rules in
    err_is c.put_all.result _ _ _ _ (more_is _ _ _ _ c.args.missed c.as_bytes.ensures.value c.as_bytes-2.ensures.value missed) c.put_all.ensures.err
