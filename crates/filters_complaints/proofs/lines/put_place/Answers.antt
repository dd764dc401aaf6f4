use Rattle.filters_complaints.proofs.Written.{err_is, ok_is, place_is}
use Rattle.filters_complaints.proofs.lines.put_place.Goals as goal

pub returns-clause-ok : goal.returns-clause-ok
returns-clause-ok g c =
    ok_is c.put_all.result _ _ _ _ (place_is _ _ _ _ _ _ c.as_bytes.ensures.value c.as_bytes-2.ensures.value c.as_bytes-3.ensures.value) c.put_all.ensures.ok

pub returns-clause-err : goal.returns-clause-err
returns-clause-err g c =
    err_is c.put_all.result _ _ _ _ (place_is _ _ _ _ _ _ c.as_bytes.ensures.value c.as_bytes-2.ensures.value c.as_bytes-3.ensures.value) c.put_all.ensures.err
