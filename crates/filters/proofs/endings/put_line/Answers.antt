use Rattle.filters.proofs.Telling.{Tells-put, reported_is}
use Rattle.filters.proofs.endings.put_line.Goals as goal

pub returns : goal.returns
returns g c =
    let is = reported_is _ _ _ _ _ _ c.as_bytes.ensures.value c.as_bytes-2.ensures.value c.as_bytes-3.ensures.value in
    Tells-put c.put_all.result _ _ _ _ _ _ is c.put_all.ensures.ok c.put_all.ensures.err c.put_all.ensures.failures
