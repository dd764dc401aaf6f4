use Rattle.std.proofs.Common.{refl}
use Rattle.filters.proofs.Telling.{Tells-put}
use Rattle.filters_complaints.proofs.lines.tell_complaints.Goals as goal

pub returns : goal.returns
returns g c =
    Tells-put c.put_lines.result _ _ _ _ _ _ refl c.put_lines.ensures.ok c.put_lines.ensures.err c.put_lines.ensures.failures
