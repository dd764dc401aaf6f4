use Rattle.std.proofs.Common.{refl}
use Rattle.filters.proofs.Telling.{Tells-put}
use Rattle.tbl_command.proofs.complaints.tell_complaints.Goals as goal

pub returns-then-report : goal.returns-then-report
returns-then-report g c = Tells-put c.put_reported.result _ _ _ _ _ _ refl c.put_reported.ensures.ok c.put_reported.ensures.err c.put_reported.ensures.failures

pub returns-else-report : goal.returns-else-report
returns-else-report g c = Tells-put c.put_reported.result _ _ _ _ _ _ refl c.put_reported.ensures.ok c.put_reported.ensures.err c.put_reported.ensures.failures
