use Rattle.std.proofs.Common.{Ok, Err}
use Rattle.nr_command.proofs.program.run_job.Goals as goal

pub returns-in-Ok-clause-ran : goal.returns-in-Ok-clause-ran
returns-in-Ok-clause-ran g c =
    record { end = Ok c.in-Ok.outcome; ended = c.in-Ok.ensures.ends; takes = c.in-Ok.ensures.takes; status_is = c.tell.ensures.status; reported = c.tell.ensures.reported }

pub returns-in-Err-clause-ran : goal.returns-in-Err-clause-ran
returns-in-Err-clause-ran g c =
    record { end = Err c.in-Err.why; ended = c.in-Err.ensures.ends; takes = c.in-Err.ensures.takes; status_is = c.tell_not_run.ensures.status; reported = c.tell_not_run.ensures.reported }
