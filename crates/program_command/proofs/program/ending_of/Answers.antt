use Rattle.std.proofs.Common.{refl}
use Rattle.program_options.specs.Job.{asked_of, texts}
use Rattle.program_options.specs.Reading.{asked}
use Rattle.program_command.proofs.Coming.{Comes-good, Comes-bad}
use Rattle.program_command.proofs.Warning.{asks_not}
use Rattle.program_command.proofs.program.ending_of.Goals as goal

pub returns-in-Ok-clause-comes : goal.returns-in-Ok-clause-comes
returns-in-Ok-clause-comes g c = Comes-good (asked (texts c.args.words.now)) (asked_of c.in-Ok.job) c.args.around.now (g.O.Opener.may_come c.args.opener.now) (g.O.Reaches.texts_in c.args.opener.now) (g.O.Opener.asked c.args.opener.now) (g.O.Opener.asked c.run_job.new.opener) _ _ _ _ _ _ _ c.run_job.result.0 c.in-Ok.ensures c.run_job.ensures.opens c.run_job.ensures.pages c.run_job.ensures.prints

pub returns-in-Ok-clause-silent : goal.returns-in-Ok-clause-silent
returns-in-Ok-clause-silent g c = λ silent.
    c.run_job.ensures.silent (asks_not (asked (texts c.args.words.now)) (asked_of c.in-Ok.job) c.in-Ok.ensures silent)

pub returns-in-Err-clause-comes : goal.returns-in-Err-clause-comes
returns-in-Err-clause-comes g c = Comes-bad (asked (texts c.args.words.now)) c.in-Err.usage c.args.around.now (g.O.Opener.may_come c.args.opener.now) (g.O.Reaches.texts_in c.args.opener.now) (g.O.Opener.asked c.args.opener.now) (g.O.Opener.asked c.args.opener.now) _ _ _ _ _ _ _ c.in-Err.ensures refl refl

pub returns-in-Err-clause-silent : goal.returns-in-Err-clause-silent
returns-in-Err-clause-silent g c = λ _. refl
