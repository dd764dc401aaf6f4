use Rattle.std.proofs.Common.{inl, refl}
use Rattle.nr_command_options.specs.Inputs.{readings}
use Rattle.nr_command_options.specs.Job.{asked_of as texts_asked}
use Rattle.program_options.specs.Job.{asked_of}
use Rattle.program_plan.specs.Texts.{readings_of}
use Rattle.program_command.proofs.Coming.{ComesTo-run, ComesTo-unopened, Opens-memory, Opens-none, Opens-refused, Opens-run}
use Rattle.program_command.proofs.program.format_job.Goals as goal

pub returns-in-Ok-open_all-clause-opens : goal.returns-in-Ok-open_all-clause-opens
returns-in-Ok-open_all-clause-opens g c =
    Opens-run (g.O.Opener.may_come c.args.opener.now) (g.O.Opener.asked c.args.opener.now) (g.O.Opener.asked c.open_all.new.opener)
    (readings (texts_asked c.texts_of-texts.result)) (readings_of (asked_of c.args.job.now)) c.run_warned.result.0 c.texts_of-texts.ensures c.run_warned.ensures.run
    c.in-Ok-open_all.ensures.asked

pub returns-in-Ok-open_all-clause-pages : goal.returns-in-Ok-open_all-clause-pages
returns-in-Ok-open_all-clause-pages g c =
    ComesTo-run (g.O.Opener.may_come c.args.opener.now) (g.O.Reaches.texts_in c.args.opener.now) (asked_of c.args.job.now) c.args.around.now (readings (texts_asked c.texts_of-texts.result)) _
    c.in-Ok.ready.0.coding _ c.run_warned.result.0 _ _ _ _ c.texts_of-texts.ensures
    c.in-Ok-open_all.ensures.opened c.in-Ok.ensures.read.coding c.in-Ok.ensures.folder c.run_warned.ensures.comes

pub returns-in-CannotOpen-clause-opens : goal.returns-in-CannotOpen-clause-opens
returns-in-CannotOpen-clause-opens g c =
    Opens-refused (g.O.Opener.may_come c.args.opener.now) (g.O.Opener.asked c.args.opener.now) (g.O.Opener.asked c.open_all.new.opener)
    (readings (texts_asked c.texts_of-texts.result)) (readings_of (asked_of c.args.job.now)) c.in-CannotOpen.input c.texts_of-texts.ensures
    (rw c.in-CannotOpen.is at c.in-Err-open_all.ensures.refused)

pub returns-in-Ok-clause-opens : goal.returns-in-Ok-clause-opens
returns-in-Ok-clause-opens g c =
    Opens-memory (g.O.Opener.may_come c.args.opener.now) (g.O.Opener.asked c.args.opener.now) (g.O.Opener.asked c.open_all.new.opener)
    (readings (texts_asked c.texts_of-texts.result)) (readings_of (asked_of c.args.job.now)) c.texts_of-texts.ensures
    (rw c.in-OutOfMemory.is at c.in-Err-open_all.ensures.refused)

pub returns-clause-opens : goal.returns-clause-opens
returns-clause-opens g c =
    Opens-none (g.O.Opener.may_come c.args.opener.now) (g.O.Opener.asked c.args.opener.now) (readings_of (asked_of c.args.job.now)) c.in-Err.ending c.in-Err.ensures.unopened

pub returns-clause-pages : goal.returns-clause-pages
returns-clause-pages g c =
    ComesTo-unopened (g.O.Opener.may_come c.args.opener.now) (g.O.Reaches.texts_in c.args.opener.now) (asked_of c.args.job.now) c.args.around.now c.in-Err.ending
    (g.W.Sink.held c.args.output) _ _ c.in-Err.ensures.unopened

pub returns-clause-prints : goal.returns-clause-prints
returns-clause-prints g c = inl refl
