use Rattle.std.proofs.Common.{inl, inr}
use Rattle.program_options.specs.Job.{asked_of}
use Rattle.program_plan.specs.Texts.{readings_of}
use Rattle.program_command.proofs.Coming.{Asks-same, Opens-of_run}
use Rattle.program_command.proofs.program.run_job.Goals as goal

pub returns-in-Some-clause-opens : goal.returns-in-Some-clause-opens
returns-in-Some-clause-opens g c =
    let asked = g.O.Opener.asked c.args.opener.now in
    Opens-of_run (g.O.Opener.may_come c.args.opener.now) asked asked (readings_of (asked_of c.args.job.now)) c.say.result.0 c.say.ensures.run (inl (Asks-same asked))

pub returns-in-Some-clause-prints : goal.returns-in-Some-clause-prints
returns-in-Some-clause-prints g c = inr c.say.ensures.passed_on
