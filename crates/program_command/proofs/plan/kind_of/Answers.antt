use Rattle.std.proofs.Common.{Bool, ap, ◌∙◌}
use Rattle.program_options.specs.Job.{asked_of}
use Rattle.program_plan.specs.Kinds.{is_manual}
use Rattle.program_plan.specs.Macros.{macros_of}
use Rattle.program_command.proofs.plan.kind_of.Goals as goal

pub returns : goal.returns
returns c =
    c.macros_of.ensures ∙ ap (λ (b : Bool). macros_of b (asked_of c.args.job.now)) (c.is_manual.ensures ∙ ap is_manual c.first_of.ensures)
