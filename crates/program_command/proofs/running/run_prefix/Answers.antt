use Rattle.std.proofs.Common.{ℕ, List, map, sym, subst, ap, ◌∙◌}
use Rattle.nr_command_options.specs.Files.{files_supply}
use Rattle.program_options.specs.Job.{Asked, asked_of}
use Rattle.program_command.specs.Own.{unshown_of}
use Rattle.program_command.specs.Plan.{kind_of}
use Rattle.program_command.specs.declared.plan.Plan.{Plan}
use Rattle.program_command.specs.Running.{AreMacros, IsReported}
use Rattle.program_command.proofs.Texts.{PrefixGives-of}
use Rattle.program_command.proofs.running.run_prefix.Goals as goal

pub returns-in-Ok-printed-clause-prints : goal.returns-in-Ok-printed-clause-prints
returns-in-Ok-printed-clause-prints g c =
    let job : Asked = asked_of c.args.job.now in
    let ready = c.in-Some.ready in
    let first = c.first-first.result.now in
    let files = files_supply (map g.T.Source.supply c.args.macros.now) in
    let own = rw c.in-Some.is at c.in-Ok.ensures.own in
    let prints = c.print_by_plan-output.ensures.prints first c.first-first.ensures own in
    PrefixGives-of job c.args.around.now files _ first ready.plan c.deref.result.now ready.options c.limits_of.result ready.desk c.in-Ok-printed.report c.ending_of.result
    (g.W.Sink.held c.args.output) (g.W.Sink.held c.print_by_plan-output.result.0) c.first-first.ensures (rw c.in-Some.is at c.in-Ok.ensures.plan)
    (subst (λ (m : List ℕ). AreMacros job (kind_of job first) files m) (sym c.deref.ensures.value) (rw c.in-Some.is at c.in-Ok.ensures.macros))
    (rw c.in-Some.is at c.in-Ok.ensures.options) c.limits_of.ensures (rw c.in-Some.is at c.in-Ok.ensures.limits)
    (rw c.in-Ok-printed.is at prints)
    (λ short. subst (λ (n : List ℕ). IsReported n (unshown_of ready.plan first) c.in-Ok-printed.report c.ending_of.result) c.first_name-name.ensures
    (subst (λ (u : List ℕ). IsReported c.first_name-name.result.now u c.in-Ok-printed.report c.ending_of.result)
    (rw c.in-Some.is at c.in-Ok.ensures.unshown short) c.ending_of.ensures.reported))

pub returns-in-Ok-printed-clause-checks : goal.returns-in-Ok-printed-clause-checks
returns-in-Ok-printed-clause-checks g c checks =
    c.print_by_plan-output.ensures.checks (ap (λ (p : Plan). p.checks) (rw c.in-Some.is at c.in-Ok.ensures.plan) ∙ checks)
