use Rattle.std.proofs.Common.{rules, ◌≡◌, true, subst, ◌∙◌}
use Rattle.program_options.specs.Job.{Asked, asked_of}
use Rattle.program_plan.specs.Before.{BeginsWith, is_of_manual}
use Rattle.program_plan.specs.Prefix.{prefix}
use Rattle.program_plan.specs.declared.macros.Macros.{Macros}
use Rattle.program_command.proofs.running.make_ready.Goals as goal

pub returns-clause-macros : goal.returns-clause-macros
returns-clause-macros g c =
    let job : Asked = asked_of c.args.job.now in
    let whole : c.in_ok-add_all.field-0 ≡ true = search rules in
    record {
      own = c.in_ok-before.before.items;
      begins = subst (λ (k : Macros). BeginsWith (prefix (is_of_manual k) job) c.in_ok-before.before.items) c.kind_of-kind.ensures c.in_ok-before.ensures;
      read = λ q known. c.in_ok-add_all.ensures whole q (c.chain.ensures.supply ∙ known);
    }
