use Rattle.std.proofs.Common.{refl}
use Rattle.program_options.specs.Job.{asked_of}
use Rattle.program_command.specs.Warnings.{tables_job}
use Rattle.program_command.proofs.Warning.{tables-looked}
use Rattle.program_command.proofs.warnings.look_at_tables.Goals as goal

pub returns-in-Some : goal.returns-in-Some
returns-in-Some c =
    tables-looked (tables_job (asked_of c.args.job.now) c.args.kind) c.tables_job.result c.args.page.now c.in-Some.tables _ c.tables_job.ensures
    (λ short. c.read_page-text.ensures.whole _ c.over.ensures.supply refl short) (rw c.in-Some.is at c.in_ok-tables.ensures)
