use Rattle.program_options.specs.Job.{asked_of}
use Rattle.program_command.proofs.Warning.{page-reported}
use Rattle.program_command.proofs.warnings.tell_page_of.Goals as goal

pub returns : goal.returns
returns g c = λ short.
    page-reported (asked_of c.args.job.now) c.args.name.now c.args.page.now c.kind_of-kind.result c.in_ok-tables.tables _ _ _ _ c.kind_of-kind.ensures
    c.in_ok-tell_macros.ensures c.in_ok-tell_man.ensures c.in_ok-tables.ensures c.tell_tables.ensures short
