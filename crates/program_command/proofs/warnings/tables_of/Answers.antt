use Rattle.std.proofs.Common.{sym, ◌∙◌}
use Rattle.document_printing.specs.Tables.{has_tables}
use Rattle.program_options.specs.Job.{asked_of}
use Rattle.program_command.specs.Warnings.{tables_job}
use Rattle.program_command.proofs.Warning.{tables-none, tables-some}
use Rattle.program_command.proofs.warnings.tables_of.Goals as goal

pub returns-then-not-has_tables : goal.returns-then-not-has_tables
returns-then-not-has_tables c = λ short.
    tables-none (has_tables c.args.page.now) (tables_job (asked_of c.args.job.now) c.args.kind) c.args.page.now (sym c.has_tables.ensures ∙ c.if-not-has_tables.true)

pub returns : goal.returns
returns c = λ short.
    tables-some (has_tables c.args.page.now) (tables_job (asked_of c.args.job.now) c.args.kind) c.args.page.now c.in_ok-tables.tables
    (sym c.has_tables.ensures ∙ c.if-not-has_tables.false) (c.in_ok-tables.ensures short)
