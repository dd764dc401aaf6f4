use Rattle.std.proofs.Common.{◌∙◌}
use Rattle.program_options.specs.Job.{asked_of}
use Rattle.program_command.proofs.Warning.{TellsBytes-page}
use Rattle.program_command.proofs.warnings.tell_bytes.Goals as goal

pub returns : goal.returns
returns g c =
    TellsBytes-page c.tell_page_of.result (asked_of c.args.job.now) c.args.looks.coding c.args.name.now c.args.bytes.now _ _ _
    (c.deref.ensures.value ∙ c.in_ok-page.ensures) c.tell_page_of.ensures
