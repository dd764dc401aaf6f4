use Rattle.program_command.proofs.Warning.{macros-none, macros-reported}
use Rattle.program_command.proofs.warnings.tell_macros.Goals as goal

pub returns-in-Manual : goal.returns-in-Manual
returns-in-Manual g c =
    macros-reported c.tell_page.result c.args.kind c.args.name.now c.args.page.now _ _ _ _ c.in-Manual.is c.tell_page.ensures.reported

pub returns-in_default : goal.returns-in_default
returns-in_default g c = macros-none c.args.kind c.args.name.now c.args.page.now _ c.in_default.not-Manual
