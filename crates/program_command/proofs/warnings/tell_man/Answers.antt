use Rattle.program_command.proofs.Warning.{man-none, man-reported}
use Rattle.program_command.proofs.warnings.tell_man.Goals as goal

pub returns-in-Manual : goal.returns-in-Manual
returns-in-Manual g c =
    man-reported c.tell_page.result c.args.kind c.args.name.now c.args.page.now _ _ _ _ c.in-Manual.is c.tell_page.ensures.reported

pub returns-in_default : goal.returns-in_default
returns-in_default g c = man-none c.args.kind c.args.name.now c.args.page.now _ c.in_default.not-Manual
