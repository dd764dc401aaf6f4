use Rattle.std.proofs.Common.{refl}
use Rattle.program_command.proofs.own.count_prefix.Goals as goal

pub returns-clause-counted : goal.returns-clause-counted
returns-clause-counted c short few =
    c.counted.ensures.items _ (c.skim_page-text.ensures _ c.over.ensures.supply refl short) refl few
