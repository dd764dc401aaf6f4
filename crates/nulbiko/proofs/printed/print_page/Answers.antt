use Rattle.std.proofs.Common.{refl}
use Rattle.nulbiko.proofs.printed.print_page.Goals as goal

pub returns-clause-printed : goal.returns-clause-printed
returns-clause-printed g c short = c.print.ensures.whole _ c.over-text.ensures.supply refl short
