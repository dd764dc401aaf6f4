use Rattle.std.proofs.Common.{rules}
use Rattle.nr_settings.proofs.traps.wh.Goals as goal

pub returns-in-None : goal.returns-in-None
returns-in-None c = search rules
