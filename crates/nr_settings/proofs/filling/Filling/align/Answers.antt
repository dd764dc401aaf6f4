use Rattle.std.proofs.Common.{rules}
use Rattle.nr_settings.proofs.filling.Filling.align.Goals as goal

pub returns-in-Both : goal.returns-in-Both
returns-in-Both c = search rules
