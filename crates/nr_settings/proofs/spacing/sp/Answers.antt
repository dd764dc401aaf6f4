use Rattle.std.proofs.Common.{rules}
use Rattle.nr_settings.proofs.spacing.sp.Goals as goal

pub returns-in-Some : goal.returns-in-Some
returns-in-Some c = search rules
