use Rattle.std.proofs.Common.{rules}
use Rattle.nr_settings.proofs.tabs.place_of.Goals as goal

pub returns-then-relative-clause-value : goal.returns-then-relative-clause-value
returns-then-relative-clause-value c = search rules
