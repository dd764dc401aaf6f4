use Rattle.std.proofs.Common.{rules}
use Rattle.nr_settings.proofs.specials.Special.cells.Goals as goal

pub returns-in-Dash-clause-value : goal.returns-in-Dash-clause-value
returns-in-Dash-clause-value c = search rules
