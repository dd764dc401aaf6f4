use Rattle.std.proofs.Common.{rules}
use Rattle.nr_page.proofs.selection.Select.all.Goals as goal

pub returns-clause-every : goal.returns-clause-every
returns-clause-every c = search rules
