use Rattle.std.proofs.Common.{rules}
use Rattle.nr_page.proofs.selection.Select.parse.Goals as goal

pub returns-in-Some-clause-listed : goal.returns-in-Some-clause-listed
returns-in-Some-clause-listed c = search rules
