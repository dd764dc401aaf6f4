use Rattle.std.proofs.Common.{rules}
use Rattle.nr_page.proofs.page.room.Goals as goal

pub returns-clause-texts : goal.returns-clause-texts
returns-clause-texts c = search rules
