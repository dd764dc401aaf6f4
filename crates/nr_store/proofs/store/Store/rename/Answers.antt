use Rattle.std.proofs.Common.{rules}
use Rattle.nr_store.proofs.store.Store.rename.Goals as goal

pub returns-clause-is : goal.returns-clause-is
returns-clause-is g c = search rules
