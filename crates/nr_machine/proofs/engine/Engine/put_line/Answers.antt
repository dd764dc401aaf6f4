use Rattle.std.proofs.Common.{rules}
use Rattle.nr_machine.proofs.engine.Engine.put_line.Goals as goal

pub returns-in-Room-clause-works : goal.returns-in-Room-clause-works
returns-in-Room-clause-works g c = search rules
