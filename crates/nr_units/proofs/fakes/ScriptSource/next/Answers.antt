use Rattle.std.proofs.Common.{rules}
use Rattle.nr_units.proofs.fakes.ScriptSource.next.Goals as goal

pub returns-then-left-eq0-clause-gives : goal.returns-then-left-eq0-clause-gives
returns-then-left-eq0-clause-gives c = search rules
