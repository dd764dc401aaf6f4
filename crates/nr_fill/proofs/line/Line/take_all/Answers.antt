use Rattle.std.proofs.Common.{rules}
use Rattle.nr_fill.proofs.line.Line.take_all.Goals as goal

pub returns-clause-width : goal.returns-clause-width
returns-clause-width g c = search rules
