use Rattle.std.proofs.Common.{rules}
use Rattle.nr_settings.proofs.indents.Indents.in_.Goals as goal

pub returns : goal.returns
returns c = search rules
