use Rattle.std.proofs.Common.{rules}
use Rattle.nr_fill.proofs.setting.shift_of.Goals as goal

pub returns-in-Centre : goal.returns-in-Centre
returns-in-Centre c = search rules
