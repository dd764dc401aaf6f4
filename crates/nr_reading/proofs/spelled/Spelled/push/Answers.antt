use Rattle.std.proofs.Common.{rules}
use Rattle.nr_reading.proofs.spelled.Spelled.push.Goals as goal

pub returns-then-is_full : goal.returns-then-is_full
returns-then-is_full c = search rules
