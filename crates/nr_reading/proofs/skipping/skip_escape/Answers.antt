use Rattle.std.proofs.Common.{rules}
use Rattle.nr_reading.proofs.skipping.skip_escape.Goals as goal

pub returns-in-Byte : goal.returns-in-Byte
returns-in-Byte c = search rules
