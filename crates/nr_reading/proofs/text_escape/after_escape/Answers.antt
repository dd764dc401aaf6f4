use Rattle.std.proofs.Common.{rules}
use Rattle.nr_reading.proofs.text_escape.after_escape.Goals as goal

pub returns-then-byte-eq99 : goal.returns-then-byte-eq99
returns-then-byte-eq99 c = search rules
