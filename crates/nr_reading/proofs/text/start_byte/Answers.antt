use Rattle.std.proofs.Common.{rules}
use Rattle.nr_reading.proofs.text.start_byte.Goals as goal

pub returns-then-byte-signs-2 : goal.returns-then-byte-signs-2
returns-then-byte-signs-2 c = search rules
