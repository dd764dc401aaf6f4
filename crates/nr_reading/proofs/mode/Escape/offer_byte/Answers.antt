use Rattle.std.proofs.Common.{rules}
use Rattle.nr_reading.proofs.mode.Escape.offer_byte.Goals as goal

pub returns-then-byte-eq10 : goal.returns-then-byte-eq10
returns-then-byte-eq10 c = search rules
