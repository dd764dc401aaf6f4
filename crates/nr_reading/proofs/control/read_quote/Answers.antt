use Rattle.std.proofs.Common.{rules}
use Rattle.nr_reading.proofs.control.read_quote.Goals as goal

pub returns-then-byte-eq34 : goal.returns-then-byte-eq34
returns-then-byte-eq34 c = search rules
