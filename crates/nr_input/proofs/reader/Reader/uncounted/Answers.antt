use Rattle.std.proofs.Common.{rules}
use Rattle.nr_input.proofs.reader.Reader.uncounted.Goals as goal

pub returns-in-Begin-Begun : goal.returns-in-Begin-Begun
returns-in-Begin-Begun c = search rules
