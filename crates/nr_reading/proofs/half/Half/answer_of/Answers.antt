use Rattle.std.proofs.Common.{rules}
use Rattle.nr_reading.proofs.half.Half.answer_of.Goals as goal

pub returns-then-self : goal.returns-then-self
returns-then-self c = search rules
