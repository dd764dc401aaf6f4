use Rattle.std.proofs.Common.{rules}
use Rattle.nr_reading.proofs.ask.Ask.answer_first.Goals as goal

pub returns-then-long : goal.returns-then-long
returns-then-long c = search rules
