use Rattle.std.proofs.Common.{rules}
use Rattle.nr_input.proofs.moving.heard_of.Goals as goal

pub returns-in-Resume : goal.returns-in-Resume
returns-in-Resume c = search rules
