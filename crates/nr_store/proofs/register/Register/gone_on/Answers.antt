use Rattle.std.proofs.Common.{rules}
use Rattle.nr_store.proofs.register.Register.gone_on.Goals as goal

pub returns-then-up : goal.returns-then-up
returns-then-up c = search rules
