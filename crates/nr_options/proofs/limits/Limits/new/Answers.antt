use Rattle.std.proofs.Common.{rules}
use Rattle.nr_options.proofs.limits.Limits.new.Goals as goal

pub returns-then-not-good-clause-ranges : goal.returns-then-not-good-clause-ranges
returns-then-not-good-clause-ranges c = search rules
