use Rattle.std.proofs.Common.{rules}
use Rattle.nr_options.proofs.options.Options.plain.Goals as goal

pub returns-clause-first : goal.returns-clause-first
returns-clause-first c = search rules
