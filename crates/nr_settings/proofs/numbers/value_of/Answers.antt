use Rattle.std.proofs.Common.{sym, rules}
use Rattle.nr_settings.specs.Numbers.{context}
use Rattle.nr_settings.proofs.PlainNumbers.{no_bytes}
use Rattle.nr_settings.proofs.numbers.value_of.Goals as goal

pub returns-in-Some-clause-value : goal.returns-in-Some-clause-value
returns-in-Some-clause-value c = search rules

pub returns-in-None-clause-value : goal.returns-in-None-clause-value
returns-in-None-clause-value c = search rules

pub returns-then-is_empty-clause-value : goal.returns-then-is_empty-clause-value
returns-then-is_empty-clause-value c = sym (no_bytes (context c.args.scale c.args.v c.args.here) c.args.argument.now (search rules))
