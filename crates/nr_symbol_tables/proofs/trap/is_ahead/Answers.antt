use Rattle.std.proofs.Common.{rules}
use Rattle.nr_symbol_tables.proofs.trap.is_ahead.Goals as goal

pub returns-then-place-gtminus1 : goal.returns-then-place-gtminus1
returns-then-place-gtminus1 c = search rules
