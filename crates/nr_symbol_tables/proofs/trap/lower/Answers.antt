use Rattle.std.proofs.Common.{rules}
use Rattle.nr_symbol_tables.proofs.trap.lower.Goals as goal

pub returns-then-trap-first : goal.returns-then-trap-first
returns-then-trap-first c = search rules
