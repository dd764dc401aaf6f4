use Rattle.nr_symbol_tables.proofs.Chaining.{chained_none}
use Rattle.nr_symbol_tables.proofs.hyphenation.HyphenationWords.clear.Goals as goal

pub invariant_of-self : goal.invariant_of-self
invariant_of-self c = rw (c.clear.ensures.items, c.fill.ensures) (chained_none 256)
