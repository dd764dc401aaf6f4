use Rattle.std.proofs.Common.{[], subst, sym}
use Rattle.nr_symbol_tables.specs.Hyphenation.{IsChained}
use Rattle.nr_symbol_tables.proofs.Chaining.{chained_none}
use Rattle.nr_symbol_tables.proofs.hyphenation.HyphenationWords.new.Goals as goal

pub invariant_of-result : goal.invariant_of-result
invariant_of-result c = rw c.in_ok-new.ensures.made (subst (IsChained [] []) (sym c.in_ok-new-2.ensures.same) (chained_none 256))
