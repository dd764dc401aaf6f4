use Rattle.nr_pool.specs.Exchange.{IsSwapped}
use Rattle.nr_pool.proofs.slot.swap_parts.Given as goal

abbrev pub invariant-loop-k : goal.invariant-loop-k
invariant-loop-k g l = IsSwapped l.initial.elements l.elements l.first l.second l.k
