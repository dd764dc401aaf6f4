use Rattle.nr_symbol_tables.proofs.Rows.{linked_none}
use Rattle.nr_symbol_tables.proofs.table.SymbolTable.clear.Goals as goal

pub invariant_of-self : goal.invariant_of-self
invariant_of-self g c = rw (c.clear.ensures.items, c.fill.ensures) (linked_none 512)
