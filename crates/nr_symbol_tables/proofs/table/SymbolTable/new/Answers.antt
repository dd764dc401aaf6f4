use Rattle.std.proofs.Common.{[], subst, sym}
use Rattle.nr_symbol_tables.specs.Rows.{IsLinked}
use Rattle.nr_symbol_tables.proofs.Rows.{linked_none}
use Rattle.nr_symbol_tables.proofs.table.SymbolTable.new.Goals as goal

pub invariant_of-result : goal.invariant_of-result
invariant_of-result g c = rw c.in_ok-new.ensures.made (subst (IsLinked []) (sym c.in_ok-new-2.ensures.same) (linked_none 512))
