use Rattle.std.proofs.Common.{length, map, ap, sym, ◌∙◌}
use Rattle.std.proofs.lemmas.List.{length-map}
use Rattle.nr_symbol_tables.specs.Rows.{SymbolTable, named}
use Rattle.nr_symbol_tables.proofs.Naming.{length-in_order}
use Rattle.nr_symbol_tables.proofs.table.SymbolTable.len.Goals as goal

pub returns : goal.returns
returns g c =
    let row = c.self.inside.entries.items in
    c.len.ensures.value ∙ sym (length-map row named) ∙ sym (length-in_order (map named row) c.self.invariant.apart) ∙ ap (λ (t : SymbolTable _). length t.entries) c.self.view_is
