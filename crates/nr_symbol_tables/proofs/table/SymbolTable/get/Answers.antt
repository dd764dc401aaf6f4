use Rattle.std.proofs.lemmas.Grind.{common_steps}
use Rattle.std.proofs.Common.{◌≡◌, ◌-◌, ◌<◌, ap, sym, ◌∙◌, Some, arith}
use Rattle.nr_symbol_tables.specs.Table.{find}
use Rattle.nr_symbol_tables.specs.Rows.{SymbolTable, place_in}
use Rattle.nr_symbol_tables.specs.declared.table.Entry.{Entry}
use Rattle.nr_symbol_tables.proofs.Rows.{found_value, name_is, first_within}
use Rattle.nr_symbol_tables.proofs.table.SymbolTable.get.Goals as goal

pub returns-then-is_same_short : goal.returns-then-is_same_short
returns-then-is_same_short g c =
    let row = c.self.inside.entries.items in
    let same = c.is_same_short.ensures.0 c.if-is_same_short.true in
    let few = c.kind.ensures.few in
    let wide = c.from.ensures in
    let some : 0 < place_in c.self.inside.latest c.from.result = rw c.as_array.ensures at c.if-at-gt0.true in
    let at = place_in c.self.inside.latest c.from.result in
    let within = first_within row c.self.inside.latest c.from.result (omega arith) c.self.invariant.chains in
    let e = c.index-row-at.result in
    let f = c.index-row-at-then-is_same_short.result in
    let is = rw (c.as_slice-row.ensures.value, c.as_array.ensures) at c.index-row-at.is in
    let again = rw (c.as_slice-row.ensures.value, c.as_array.ensures) at c.index-row-at-then-is_same_short.is in
    let name : f.name ≡ c.args.name =
    sym (name_is row (at - 1) f (omega arith) again) ∙ name_is row (at - 1) e (omega arith) is ∙ ap (λ (x : Entry _). x.name) c.index-row-at.is ∙ same.1 in
    sym (sym (ap (λ (t : SymbolTable _). find c.args.name t.entries) c.self.view_is) ∙ found_value row c.args.name (at - 1) f c.self.invariant.apart (omega arith) again name
    ∙ ap (λ (x : Entry _). Some x.value) c.index-row-at-then-is_same_short.is)

pub offset_bounds-row-at : goal.offset_bounds-row-at
offset_bounds-row-at g c = grind (arith, common_steps)

pub bounds-row-at : goal.bounds-row-at
bounds-row-at g c = grind (arith, common_steps)

pub offset_bounds-row-at-then-is_same_short : goal.offset_bounds-row-at-then-is_same_short
offset_bounds-row-at-then-is_same_short g c = grind (arith, common_steps)

pub bounds-row-at-then-is_same_short : goal.bounds-row-at-then-is_same_short
bounds-row-at-then-is_same_short g c = grind (arith, common_steps)

pub bounds-row-at-then-is_same_short-2 : goal.bounds-row-at-then-is_same_short-2
bounds-row-at-then-is_same_short-2 g c = grind (arith, common_steps)
