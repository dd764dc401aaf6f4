use Rattle.std.proofs.Common.{◌-◌, ap, sym, ◌∙◌, map, arith}
use Rattle.std.proofs.lemmas.Option.{get_or_from_slice_get}
use Rattle.nr_symbol_tables.specs.Table.{find}
use Rattle.nr_symbol_tables.specs.Rows.{SymbolTable, named}
use Rattle.nr_symbol_tables.proofs.Naming.{find_in_order}
use Rattle.nr_symbol_tables.proofs.Rows.{found_value, found_none, name_is, length-names}
use Rattle.nr_symbol_tables.proofs.table.SymbolTable.look_up.Goals as goal

pub place_of-at-requires : goal.place_of-at-requires
place_of-at-requires g c = rw (c.as_slice.ensures.value, c.as_array.ensures) c.self.invariant.chains

pub returns-then-at-eq0 : goal.returns-then-at-eq0
returns-then-at-eq0 g c =
    let row = c.self.inside.entries.items in
    let place = rw c.as_slice.ensures.value at c.place_of-at.ensures.is in
    sym (sym (ap (λ (t : SymbolTable _). find c.args.name t.entries) c.self.view_is) ∙ find_in_order c.args.name (map named row) ∙ found_none row c.args.name c.place_of-at.result place c.if-at-eq0.true)

pub get-entry-requires : goal.get-entry-requires
get-entry-requires g c =
    let row = c.self.inside.entries.items in
    let place = rw c.as_slice.ensures.value at c.place_of-at.ensures.is in
    let within = place.within in
    let long = length-names row in
    omega arith

pub returns : goal.returns
returns g c =
    let row = c.self.inside.entries.items in
    let at = c.place_of-at.result in
    let place = rw c.as_slice.ensures.value at c.place_of-at.ensures.is in
    let within = place.within in
    let long = length-names row in
    let e = c.get-entry.result in
    let here = get_or_from_slice_get row (at - 1) e e c.get-entry.ensures in
    sym (sym (ap (λ (t : SymbolTable _). find c.args.name t.entries) c.self.view_is)
    ∙ found_value row c.args.name (at - 1) e c.self.invariant.apart (omega arith) (sym here) (sym (name_is row (at - 1) e (omega arith) (sym here)) ∙ place.is (omega arith)))
