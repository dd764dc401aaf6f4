use Rattle.std.proofs.lemmas.Grind.{common_steps}
use Rattle.std.proofs.Common.{◌≡◌, ◌+◌, ◌-◌, ◌∷◌, [], length, map, List, ap, sym, ◌∙◌, refl, arith, length-append}
use Rattle.std.proofs.lemmas.List.{length-map, map-append, map-set}
use Rattle.std.proofs.lemmas.Option.{get_or_from_slice_get}
use Rattle.nr_symbol_tables.specs.Table.{Named, find, put}
use Rattle.nr_symbol_tables.specs.Rows.{SymbolTable, named, in_order, place_in}
use Rattle.nr_symbol_tables.specs.declared.table.Entry.{Entry}
use Rattle.nr_symbol_tables.proofs.Naming.{find_in_order, in_order_more, in_order_set, length-in_order}
use Rattle.nr_symbol_tables.proofs.Rows.{found_value, found_none, name_is, length-names, linked_more, linked_set}
use Rattle.nr_symbol_tables.proofs.table.SymbolTable.put.Goals as goal

pub place_of-at-requires : goal.place_of-at-requires
place_of-at-requires g c = rw (c.as_slice.ensures.value, c.as_array.ensures) c.self.invariant.chains

pub returns-then-at-eq0-clause-was : goal.returns-then-at-eq0-clause-was
returns-then-at-eq0-clause-was g c =
    let row = c.self.inside.entries.items in
    let place = rw c.as_slice.ensures.value at c.place_of-at.ensures.is in
    sym (sym (ap (λ (t : SymbolTable _). find c.args.name t.entries) c.self.view_is) ∙ find_in_order c.args.name (map named row) ∙ found_none row c.args.name c.place_of-at.result place c.if-at-eq0.true)

pub returns-then-at-eq0-clause-is : goal.returns-then-at-eq0-clause-is
returns-then-at-eq0-clause-is g c =
    let row = c.self.inside.entries.items in
    let place = rw c.as_slice.ensures.value at c.place_of-at.ensures.is in
    let none = found_none row c.args.name c.place_of-at.result place c.if-at-eq0.true in
    let new : Entry _ = record { name = c.args.name; value = c.args.value; earlier = place_in c.self.inside.latest c.kind_of-kind.result } in
    let room = c.self.inside.entries.capacity in
    rw (c.push.ensures.items, c.push.ensures.room, c.as_array-then-at-eq0.ensures)
    (ap (λ (ns : List (Named _)). record { entries = in_order ns; capacity = room }) (map-append named row (new ∷ []))
    ∙ ap (λ (ns : List (Named _)). record { entries = ns; capacity = room }) (in_order_more c.args.name c.args.value (map named row) none)
    ∙ ap (λ (t : SymbolTable _). record { entries = put c.args.name c.args.value t.entries; capacity = t.capacity }) c.self.view_is)

pub push-requires : goal.push-requires
push-requires g c =
    let row = c.self.inside.entries.items in
    let place = rw c.as_slice.ensures.value at c.place_of-at.ensures.is in
    let none = found_none row c.args.name c.place_of-at.result place c.if-at-eq0.true in
    let room = c.requires (sym (ap (λ (t : SymbolTable _). find c.args.name t.entries) c.self.view_is) ∙ find_in_order c.args.name (map named row) ∙ none) in
    let long : length (in_order (map named row)) ≡ length c.args.self.now.entries = ap (λ (t : SymbolTable _). length t.entries) c.self.view_is in
    let count = length-in_order (map named row) c.self.invariant.apart in
    let mapped = length-map row named in
    let same_room : c.self.inside.entries.capacity ≡ c.args.self.now.capacity = ap (λ (t : SymbolTable _). t.capacity) c.self.view_is in
    omega arith

pub invariant_of-self : goal.invariant_of-self
invariant_of-self g c =
    let row = c.self.inside.entries.items in
    let place = rw c.as_slice.ensures.value at c.place_of-at.ensures.is in
    let none = found_none row c.args.name c.place_of-at.result place c.if-at-eq0.true in
    let ls = c.self.inside.latest in
    let d = c.kind_of-kind.result in
    let new : Entry _ = record { name = c.args.name; value = c.args.value; earlier = place_in ls d } in
    let low = rw c.as_array.ensures at c.place_of-at.ensures.long in
    let few = c.kind_of-kind.ensures.few in
    let pushed = rw c.as_array-then-at-eq0.ensures at c.push.ensures.items in
    let latest_is = c.set.ensures in
    let count : c.len.result ≡ length row + 1 = c.len.ensures.value ∙ ap length pushed ∙ length-append row (new ∷ []) in
    rw (c.push.ensures.items, c.as_array-then-at-eq0.ensures, latest_is) (linked_more row ls new d c.len.result c.kind_of-kind.ensures.is (omega arith) refl count none c.self.invariant)

pub get-was-requires : goal.get-was-requires
get-was-requires g c =
    let row = c.self.inside.entries.items in
    let place = rw c.as_slice.ensures.value at c.place_of-at.ensures.is in
    let within = place.within in
    let long = length-names row in
    omega arith

pub returns-clause-was : goal.returns-clause-was
returns-clause-was g c =
    let row = c.self.inside.entries.items in
    let at = c.place_of-at.result in
    let place = rw c.as_slice.ensures.value at c.place_of-at.ensures.is in
    let within = place.within in
    let long = length-names row in
    let e = c.get-was.result in
    let here = get_or_from_slice_get row (at - 1) e e c.get-was.ensures in
    sym (sym (ap (λ (t : SymbolTable _). find c.args.name t.entries) c.self.view_is)
    ∙ found_value row c.args.name (at - 1) e c.self.invariant.apart (omega arith) (sym here) (sym (name_is row (at - 1) e (omega arith) (sym here)) ∙ place.is (omega arith)))

pub returns-clause-is : goal.returns-clause-is
returns-clause-is g c =
    let row = c.self.inside.entries.items in
    let at = c.place_of-at.result in
    let place = rw c.as_slice.ensures.value at c.place_of-at.ensures.is in
    let within = place.within in
    let long = length-names row in
    let mapped = length-map row named in
    let new : Entry _ = record { name = c.args.name; value = c.args.value; earlier = c.get-was.result.earlier } in
    let room = c.self.inside.entries.capacity in
    rw (c.set-2.ensures.items, c.set-2.ensures.room)
    (ap (λ (ns : List (Named _)). record { entries = in_order ns; capacity = room }) (map-set named row (at - 1) new)
    ∙ ap (λ (ns : List (Named _)). record { entries = ns; capacity = room }) (in_order_set c.args.name c.args.value (map named row) (at - 1) c.self.invariant.apart (omega arith) (place.is (omega arith)))
    ∙ ap (λ (t : SymbolTable _). record { entries = put c.args.name c.args.value t.entries; capacity = t.capacity }) c.self.view_is)

pub invariant_of-self-2 : goal.invariant_of-self-2
invariant_of-self-2 g c =
    let row = c.self.inside.entries.items in
    let at = c.place_of-at.result in
    let place = rw c.as_slice.ensures.value at c.place_of-at.ensures.is in
    let within = place.within in
    let long = length-names row in
    let e = c.get-was.result in
    let here = get_or_from_slice_get row (at - 1) e e c.get-was.ensures in
    let new : Entry _ = record { name = c.args.name; value = c.args.value; earlier = e.earlier } in
    rw c.set-2.ensures.items (linked_set row c.self.inside.latest (at - 1) e new (omega arith) (sym here) (sym (sym (name_is row (at - 1) e (omega arith) (sym here)) ∙ place.is (omega arith))) refl c.self.invariant)

pub set-requires-2 : goal.set-requires-2
set-requires-2 g c = grind (arith, common_steps)
