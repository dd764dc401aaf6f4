use Rattle.std.proofs.lemmas.Grind.{common_steps}
use Rattle.std.proofs.Common.{◌≡◌, ◌-◌, map, List, None, ap, sym, ◌∙◌, subst, arith}
use Rattle.std.proofs.lemmas.Option.{get_or_from_slice_get}
use Rattle.nr_symbol_tables.specs.Table.{Named, find, without}
use Rattle.nr_symbol_tables.specs.Rows.{SymbolTable, named, names, in_order, name_in}
use Rattle.nr_symbol_tables.proofs.Naming.{find_in_order, in_order_kept, find-without_same, ascends-in_order}
use Rattle.nr_symbol_tables.proofs.Rows.{found_value, found_none, name_is, length-names, length-rest, removed_last, removed_other, replaced_apart, linked_rest}
use Rattle.nr_symbol_tables.proofs.table.SymbolTable.remove.Goals as goal

pub place_of-at-requires : goal.place_of-at-requires
place_of-at-requires g c = rw (c.as_slice.ensures.value, c.as_array.ensures) c.self.invariant.chains

pub returns-then-at-eq0-clause-was : goal.returns-then-at-eq0-clause-was
returns-then-at-eq0-clause-was g c =
    let row = c.self.inside.entries.items in
    let place = rw c.as_slice.ensures.value at c.place_of-at.ensures.is in
    sym (sym (ap (λ (t : SymbolTable _). find c.args.name t.entries) c.self.view_is) ∙ find_in_order c.args.name (map named row) ∙ found_none row c.args.name c.place_of-at.result place c.if-at-eq0.true)

pub returns-then-at-eq0-clause-is : goal.returns-then-at-eq0-clause-is
returns-then-at-eq0-clause-is g c =
    let row = c.self.inside.entries.items in
    let place = rw c.as_slice.ensures.value at c.place_of-at.ensures.is in
    let none = found_none row c.args.name c.place_of-at.result place c.if-at-eq0.true in
    sym c.self.view_is ∙ ap (λ (ns : List (Named _)). record { entries = ns; capacity = c.self.inside.entries.capacity }) (in_order_kept c.args.name (map named row) none)
    ∙ ap (λ (t : SymbolTable _). record { entries = without c.args.name t.entries; capacity = t.capacity }) c.self.view_is

pub returns-then-at-eq0-clause-gone : goal.returns-then-at-eq0-clause-gone
returns-then-at-eq0-clause-gone g c = sym (returns-then-at-eq0-clause-was g c)

-- ---- the name is there

pub get-was-requires : goal.get-was-requires
get-was-requires g c =
    let row = c.self.inside.entries.items in
    let place = rw c.as_slice.ensures.value at c.place_of-at.ensures.is in
    let within = place.within in
    let long = length-names row in
    omega arith

pub replace-requires-clause-within : goal.replace-requires-clause-within
replace-requires-clause-within g c =
    let row = c.self.inside.entries.items in
    let count = c.len-last.ensures.value in
    let some = c.if-at-eq0.false in
    let moved = c.get-moved.result in
    let last = get_or_from_slice_get row (c.len-last.result - 1) moved moved c.get-moved.ensures in
    let long = length-rest row moved (c.len-last.result - 1) (omega arith) last in
    rw c.truncate.ensures.items (omega arith)

pub replace-requires-clause-chains : goal.replace-requires-clause-chains
replace-requires-clause-chains g c =
    let row = c.self.inside.entries.items in
    let moved = c.get-moved.result in
    let low = rw c.as_array.ensures at c.place_of-at.ensures.long in
    let latest_is = c.set.ensures in
    let few = c.kind_of.ensures.few in
    let last = get_or_from_slice_get row (c.len-last.result - 1) moved moved c.get-moved.ensures in
    rw (c.truncate.ensures.items, latest_is) (linked_rest row moved (c.len-last.result - 1) (omega arith) last c.self.inside.latest c.kind_of.result c.kind_of.ensures.is (omega arith) c.self.invariant).chains

pub returns-then-at-last-clause-was : goal.returns-then-at-last-clause-was
returns-then-at-last-clause-was g c =
    let row = c.self.inside.entries.items in
    let at = c.place_of-at.result in
    let place = rw c.as_slice.ensures.value at c.place_of-at.ensures.is in
    let within = place.within in
    let long = length-names row in
    let some = c.if-at-eq0.false in
    let e = c.get-was.result in
    let here = get_or_from_slice_get row (at - 1) e e c.get-was.ensures in
    sym (sym (ap (λ (t : SymbolTable _). find c.args.name t.entries) c.self.view_is)
    ∙ found_value row c.args.name (at - 1) e c.self.invariant.apart (omega arith) (sym here) (sym (name_is row (at - 1) e (omega arith) (sym here)) ∙ place.is (omega arith)))

pub returns-clause-was : goal.returns-clause-was
returns-clause-was g c =
    let row = c.self.inside.entries.items in
    let at = c.place_of-at.result in
    let place = rw c.as_slice.ensures.value at c.place_of-at.ensures.is in
    let within = place.within in
    let long = length-names row in
    let some = c.if-at-eq0.false in
    let e = c.get-was.result in
    let here = get_or_from_slice_get row (at - 1) e e c.get-was.ensures in
    sym (sym (ap (λ (t : SymbolTable _). find c.args.name t.entries) c.self.view_is)
    ∙ found_value row c.args.name (at - 1) e c.self.invariant.apart (omega arith) (sym here) (sym (name_is row (at - 1) e (omega arith) (sym here)) ∙ place.is (omega arith)))

pub returns-then-at-last-clause-is : goal.returns-then-at-last-clause-is
returns-then-at-last-clause-is g c =
    let row = c.self.inside.entries.items in
    let at = c.place_of-at.result in
    let place = rw c.as_slice.ensures.value at c.place_of-at.ensures.is in
    let within = place.within in
    let long = length-names row in
    let count = c.len-last.ensures.value in
    let some = c.if-at-eq0.false in
    let beyond = c.if-at-last.true in
    let moved = c.get-moved.result in
    let last = c.len-last.result - 1 in
    let there = get_or_from_slice_get row last moved moved c.get-moved.ensures in
    let end : at - 1 ≡ last = omega arith in
    let same : moved.name ≡ c.args.name = sym (name_is row last moved (omega arith) (sym there)) ∙ ap (name_in (names (map named row))) (sym end) ∙ place.is (omega arith) in
    let room = c.self.inside.entries.capacity in
    rw (c.truncate.ensures.items, c.truncate.ensures.room)
    (ap (λ (ns : List (Named _)). record { entries = ns; capacity = room }) (removed_last row moved last (omega arith) there c.self.invariant.apart c.args.name same)
    ∙ ap (λ (t : SymbolTable _). record { entries = without c.args.name t.entries; capacity = t.capacity }) c.self.view_is)

pub returns-then-at-last-clause-gone : goal.returns-then-at-last-clause-gone
returns-then-at-last-clause-gone g c =
    let row = c.self.inside.entries.items in
    subst (λ (t : SymbolTable _). find c.args.name t.entries ≡ None) (sym (returns-then-at-last-clause-is g c))
    (subst (λ (t : SymbolTable _). find c.args.name (without c.args.name t.entries) ≡ None) c.self.view_is (find-without_same c.args.name (in_order (map named row)) (ascends-in_order (map named row))))

pub invariant_of-self : goal.invariant_of-self
invariant_of-self g c =
    let row = c.self.inside.entries.items in
    let moved = c.get-moved.result in
    let low = rw c.as_array.ensures at c.place_of-at.ensures.long in
    let latest_is = c.set.ensures in
    let few = c.kind_of.ensures.few in
    let some = c.if-at-eq0.false in
    let count = c.len-last.ensures.value in
    let place = rw c.as_slice.ensures.value at c.place_of-at.ensures.is in
    let within = place.within in
    let long = length-names row in
    let there = get_or_from_slice_get row (c.len-last.result - 1) moved moved c.get-moved.ensures in
    rw (c.truncate.ensures.items, latest_is) (linked_rest row moved (c.len-last.result - 1) (omega arith) there c.self.inside.latest c.kind_of.result c.kind_of.ensures.is (omega arith) c.self.invariant)

pub returns-clause-is : goal.returns-clause-is
returns-clause-is g c =
    let row = c.self.inside.entries.items in
    let at = c.place_of-at.result in
    let place = rw c.as_slice.ensures.value at c.place_of-at.ensures.is in
    let within = place.within in
    let long = length-names row in
    let count = c.len-last.ensures.value in
    let some = c.if-at-eq0.false in
    let inside = c.if-at-last.false in
    let moved = c.get-moved.result in
    let last = c.len-last.result - 1 in
    let there = get_or_from_slice_get row last moved moved c.get-moved.ensures in
    let e = c.get-was.result in
    let here = get_or_from_slice_get row (at - 1) e e c.get-was.ensures in
    let same : e.name ≡ c.args.name = sym (name_is row (at - 1) e (omega arith) (sym here)) ∙ place.is (omega arith) in
    let room = c.self.inside.entries.capacity in
    rw (c.replace.ensures.named, c.replace.ensures.room, c.truncate.ensures.items, c.truncate.ensures.room)
    (ap (λ (ns : List (Named _)). record { entries = ns; capacity = room }) (removed_other row moved last (omega arith) there c.self.invariant.apart c.args.name (at - 1) e (omega arith) here same)
    ∙ ap (λ (t : SymbolTable _). record { entries = without c.args.name t.entries; capacity = t.capacity }) c.self.view_is)

pub returns-clause-gone : goal.returns-clause-gone
returns-clause-gone g c =
    let row = c.self.inside.entries.items in
    subst (λ (t : SymbolTable _). find c.args.name t.entries ≡ None) (sym (returns-clause-is g c))
    (subst (λ (t : SymbolTable _). find c.args.name (without c.args.name t.entries) ≡ None) c.self.view_is (find-without_same c.args.name (in_order (map named row)) (ascends-in_order (map named row))))

pub invariant_of-self-2 : goal.invariant_of-self-2
invariant_of-self-2 g c =
    let row = c.self.inside.entries.items in
    let at = c.place_of-at.result in
    let place = rw c.as_slice.ensures.value at c.place_of-at.ensures.is in
    let within = place.within in
    let long = length-names row in
    let count = c.len-last.ensures.value in
    let some = c.if-at-eq0.false in
    let inside = c.if-at-last.false in
    let moved = c.get-moved.result in
    let last = c.len-last.result - 1 in
    let there = get_or_from_slice_get row last moved moved c.get-moved.ensures in
    let e = c.get-was.result in
    let here = get_or_from_slice_get row (at - 1) e e c.get-was.ensures in
    let same : e.name ≡ c.args.name = sym (name_is row (at - 1) e (omega arith) (sym here)) ∙ place.is (omega arith) in
    record {
      chains = c.replace.ensures.chains;
      apart = rw (c.replace.ensures.named, c.truncate.ensures.items) (replaced_apart row moved last (omega arith) there c.self.invariant.apart c.args.name (at - 1) e (omega arith) here same);
    }

pub overflow_sub-last : goal.overflow_sub-last
overflow_sub-last g c = grind (arith, common_steps)

pub get-moved-requires : goal.get-moved-requires
get-moved-requires g c = grind (arith, common_steps)
