use Rattle.std.proofs.Common.{◌≡◌, ◌+◌, length, map, drop, ap, sym, ◌∙◌, arith}
use Rattle.std.proofs.lemmas.List.{length-map}
use Rattle.nr_store.specs.Holders.{beside_of}
use Rattle.nr_store.specs.Store.{Stored, charge_of, added}
use Rattle.nr_store.specs.declared.element.Element.TheVariants as elements
use Rattle.nr_store.proofs.Keeping.{room_for_elements}
use Rattle.nr_store.proofs.Building.{cons_of, is_within, unaffordable, affordable, nothing_afforded, nothing_built, one_holder, charge_of-added, added_is, added_stands}
use Rattle.nr_store.proofs.store.Store.add_cells.Goals as goal

pub returns-then-room-cells-clause-answer : goal.returns-then-room-cells-clause-answer
returns-then-room-cells-clause-answer g c =
    let s = c.self.inside in
    let xs = map elements.Cell c.args.cells.now in
    let long = length-map c.args.cells.now elements.Cell in
    let within = is_within s.pool s.names s.drafts s.levels (beside_of s.gathering s.registers s.traps s.words) s.charge s.stored c.args.self.now c.self.invariant c.self.view_is in
    let charged = within.charged in
    let limits = within.same_limit in
    let below = c.self.invariant.within in
    let test = c.if-room-cells.true in
    let cost = charge_of-added s.pool s.names s.drafts s.levels (beside_of s.gathering s.registers s.traps s.words) s.charge s.stored c.in-Some.draft (drop 1 s.drafts.items) xs c.self.invariant (cons_of _ _ (sym c.top.ensures ∙ c.in-Some.is)) in
    let is = ap (λ (v : Stored _). charge_of (added xs v)) c.self.view_is in
    sym (unaffordable (added xs c.args.self.now) tt (omega arith))

pub append_all-requires-clause-is_open : goal.append_all-requires-clause-is_open
append_all-requires-clause-is_open g c =
    let s = c.self.inside in
    let one = one_holder s.pool s.names s.drafts s.levels (beside_of s.gathering s.registers s.traps s.words) s.charge s.stored c.in-Some.draft (drop 1 s.drafts.items) (map elements.Cell c.args.cells.now) c.self.invariant (cons_of _ _ (sym c.top.ensures ∙ c.in-Some.is)) in
    omega arith

pub append_all-requires-clause-room : goal.append_all-requires-clause-room
append_all-requires-clause-room g c =
    let s = c.self.inside in
    let below = c.self.invariant.within in
    let test = c.if-room-cells.false in
    room_for_elements s.pool s.names s.drafts s.levels (beside_of s.gathering s.registers s.traps s.words) s.charge s.stored (length c.args.cells.now) c.self.invariant (omega arith)

pub invariant_of-self : goal.invariant_of-self
invariant_of-self g c =
    let s = c.self.inside in
    let xs = map elements.Cell c.args.cells.now in
    let below = c.self.invariant.within in
    let test = c.if-room-cells.false in
    let long = length-map c.args.cells.now elements.Cell in
    let more : s.charge + length xs ≡ s.charge + length c.args.cells.now = omega arith in
    rw (c.append_all.ensures, sym more) (added_stands s.pool s.names s.drafts s.levels (beside_of s.gathering s.registers s.traps s.words) s.charge s.stored c.in-Some.draft (drop 1 s.drafts.items) xs c.self.invariant (cons_of _ _ (sym c.top.ensures ∙ c.in-Some.is)) (omega arith))

pub returns-clause-answer : goal.returns-clause-answer
returns-clause-answer g c =
    let s = c.self.inside in
    let xs = map elements.Cell c.args.cells.now in
    let long = length-map c.args.cells.now elements.Cell in
    let within = is_within s.pool s.names s.drafts s.levels (beside_of s.gathering s.registers s.traps s.words) s.charge s.stored c.args.self.now c.self.invariant c.self.view_is in
    let charged = within.charged in
    let limits = within.same_limit in
    let below = c.self.invariant.within in
    let test = c.if-room-cells.false in
    let cost = charge_of-added s.pool s.names s.drafts s.levels (beside_of s.gathering s.registers s.traps s.words) s.charge s.stored c.in-Some.draft (drop 1 s.drafts.items) xs c.self.invariant (cons_of _ _ (sym c.top.ensures ∙ c.in-Some.is)) in
    let is = ap (λ (v : Stored _). charge_of (added xs v)) c.self.view_is in
    sym (affordable (added xs c.args.self.now) tt (omega arith))

pub returns-clause-ok : goal.returns-clause-ok
returns-clause-ok g c =
    let s = c.self.inside in
    let xs = map elements.Cell c.args.cells.now in
    rw c.append_all.ensures (added_is s.pool s.names s.drafts s.levels (beside_of s.gathering s.registers s.traps s.words) s.charge s.stored c.in-Some.draft (drop 1 s.drafts.items) xs c.self.invariant (cons_of _ _ (sym c.top.ensures ∙ c.in-Some.is)) ∙ ap (added xs) c.self.view_is)

pub returns-in_default-clause-ok : goal.returns-in_default-clause-ok
returns-in_default-clause-ok g c =
    let s = c.self.inside in
    sym (nothing_built _ s.pool s.drafts.items c.args.self.now (ap (λ (v : Stored _). v.building) c.self.view_is) (sym c.top.ensures ∙ c.in_default.is))

pub returns-in_default-clause-answer : goal.returns-in_default-clause-answer
returns-in_default-clause-answer g c =
    let s = c.self.inside in
    let none = sym c.top.ensures ∙ c.in_default.is in
    sym (nothing_afforded tt c.args.self.now (added (map elements.Cell c.args.cells.now) c.args.self.now) s.charge s.stored (nothing_built _ s.pool s.drafts.items c.args.self.now (ap (λ (v : Stored _). v.building) c.self.view_is) none)
    (is_within s.pool s.names s.drafts s.levels (beside_of s.gathering s.registers s.traps s.words) s.charge s.stored c.args.self.now c.self.invariant c.self.view_is))
