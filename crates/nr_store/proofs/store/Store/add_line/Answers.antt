use Rattle.std.proofs.lemmas.Grind.{common_steps}
use Rattle.std.proofs.Common.{◌≡◌, ◌+◌, [], ◌∷◌, length, drop, ap, sym, ◌∙◌, arith}
use Rattle.std.specs.Option.{option_map}
use Rattle.nr_store.specs.Holders.{beside_of}
use Rattle.nr_store.specs.Store.{Stored, charge_of, line_of, taken, diverted}
use Rattle.nr_store.proofs.Keeping.{room_for_elements}
use Rattle.nr_store.proofs.Building.{cons_of, is_within, unaffordable, affordable, nothing_afforded, nothing_built, one_holder, grown_is, grown_stands}
use Rattle.nr_store.proofs.Lines.{length-line_of, diverted_is, charge_of-diverted}
use Rattle.nr_store.proofs.store.Store.add_line.Goals as goal

pub append_line-requires-clause-is_open : goal.append_line-requires-clause-is_open
append_line-requires-clause-is_open g c =
    let s = c.self.inside in
    let one = one_holder s.pool s.names s.drafts s.levels (beside_of s.gathering s.registers s.traps s.words) s.charge s.stored c.in-Some.draft (drop 1 s.drafts.items) [] c.self.invariant (cons_of _ _ (sym c.top.ensures ∙ c.in-Some.is)) in
    omega arith

pub append_line-requires-clause-room : goal.append_line-requires-clause-room
append_line-requires-clause-room g c =
    let s = c.self.inside in
    let below = c.self.invariant.within in
    room_for_elements s.pool s.names s.drafts s.levels (beside_of s.gathering s.registers s.traps s.words) s.charge s.stored (c.args.indent + length c.args.cells.now + 1) c.self.invariant (omega arith)

pub returns-then-room-width-clause-answer : goal.returns-then-room-width-clause-answer
returns-then-room-width-clause-answer g c =
    let s = c.self.inside in
    let within = is_within s.pool s.names s.drafts s.levels (beside_of s.gathering s.registers s.traps s.words) s.charge s.stored c.args.self.now c.self.invariant c.self.view_is in
    let charged = within.charged in
    let limits = within.same_limit in
    let below = c.self.invariant.within in
    let cost = charge_of-diverted s.pool s.names s.drafts s.levels (beside_of s.gathering s.registers s.traps s.words) s.charge s.stored c.in-Some.draft (drop 1 s.drafts.items) c.self.invariant (cons_of _ _ (sym c.top.ensures ∙ c.in-Some.is)) c.args.indent c.args.cells.now c.args.height in
    let is = ap (λ (v : Stored _). charge_of (diverted c.args.indent c.args.cells.now c.args.height v)) c.self.view_is in
    sym (unaffordable (diverted c.args.indent c.args.cells.now c.args.height c.args.self.now) tt (omega arith))

pub returns-clause-ok : goal.returns-clause-ok
returns-clause-ok g c =
    let s = c.self.inside in
    let first = cons_of _ _ (sym c.top.ensures ∙ c.in-Some.is) in
    let dv = option_map (taken (c.args.indent + length c.args.cells.now) c.args.height) c.in-Some.draft.diversion in
    rw (c.append_line.ensures, c.set_top.ensures, c.with_line.ensures)
    (grown_is s.pool s.names s.drafts s.levels (beside_of s.gathering s.registers s.traps s.words) s.charge s.stored c.in-Some.draft (drop 1 s.drafts.items) (line_of c.args.indent c.args.cells.now c.args.height) c.self.invariant first dv
    ∙ sym (diverted_is s.pool s.names s.drafts s.levels (beside_of s.gathering s.registers s.traps s.words) s.charge s.stored c.in-Some.draft (drop 1 s.drafts.items) c.self.invariant first c.args.indent c.args.cells.now c.args.height)
    ∙ ap (diverted c.args.indent c.args.cells.now c.args.height) c.self.view_is)

pub returns-clause-answer : goal.returns-clause-answer
returns-clause-answer g c =
    let s = c.self.inside in
    let within = is_within s.pool s.names s.drafts s.levels (beside_of s.gathering s.registers s.traps s.words) s.charge s.stored c.args.self.now c.self.invariant c.self.view_is in
    let charged = within.charged in
    let limits = within.same_limit in
    let below = c.self.invariant.within in
    let cost = charge_of-diverted s.pool s.names s.drafts s.levels (beside_of s.gathering s.registers s.traps s.words) s.charge s.stored c.in-Some.draft (drop 1 s.drafts.items) c.self.invariant (cons_of _ _ (sym c.top.ensures ∙ c.in-Some.is)) c.args.indent c.args.cells.now c.args.height in
    let is = ap (λ (v : Stored _). charge_of (diverted c.args.indent c.args.cells.now c.args.height v)) c.self.view_is in
    sym (affordable (diverted c.args.indent c.args.cells.now c.args.height c.args.self.now) tt (omega arith))

pub invariant_of-self : goal.invariant_of-self
invariant_of-self g c =
    let s = c.self.inside in
    let first : s.drafts.items ≡ c.in-Some.draft ∷ drop 1 s.drafts.items = cons_of _ _ (sym c.top.ensures ∙ c.in-Some.is) in
    let below = c.self.invariant.within in
    let xs = line_of c.args.indent c.args.cells.now c.args.height in
    let long = length-line_of c.args.indent c.args.cells.now c.args.height in
    let dv = option_map (taken (c.args.indent + length c.args.cells.now) c.args.height) c.in-Some.draft.diversion in
    let more : s.charge + length xs ≡ s.charge + (c.args.indent + length c.args.cells.now + 1) = omega arith in
    rw (c.append_line.ensures, c.set_top.ensures, c.with_line.ensures, sym more)
    (grown_stands s.pool s.names s.drafts s.levels (beside_of s.gathering s.registers s.traps s.words) s.charge s.stored c.in-Some.draft (drop 1 s.drafts.items) xs c.self.invariant first dv (omega arith))

pub set_top-requires : goal.set_top-requires
set_top-requires g c = grind (arith, common_steps)

pub returns-in_default-clause-ok : goal.returns-in_default-clause-ok
returns-in_default-clause-ok g c =
    let s = c.self.inside in
    sym (nothing_built _ s.pool s.drafts.items c.args.self.now (ap (λ (v : Stored _). v.building) c.self.view_is) (sym c.top.ensures ∙ c.in_default.is))

pub returns-in_default-clause-answer : goal.returns-in_default-clause-answer
returns-in_default-clause-answer g c =
    let s = c.self.inside in
    let none = sym c.top.ensures ∙ c.in_default.is in
    sym (nothing_afforded tt c.args.self.now (diverted c.args.indent c.args.cells.now c.args.height c.args.self.now) s.charge s.stored (nothing_built _ s.pool s.drafts.items c.args.self.now (ap (λ (v : Stored _). v.building) c.self.view_is) none)
    (is_within s.pool s.names s.drafts s.levels (beside_of s.gathering s.registers s.traps s.words) s.charge s.stored c.args.self.now c.self.invariant c.self.view_is))
