use Rattle.std.proofs.lemmas.Grind.{common_steps}
use Rattle.std.proofs.Common.{◌≡◌, ◌∷◌, [], drop, ap, sym, ◌∙◌, refl, arith}
use Rattle.std.specs.Option.{option_map}
use Rattle.nr_store.specs.declared.element.Element.TheVariants.{LineEnd}
use Rattle.nr_store.specs.Holders.{beside_of}
use Rattle.nr_store.specs.Store.{Stored, charge_of, taken, diverted_end}
use Rattle.nr_store.proofs.Keeping.{room_for_elements}
use Rattle.nr_store.proofs.Building.{cons_of, is_within, unaffordable, affordable, nothing_afforded, nothing_built, one_holder, grown_is, grown_stands}
use Rattle.nr_store.proofs.Lines.{diverted_end_is, charge_of-diverted_end}
use Rattle.nr_store.proofs.store.Store.end_line.Goals as goal

pub returns-then-self-clause-answer : goal.returns-then-self-clause-answer
returns-then-self-clause-answer g c =
    let s = c.self.inside in
    let beside = beside_of s.gathering s.registers s.traps s.words in
    let within = is_within s.pool s.names s.drafts s.levels beside s.charge s.stored c.args.self.now c.self.invariant c.self.view_is in
    let charged = within.charged in
    let limits = within.same_limit in
    let cost = charge_of-diverted_end s.pool s.names s.drafts s.levels beside s.charge s.stored c.in-Some.draft (drop 1 s.drafts.items) c.self.invariant (cons_of _ _ (sym c.top.ensures ∙ c.in-Some.is)) c.args.cells c.args.height in
    let is = ap (λ (v : Stored _). charge_of (diverted_end c.args.cells c.args.height v)) c.self.view_is in
    sym (unaffordable (diverted_end c.args.cells c.args.height c.args.self.now) tt (omega arith))

pub append-requires : goal.append-requires
append-requires g c =
    let s = c.self.inside in
    let one = one_holder s.pool s.names s.drafts s.levels (beside_of s.gathering s.registers s.traps s.words) s.charge s.stored c.in-Some.draft (drop 1 s.drafts.items) [] c.self.invariant (cons_of _ _ (sym c.top.ensures ∙ c.in-Some.is)) in
    omega arith

pub returns-in_default-append-clause-answer : goal.returns-in_default-append-clause-answer
returns-in_default-append-clause-answer g c =
    let s = c.self.inside in
    let below = c.self.invariant.within in
    let room = room_for_elements s.pool s.names s.drafts s.levels (beside_of s.gathering s.registers s.traps s.words) s.charge s.stored 1 c.self.invariant (omega arith) in
    let full = c.in_default-append.ensures.full.0 refl in
    absurd (omega arith)

pub invariant_of-self-2 : goal.invariant_of-self-2
invariant_of-self-2 g c =
    let s = c.self.inside in
    let first : s.drafts.items ≡ c.in-Some.draft ∷ drop 1 s.drafts.items = cons_of _ _ (sym c.top.ensures ∙ c.in-Some.is) in
    let below = c.self.invariant.within in
    let dv = option_map (taken c.args.cells c.args.height) c.in-Some.draft.diversion in
    rw (c.in-Ok.ensures.ok, c.of.ensures, c.set_top.ensures, c.with_line.ensures)
    (grown_stands s.pool s.names s.drafts s.levels (beside_of s.gathering s.registers s.traps s.words) s.charge s.stored c.in-Some.draft (drop 1 s.drafts.items) (LineEnd c.args.height ∷ []) c.self.invariant first dv (omega arith))

pub returns-clause-answer : goal.returns-clause-answer
returns-clause-answer g c =
    let s = c.self.inside in
    let beside = beside_of s.gathering s.registers s.traps s.words in
    let within = is_within s.pool s.names s.drafts s.levels beside s.charge s.stored c.args.self.now c.self.invariant c.self.view_is in
    let charged = within.charged in
    let limits = within.same_limit in
    let below = c.self.invariant.within in
    let cost = charge_of-diverted_end s.pool s.names s.drafts s.levels beside s.charge s.stored c.in-Some.draft (drop 1 s.drafts.items) c.self.invariant (cons_of _ _ (sym c.top.ensures ∙ c.in-Some.is)) c.args.cells c.args.height in
    let is = ap (λ (v : Stored _). charge_of (diverted_end c.args.cells c.args.height v)) c.self.view_is in
    sym (affordable (diverted_end c.args.cells c.args.height c.args.self.now) tt (omega arith))

pub returns-clause-ok : goal.returns-clause-ok
returns-clause-ok g c =
    let s = c.self.inside in
    let beside = beside_of s.gathering s.registers s.traps s.words in
    let first : s.drafts.items ≡ c.in-Some.draft ∷ drop 1 s.drafts.items = cons_of _ _ (sym c.top.ensures ∙ c.in-Some.is) in
    let dv = option_map (taken c.args.cells c.args.height) c.in-Some.draft.diversion in
    rw (c.in-Ok.ensures.ok, c.of.ensures, c.set_top.ensures, c.with_line.ensures)
    (grown_is s.pool s.names s.drafts s.levels beside s.charge s.stored c.in-Some.draft (drop 1 s.drafts.items) (LineEnd c.args.height ∷ []) c.self.invariant first dv
    ∙ sym (diverted_end_is s.pool s.names s.drafts s.levels beside s.charge s.stored c.in-Some.draft (drop 1 s.drafts.items) c.self.invariant first c.args.cells c.args.height)
    ∙ ap (diverted_end c.args.cells c.args.height) c.self.view_is)

pub set_top-requires : goal.set_top-requires
set_top-requires g c = grind (arith, common_steps)

pub returns-in_default-clause-ok : goal.returns-in_default-clause-ok
returns-in_default-clause-ok g c =
    let s = c.self.inside in
    sym (nothing_built _ s.pool s.drafts.items c.args.self.now (ap (λ (v : Stored _). v.building) c.self.view_is) (sym c.top.ensures ∙ c.in_default.is))

pub returns-in_default-clause-answer : goal.returns-in_default-clause-answer
returns-in_default-clause-answer g c =
    let s = c.self.inside in
    let none = sym c.top.ensures ∙ c.in_default.is in
    sym (nothing_afforded tt c.args.self.now (diverted_end c.args.cells c.args.height c.args.self.now) s.charge s.stored (nothing_built _ s.pool s.drafts.items c.args.self.now (ap (λ (v : Stored _). v.building) c.self.view_is) none)
    (is_within s.pool s.names s.drafts s.levels (beside_of s.gathering s.registers s.traps s.words) s.charge s.stored c.args.self.now c.self.invariant c.self.view_is))
