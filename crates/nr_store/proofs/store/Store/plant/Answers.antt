use Rattle.std.proofs.Common.{◌≡◌, ◌+◌, ◌++◌, ◌∷◌, [], set, ap, sym, ◌∙◌, length-append, arith}
use Rattle.std.specs.List.{position}
use Rattle.std.proofs.lemmas.List.{length-set}
use Rattle.std.proofs.lemmas.List.Quantifiers.{position-Some}
use Rattle.nr_symbol_tables.specs.Trap.{is_at, put_trap}
use Rattle.std.proofs.Math.Facts.{to_z-of_z}
use Rattle.nr_symbol_tables.specs.declared.trap.Trap.{Trap}
use Rattle.nr_store.specs.Store.{Stored, charge_of, trap_planted}
use Rattle.nr_store.specs.Holders.{beside_of, stored_of}
use Rattle.nr_store.proofs.Building.{is_within, unaffordable, affordable}
use Rattle.nr_store.proofs.Besides.{beside_paid, beside_charge, beside_stands}
use Rattle.nr_store.proofs.store.Store.plant.Goals as goal

pub returns-then-self-lt48-clause-answer : goal.returns-then-self-lt48-clause-answer
returns-then-self-lt48-clause-answer g c =
    let s = c.self.inside in
    let trap : Trap = record { place = c.args.place; name = c.args.name } in
    let within = is_within s.pool s.names s.drafts s.levels (beside_of s.gathering s.registers s.traps s.words) s.charge s.stored c.args.self.now c.self.invariant c.self.view_is in
    let charged = within.charged in
    let limits = within.same_limit in
    let fits = within.within in
    let at = rw (c.as_slice.ensures.value, to_z-of_z c.ranges.place) at c.trap_at.ensures in
    let is : put_trap (position (is_at c.args.place) s.traps.items) trap s.traps.items ≡ (s.traps.items ++ trap ∷ []) = ap (λ o. put_trap o trap s.traps.items) (sym at ∙ c.in_default.is) in
    let long = length-append s.traps.items (trap ∷ []) in
    let cost : s.charge + 48 ≡ charge_of (trap_planted c.args.place c.args.name c.args.self.now) = beside_charge s.pool s.names s.drafts s.levels (beside_of s.gathering s.registers s.traps s.words) s.charge s.stored c.self.invariant (beside_of s.gathering s.registers (record s.traps { items = (s.traps.items ++ trap ∷ []) }) s.words) (s.charge + 48) (omega arith) ∙ ap (λ ts. charge_of (record (stored_of s.pool s.names.entries s.drafts.items s.levels (beside_of s.gathering s.registers s.traps s.words) s.stored) { traps = ts })) (sym is) ∙ ap (λ (v : Stored _). charge_of (trap_planted c.args.place c.args.name v)) c.self.view_is in
    sym (unaffordable (trap_planted c.args.place c.args.name c.args.self.now) tt (omega arith))

pub push-requires : goal.push-requires
push-requires g c =
    let s = c.self.inside in
    let trap : Trap = record { place = c.args.place; name = c.args.name } in
    let below = c.self.invariant.within in
    let suffice = c.self.invariant.beside_suffices in
    let paid = beside_paid s.pool s.names s.drafts s.levels (beside_of s.gathering s.registers s.traps s.words) s.charge s.stored c.self.invariant in
    let room = suffice.traps in
    omega arith

pub invariant_of-self : goal.invariant_of-self
invariant_of-self g c =
    let s = c.self.inside in
    let trap : Trap = record { place = c.args.place; name = c.args.name } in
    let below = c.self.invariant.within in
    let suffice = c.self.invariant.beside_suffices in
    let long = length-append s.traps.items (trap ∷ []) in
    rw (c.push.ensures.items, c.push.ensures.room, to_z-of_z c.ranges.place) (beside_stands s.pool s.names s.drafts s.levels (beside_of s.gathering s.registers s.traps s.words) s.charge s.stored c.self.invariant (beside_of s.gathering s.registers (record s.traps { items = (s.traps.items ++ trap ∷ []) }) s.words) (s.charge + 48) (omega arith) (omega arith) (record { gathering = suffice.gathering; registers = suffice.registers; traps = suffice.traps; words = suffice.words }))

pub returns-in_default-clause-answer : goal.returns-in_default-clause-answer
returns-in_default-clause-answer g c =
    let s = c.self.inside in
    let trap : Trap = record { place = c.args.place; name = c.args.name } in
    let within = is_within s.pool s.names s.drafts s.levels (beside_of s.gathering s.registers s.traps s.words) s.charge s.stored c.args.self.now c.self.invariant c.self.view_is in
    let charged = within.charged in
    let limits = within.same_limit in
    let fits = within.within in
    let at = rw (c.as_slice.ensures.value, to_z-of_z c.ranges.place) at c.trap_at.ensures in
    let is : put_trap (position (is_at c.args.place) s.traps.items) trap s.traps.items ≡ (s.traps.items ++ trap ∷ []) = ap (λ o. put_trap o trap s.traps.items) (sym at ∙ c.in_default.is) in
    let long = length-append s.traps.items (trap ∷ []) in
    let below = c.self.invariant.within in
    let cost : s.charge + 48 ≡ charge_of (trap_planted c.args.place c.args.name c.args.self.now) = beside_charge s.pool s.names s.drafts s.levels (beside_of s.gathering s.registers s.traps s.words) s.charge s.stored c.self.invariant (beside_of s.gathering s.registers (record s.traps { items = (s.traps.items ++ trap ∷ []) }) s.words) (s.charge + 48) (omega arith) ∙ ap (λ ts. charge_of (record (stored_of s.pool s.names.entries s.drafts.items s.levels (beside_of s.gathering s.registers s.traps s.words) s.stored) { traps = ts })) (sym is) ∙ ap (λ (v : Stored _). charge_of (trap_planted c.args.place c.args.name v)) c.self.view_is in
    sym (affordable (trap_planted c.args.place c.args.name c.args.self.now) tt (omega arith))

pub returns-in_default-clause-ok : goal.returns-in_default-clause-ok
returns-in_default-clause-ok g c =
    let s = c.self.inside in
    let trap : Trap = record { place = c.args.place; name = c.args.name } in
    let at = rw (c.as_slice.ensures.value, to_z-of_z c.ranges.place) at c.trap_at.ensures in
    let is : put_trap (position (is_at c.args.place) s.traps.items) trap s.traps.items ≡ (s.traps.items ++ trap ∷ []) = ap (λ o. put_trap o trap s.traps.items) (sym at ∙ c.in_default.is) in
    rw (c.push.ensures.items, to_z-of_z c.ranges.place) (ap (λ ts. record (stored_of s.pool s.names.entries s.drafts.items s.levels (beside_of s.gathering s.registers s.traps s.words) s.stored) { traps = ts }) (sym is) ∙ ap (trap_planted c.args.place c.args.name) c.self.view_is)

pub set-requires : goal.set-requires
set-requires g c =
    let s = c.self.inside in
    let trap : Trap = record { place = c.args.place; name = c.args.name } in
    let at = rw (c.as_slice.ensures.value, to_z-of_z c.ranges.place) at c.trap_at.ensures in
    (position-Some (is_at c.args.place) s.traps.items c.in-Some.at trap (sym at ∙ c.in-Some.is)).0

pub invariant_of-self-2 : goal.invariant_of-self-2
invariant_of-self-2 g c =
    let s = c.self.inside in
    let trap : Trap = record { place = c.args.place; name = c.args.name } in
    let below = c.self.invariant.within in
    let suffice = c.self.invariant.beside_suffices in
    let long = length-set s.traps.items c.in-Some.at trap in
    rw (c.set.ensures.items, c.set.ensures.room, to_z-of_z c.ranges.place) (beside_stands s.pool s.names s.drafts s.levels (beside_of s.gathering s.registers s.traps s.words) s.charge s.stored c.self.invariant (beside_of s.gathering s.registers (record s.traps { items = (set s.traps.items c.in-Some.at trap) }) s.words) s.charge (omega arith) below (record { gathering = suffice.gathering; registers = suffice.registers; traps = suffice.traps; words = suffice.words }))

pub returns-clause-answer : goal.returns-clause-answer
returns-clause-answer g c =
    let s = c.self.inside in
    let trap : Trap = record { place = c.args.place; name = c.args.name } in
    let within = is_within s.pool s.names s.drafts s.levels (beside_of s.gathering s.registers s.traps s.words) s.charge s.stored c.args.self.now c.self.invariant c.self.view_is in
    let charged = within.charged in
    let limits = within.same_limit in
    let fits = within.within in
    let at = rw (c.as_slice.ensures.value, to_z-of_z c.ranges.place) at c.trap_at.ensures in
    let is : put_trap (position (is_at c.args.place) s.traps.items) trap s.traps.items ≡ (set s.traps.items c.in-Some.at trap) = ap (λ o. put_trap o trap s.traps.items) (sym at ∙ c.in-Some.is) in
    let long = length-set s.traps.items c.in-Some.at trap in
    let cost : s.charge ≡ charge_of (trap_planted c.args.place c.args.name c.args.self.now) = beside_charge s.pool s.names s.drafts s.levels (beside_of s.gathering s.registers s.traps s.words) s.charge s.stored c.self.invariant (beside_of s.gathering s.registers (record s.traps { items = (set s.traps.items c.in-Some.at trap) }) s.words) (s.charge) (omega arith) ∙ ap (λ ts. charge_of (record (stored_of s.pool s.names.entries s.drafts.items s.levels (beside_of s.gathering s.registers s.traps s.words) s.stored) { traps = ts })) (sym is) ∙ ap (λ (v : Stored _). charge_of (trap_planted c.args.place c.args.name v)) c.self.view_is in
    sym (affordable (trap_planted c.args.place c.args.name c.args.self.now) tt (omega arith))

pub returns-clause-ok : goal.returns-clause-ok
returns-clause-ok g c =
    let s = c.self.inside in
    let trap : Trap = record { place = c.args.place; name = c.args.name } in
    let at = rw (c.as_slice.ensures.value, to_z-of_z c.ranges.place) at c.trap_at.ensures in
    let is : put_trap (position (is_at c.args.place) s.traps.items) trap s.traps.items ≡ (set s.traps.items c.in-Some.at trap) = ap (λ o. put_trap o trap s.traps.items) (sym at ∙ c.in-Some.is) in
    rw (c.set.ensures.items, to_z-of_z c.ranges.place) (ap (λ ts. record (stored_of s.pool s.names.entries s.drafts.items s.levels (beside_of s.gathering s.registers s.traps s.words) s.stored) { traps = ts }) (sym is) ∙ ap (trap_planted c.args.place c.args.name) c.self.view_is)
