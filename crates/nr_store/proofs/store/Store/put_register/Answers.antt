use Rattle.std.proofs.Common.{◌≡◌, ◌+◌, ap, sym, ◌∙◌, arith}
use Rattle.nr_symbol_tables.specs.Table.{put}
use Rattle.nr_store.specs.Store.{Stored, charge_of, with_register}
use Rattle.nr_store.specs.Holders.{beside_of}
use Rattle.nr_store.proofs.Building.{is_within, unaffordable, affordable}
use Rattle.nr_store.proofs.Besides.{beside_charge, beside_stands, put_length, put_length_new}
use Rattle.nr_store.proofs.store.Store.put_register.Goals as goal

pub returns-then-self-lt48-clause-answer : goal.returns-then-self-lt48-clause-answer
returns-then-self-lt48-clause-answer g c =
    let s = c.self.inside in
    let within = is_within s.pool s.names s.drafts s.levels (beside_of s.gathering s.registers s.traps s.words) s.charge s.stored c.args.self.now c.self.invariant c.self.view_is in
    let charged = within.charged in
    let limits = within.same_limit in
    let fits = within.within in
    let new = put_length_new c.args.name c.args.register s.registers.entries (sym c.get.ensures ∙ c.in_default.is) in
    let is : s.charge + 48 ≡ charge_of (with_register c.args.name c.args.register c.args.self.now) = beside_charge s.pool s.names s.drafts s.levels (beside_of s.gathering s.registers s.traps s.words) s.charge s.stored c.self.invariant (beside_of s.gathering (record s.registers { entries = put c.args.name c.args.register s.registers.entries }) s.traps s.words) (s.charge + 48) (omega arith) ∙ ap (λ (v : Stored _). charge_of (with_register c.args.name c.args.register v)) c.self.view_is in
    sym (unaffordable (with_register c.args.name c.args.register c.args.self.now) tt (omega arith))

pub invariant_of-self : goal.invariant_of-self
invariant_of-self g c =
    let s = c.self.inside in
    let below = c.self.invariant.within in
    let suffice = c.self.invariant.beside_suffices in
    let new = put_length_new c.args.name c.args.register s.registers.entries (sym c.get.ensures ∙ c.in_default.is) in
    rw c.put.ensures.is (beside_stands s.pool s.names s.drafts s.levels (beside_of s.gathering s.registers s.traps s.words) s.charge s.stored c.self.invariant (beside_of s.gathering (record s.registers { entries = put c.args.name c.args.register s.registers.entries }) s.traps s.words) (s.charge + 48) (omega arith) (omega arith) (record { gathering = suffice.gathering; registers = suffice.registers; traps = suffice.traps; words = suffice.words }))

pub returns-in_default-clause-answer : goal.returns-in_default-clause-answer
returns-in_default-clause-answer g c =
    let s = c.self.inside in
    let within = is_within s.pool s.names s.drafts s.levels (beside_of s.gathering s.registers s.traps s.words) s.charge s.stored c.args.self.now c.self.invariant c.self.view_is in
    let charged = within.charged in
    let limits = within.same_limit in
    let fits = within.within in
    let new = put_length_new c.args.name c.args.register s.registers.entries (sym c.get.ensures ∙ c.in_default.is) in
    let below = c.self.invariant.within in
    let is : s.charge + 48 ≡ charge_of (with_register c.args.name c.args.register c.args.self.now) = beside_charge s.pool s.names s.drafts s.levels (beside_of s.gathering s.registers s.traps s.words) s.charge s.stored c.self.invariant (beside_of s.gathering (record s.registers { entries = put c.args.name c.args.register s.registers.entries }) s.traps s.words) (s.charge + 48) (omega arith) ∙ ap (λ (v : Stored _). charge_of (with_register c.args.name c.args.register v)) c.self.view_is in
    sym (affordable (with_register c.args.name c.args.register c.args.self.now) tt (omega arith))

pub invariant_of-self-2 : goal.invariant_of-self-2
invariant_of-self-2 g c =
    let s = c.self.inside in
    let below = c.self.invariant.within in
    let suffice = c.self.invariant.beside_suffices in
    let old = put_length c.args.name c.args.register _ s.registers.entries (sym c.get.ensures ∙ c.in-Some.is) in
    rw c.put-2.ensures.is (beside_stands s.pool s.names s.drafts s.levels (beside_of s.gathering s.registers s.traps s.words) s.charge s.stored c.self.invariant (beside_of s.gathering (record s.registers { entries = put c.args.name c.args.register s.registers.entries }) s.traps s.words) s.charge (omega arith) below (record { gathering = suffice.gathering; registers = suffice.registers; traps = suffice.traps; words = suffice.words }))

pub returns-clause-answer : goal.returns-clause-answer
returns-clause-answer g c =
    let s = c.self.inside in
    let within = is_within s.pool s.names s.drafts s.levels (beside_of s.gathering s.registers s.traps s.words) s.charge s.stored c.args.self.now c.self.invariant c.self.view_is in
    let charged = within.charged in
    let limits = within.same_limit in
    let fits = within.within in
    let old = put_length c.args.name c.args.register _ s.registers.entries (sym c.get.ensures ∙ c.in-Some.is) in
    let is : s.charge ≡ charge_of (with_register c.args.name c.args.register c.args.self.now) = beside_charge s.pool s.names s.drafts s.levels (beside_of s.gathering s.registers s.traps s.words) s.charge s.stored c.self.invariant (beside_of s.gathering (record s.registers { entries = put c.args.name c.args.register s.registers.entries }) s.traps s.words) (s.charge) (omega arith) ∙ ap (λ (v : Stored _). charge_of (with_register c.args.name c.args.register v)) c.self.view_is in
    sym (affordable (with_register c.args.name c.args.register c.args.self.now) tt (omega arith))
