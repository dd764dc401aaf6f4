use Rattle.std.proofs.Common.{◌-◌, sym, ◌∙◌, arith}
use Rattle.nr_symbol_tables.specs.Table.{without}
use Rattle.nr_store.specs.Holders.{beside_of}
use Rattle.nr_store.proofs.Naming.{without_none}
use Rattle.nr_store.proofs.Besides.{beside_paid, beside_stands, without_length}
use Rattle.nr_store.proofs.store.Store.remove_register.Goals as goal

pub invariant_of-self : goal.invariant_of-self
invariant_of-self g c =
    let s = c.self.inside in
    rw (c.remove.ensures.is, without_none c.args.name s.registers.entries (sym c.remove.ensures.was ∙ c.in_default.is)) c.self.invariant

pub invariant_of-self-2 : goal.invariant_of-self-2
invariant_of-self-2 g c =
    let s = c.self.inside in
    let below = c.self.invariant.within in
    let suffice = c.self.invariant.beside_suffices in
    let less = without_length c.args.name _ s.registers.entries (sym c.remove.ensures.was ∙ c.in-Some.is) in
    let paid = beside_paid s.pool s.names s.drafts s.levels (beside_of s.gathering s.registers s.traps s.words) s.charge s.stored c.self.invariant in
    rw c.remove.ensures.is (beside_stands s.pool s.names s.drafts s.levels (beside_of s.gathering s.registers s.traps s.words) s.charge s.stored c.self.invariant (beside_of s.gathering (record s.registers { entries = without c.args.name s.registers.entries }) s.traps s.words) (s.charge - 48) (omega arith) (omega arith) (record { gathering = suffice.gathering; registers = suffice.registers; traps = suffice.traps; words = suffice.words }))
