use Rattle.std.proofs.Common.{sym, ◌∙◌, arith}
use Rattle.nr_symbol_tables.specs.Table.{put}
use Rattle.nr_store.specs.Holders.{beside_of}
use Rattle.nr_store.proofs.Besides.{beside_stands, put_length}
use Rattle.nr_store.proofs.store.Store.step_register.Goals as goal

pub invariant_of-self : goal.invariant_of-self
invariant_of-self g c =
    let s = c.self.inside in
    let below = c.self.invariant.within in
    let suffice = c.self.invariant.beside_suffices in
    let old = put_length c.args.name c.in-Some-gone_on.register _ s.registers.entries (sym c.get.ensures ∙ c.in-Some.is) in
    rw c.put.ensures.is (beside_stands s.pool s.names s.drafts s.levels (beside_of s.gathering s.registers s.traps s.words) s.charge s.stored c.self.invariant (beside_of s.gathering (record s.registers { entries = put c.args.name c.in-Some-gone_on.register s.registers.entries }) s.traps s.words) s.charge (omega arith) below (record { gathering = suffice.gathering; registers = suffice.registers; traps = suffice.traps; words = suffice.words }))
