use Rattle.std.proofs.lemmas.Grind.{common_steps}
use Rattle.std.proofs.Common.{ap, sym, ◌∙◌, arith}
use Rattle.std.proofs.Math.Facts.{to_z-of_z}
use Rattle.nr_symbol_tables.specs.Trap.{without_trap}
use Rattle.nr_store.specs.Store.{Stored, trap_removed}
use Rattle.nr_store.specs.Holders.{beside_of, stored_of}
use Rattle.nr_store.proofs.store.Store.remove_trap.Goals as goal

pub returns-in_default : goal.returns-in_default
returns-in_default g c =
    let s = c.self.inside in
    let at = rw (c.as_slice.ensures.value, to_z-of_z c.ranges.place) at c.trap_at.ensures in
    sym (ap (λ (v : Stored _). trap_removed c.args.place v) (sym c.self.view_is) ∙ ap (λ o. record (stored_of s.pool s.names.entries s.drafts.items s.levels (beside_of s.gathering s.registers s.traps s.words) s.stored) { traps = without_trap o s.traps.items }) (sym at ∙ c.in_default.is) ∙ c.self.view_is)

pub returns : goal.returns
returns g c =
    let s = c.self.inside in
    let at = rw (c.as_slice.ensures.value, to_z-of_z c.ranges.place) at c.trap_at.ensures in
    rw c.remove.ensures.items
    (sym (ap (λ o. record (stored_of s.pool s.names.entries s.drafts.items s.levels (beside_of s.gathering s.registers s.traps s.words) s.stored) { traps = without_trap o s.traps.items }) (sym at ∙ c.in-Some.is)) ∙ ap (trap_removed c.args.place) c.self.view_is)

pub invariant_of-self : goal.invariant_of-self
invariant_of-self g c = grind (arith, common_steps)
