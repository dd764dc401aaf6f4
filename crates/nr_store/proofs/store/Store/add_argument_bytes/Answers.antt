use Rattle.std.proofs.Common.{◌≡◌, ◌+◌, ◌≤◌, ◌<◌, ◌==◌, true, length, take, slice_index, ap, sym, ◌∙◌, subst, arith}
use Rattle.std.proofs.lemmas.List.{length-take}
use Rattle.nr_levels.specs.Gathering.{Gathering}
use Rattle.nr_levels.specs.Laws.{with_bytes-full}
use Rattle.nr_store.specs.Store.{Stored, charge_of, gathering}
use Rattle.nr_store.specs.Holders.{beside_of, stored_of}
use Rattle.nr_store.proofs.Besides.{extended_charge, extended_stands, gathering_charge}
use Rattle.nr_store.proofs.store.Store.add_argument_bytes.Goals as goal

pub returns-then-drops-clause-added : goal.returns-then-drops-clause-added
returns-then-drops-clause-added g c =
    let now = c.args.self.now in
    let bytes = take (length c.args.bytes.now) c.args.bytes.now in
    let full : (length now.gathered.kept == 9) ≡ true = ap (λ (v : Stored _). length v.gathered.kept == 9) (sym c.self.view_is) ∙ sym c.is_full-drops.ensures ∙ c.if-drops.true in
    ap (λ x. record now { gathered = x }) (sym (with_bytes-full bytes now.gathered full))

pub invariant_of-self : goal.invariant_of-self
invariant_of-self g c =
    let s = c.self.inside in
    let bytes = take c.min-count.result c.args.bytes.now in
    let count = c.min-count.ensures in
    let long : length bytes ≡ c.min-count.result = omega (arith, count, length-take c.min-count.result c.args.bytes.now) in
    rw c.extend.ensures (extended_stands s.pool s.names s.drafts s.levels s.gathering s.registers s.traps s.words s.charge s.stored c.self.invariant
    (sym c.is_full-drops.ensures ∙ c.if-drops.false) bytes c.min-count.result long (let within = c.self.invariant.within in omega (arith, count, within)))

pub returns-clause-afforded : goal.returns-clause-afforded
returns-clause-afforded g c =
    let s = c.self.inside in
    let bytes = take c.min-count.result c.args.bytes.now in
    let count = c.min-count.ensures in
    let long : length bytes ≡ c.min-count.result = omega (arith, count, length-take c.min-count.result c.args.bytes.now) in
    let charged = extended_charge s.pool s.names s.drafts s.levels s.gathering s.registers s.traps s.words s.charge s.stored c.self.invariant
    (sym c.is_full-drops.ensures ∙ c.if-drops.false) bytes c.min-count.result long in
    let fits : s.charge + c.min-count.result ≤ s.stored = let within = c.self.invariant.within in omega (arith, count, within) in
    subst (λ (x : Gathering). charge_of (stored_of s.pool s.names.entries s.drafts.items s.levels (beside_of x s.registers s.traps s.words) s.stored) ≤ s.stored) (sym c.extend.ensures) (subst (λ n. n ≤ s.stored) charged fits)

pub returns-clause-most : goal.returns-clause-most
returns-clause-most g c = λ fewer.
    let s = c.self.inside in
    let bytes = take c.min-count.result c.args.bytes.now in
    let b = slice_index c.args.bytes.now c.min-count.result in
    let count = c.min-count.ensures in
    let long : length bytes ≡ c.min-count.result = omega (arith, count, length-take c.min-count.result c.args.bytes.now) in
    let charged = gathering_charge s.pool s.names s.drafts s.levels s.gathering s.registers s.traps s.words s.charge s.stored c.self.invariant
    (sym c.is_full-drops.ensures ∙ c.if-drops.false) bytes c.min-count.result long b in
    let above : s.stored < s.charge + c.min-count.result + 1 = let within = c.self.invariant.within in omega (arith, count, within, fewer) in
    subst (λ (x : Gathering). s.stored < charge_of (gathering b (stored_of s.pool s.names.entries s.drafts.items s.levels (beside_of x s.registers s.traps s.words) s.stored))) (sym c.extend.ensures) (subst (λ n. s.stored < n) (sym charged) above)
