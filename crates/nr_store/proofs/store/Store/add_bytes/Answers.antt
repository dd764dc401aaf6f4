use Rattle.std.proofs.Common.{◌≡◌, ℕ, ◌+◌, ◌≤◌, ◌<◌, List, [], ◌∷◌, length, map, take, drop, slice_index, ap, sym, ◌∙◌, subst, arith}
use Rattle.std.proofs.lemmas.List.{length-map, length-take, length-take-le}
use Rattle.nr_pool.specs.Texts.{Texts}
use Rattle.nr_store.specs.Holders.{beside_of, stored_of}
use Rattle.nr_store.specs.Store.{charge_of, added}
use Rattle.nr_store.specs.declared.element.Element.{Element}
use Rattle.nr_store.specs.declared.element.Element.TheVariants as elements
use Rattle.nr_store.proofs.Keeping.{room_for_elements}
use Rattle.nr_store.proofs.Building.{cons_of, one_holder, added_is, run_stands, run_afforded, charge_after_run}
use Rattle.nr_store.proofs.store.Store.add_bytes.Goals as goal

as_many : (n : ℕ) (bytes : List ℕ) → n ≤ length bytes → length (map elements.Byte (take n bytes)) ≡ n
as_many n bytes within = length-map (take n bytes) elements.Byte ∙ length-take-le n bytes within

pub append_all-requires-clause-is_open : goal.append_all-requires-clause-is_open
append_all-requires-clause-is_open g c =
    let s = c.self.inside in
    let one = one_holder s.pool s.names s.drafts s.levels (beside_of s.gathering s.registers s.traps s.words) s.charge s.stored c.in-Some.draft (drop 1 s.drafts.items) [] c.self.invariant (cons_of _ _ (sym c.top.ensures ∙ c.in-Some.is)) in
    omega (arith, one)

pub append_all-requires-clause-room : goal.append_all-requires-clause-room
append_all-requires-clause-room g c =
    let s = c.self.inside in
    let count = c.min-count.result in
    let within = c.self.invariant.within in
    let counted = c.min-count.ensures in
    let room = room_for_elements s.pool s.names s.drafts s.levels (beside_of s.gathering s.registers s.traps s.words) s.charge s.stored count c.self.invariant (omega (arith, within, counted)) in
    omega (arith, room, length-take count c.args.bytes.now)

pub invariant_of-self : goal.invariant_of-self
invariant_of-self g c =
    let s = c.self.inside in
    let count = c.min-count.result in
    let bytes = take count c.args.bytes.now in
    let within = c.self.invariant.within in
    let counted = c.min-count.ensures in
    let long = as_many count c.args.bytes.now (omega (arith, counted)) in
    rw c.append_all.ensures (run_stands s.pool s.names s.drafts s.levels (beside_of s.gathering s.registers s.traps s.words) s.charge s.stored c.in-Some.draft (drop 1 s.drafts.items) (map elements.Byte bytes) count c.self.invariant
    (cons_of _ _ (sym c.top.ensures ∙ c.in-Some.is)) long (omega (arith, within, counted)))

pub returns-clause-added : goal.returns-clause-added
returns-clause-added g c =
    let s = c.self.inside in
    let xs = map elements.Byte (take c.min-count.result c.args.bytes.now) in
    rw c.append_all.ensures (added_is s.pool s.names s.drafts s.levels (beside_of s.gathering s.registers s.traps s.words) s.charge s.stored c.in-Some.draft (drop 1 s.drafts.items) xs c.self.invariant
    (cons_of _ _ (sym c.top.ensures ∙ c.in-Some.is)) ∙ ap (added xs) c.self.view_is)

pub returns-clause-afforded : goal.returns-clause-afforded
returns-clause-afforded g c =
    let s = c.self.inside in
    let count = c.min-count.result in
    let bytes = take count c.args.bytes.now in
    let within = c.self.invariant.within in
    let counted = c.min-count.ensures in
    let long = as_many count c.args.bytes.now (omega (arith, counted)) in
    subst (λ (p : Texts Element). charge_of (stored_of p s.names.entries s.drafts.items s.levels (beside_of s.gathering s.registers s.traps s.words) s.stored) ≤ s.stored) (sym c.append_all.ensures)
    (run_afforded s.pool s.names s.drafts s.levels (beside_of s.gathering s.registers s.traps s.words) s.charge s.stored c.in-Some.draft (drop 1 s.drafts.items) (map elements.Byte bytes) count c.self.invariant
    (cons_of _ _ (sym c.top.ensures ∙ c.in-Some.is)) long (omega (arith, within, counted)))

pub returns-clause-most : goal.returns-clause-most
returns-clause-most g c = λ fewer.
    let s = c.self.inside in
    let count = c.min-count.result in
    let bytes = take count c.args.bytes.now in
    let b = slice_index c.args.bytes.now count in
    let within = c.self.invariant.within in
    let counted = c.min-count.ensures in
    let long = as_many count c.args.bytes.now (omega (arith, counted)) in
    let charged = charge_after_run s.pool s.names s.drafts s.levels (beside_of s.gathering s.registers s.traps s.words) s.charge s.stored c.in-Some.draft (drop 1 s.drafts.items) (map elements.Byte bytes) count c.self.invariant
    (cons_of _ _ (sym c.top.ensures ∙ c.in-Some.is)) long (omega (arith, within, counted)) (elements.Byte b) in
    let above : s.stored < s.charge + count + 1 = omega (arith, within, counted, fewer) in
    subst (λ (p : Texts Element). s.stored < charge_of (added (elements.Byte b ∷ []) (stored_of p s.names.entries s.drafts.items s.levels (beside_of s.gathering s.registers s.traps s.words) s.stored))) (sym c.append_all.ensures)
    (subst (λ n. s.stored < n) (sym charged) above)
