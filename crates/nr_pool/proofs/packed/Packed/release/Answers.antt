use Rattle.std.proofs.Common.{◌-◌, refl, ap, sym, ◌∙◌, arith}
use Rattle.nr_pool.specs.Laws.{released-held, open_after_entry, within_of_open}
use Rattle.nr_pool.specs.Texts.{Held}
use Rattle.nr_pool.specs.Slot.{texts_of}
use Rattle.nr_pool.proofs.Places.{found, held_by, slot_is}
use Rattle.nr_pool.proofs.Changes.{after_hold, kept_after}
use Rattle.nr_pool.proofs.Rooms.{open_in, same_entry, lifted_holders}
use Rattle.nr_pool.proofs.packed.Packed.release.Goals as goal

pub invariant_of-self : goal.invariant_of-self
invariant_of-self g c =
    let kept = c.self.invariant.0 in
    let is_open = open_in c.self.inside.capacity c.self.inside.most _ (texts_of c.self.inside.elements.items c.self.inside.slots.items) c.self.view_is _ c.requires in
    let f = found _ _ _ _ _ _ kept.packed refl c.id.view_is is_open in
    let at = slot_is c.self.inside.slots.items c.id.inside.index _ c.index_mut.ensures.value f.within in
    let same = ap (λ (t : Held _). t.holders) (same_entry c.self.inside.capacity c.self.inside.most _ (texts_of c.self.inside.elements.items c.self.inside.slots.items) c.self.view_is c.args.id) in
    rw at (kept_after _ _ _ _ _ _ _ _ _ _ _ _ _ _ kept (after_hold _ _ _ _ _ _ _ _ kept.packed kept.spares refl c.id.view_is is_open _ refl refl (omega (arith, same, f.holders_is))) kept.elements_within kept.slots_within, c.self.invariant.1)

pub returns-else-holders-eq1-clause-released : goal.returns-else-holders-eq1-clause-released
returns-else-holders-eq1-clause-released g c =
    let kept = c.self.invariant.0 in
    let is_open = open_in c.self.inside.capacity c.self.inside.most _ (texts_of c.self.inside.elements.items c.self.inside.slots.items) c.self.view_is _ c.requires in
    let f = found _ _ _ _ _ _ kept.packed refl c.id.view_is is_open in
    let at = slot_is c.self.inside.slots.items c.id.inside.index _ c.index_mut.ensures.value f.within in
    rw at (lifted_holders c.self.inside.capacity c.self.inside.most _ (texts_of c.self.inside.elements.items c.self.inside.slots.items) c.self.view_is _ _ (λ n. n - 1) (within_of_open (texts_of c.self.inside.elements.items c.self.inside.slots.items) _ is_open)
    (held_by _ _ _ _ _ _ _ _ kept.packed refl c.id.view_is is_open refl refl (ap (λ n. n - 1) (sym f.holders_is)))
    ∙ sym (released-held c.args.self.now c.args.id (omega arith)))

pub returns-else-holders-eq1-clause-keeps : goal.returns-else-holders-eq1-clause-keeps
returns-else-holders-eq1-clause-keeps g c =
    let kept = c.self.invariant.0 in
    let is_open = open_in c.self.inside.capacity c.self.inside.most _ (texts_of c.self.inside.elements.items c.self.inside.slots.items) c.self.view_is _ c.requires in
    let f = found _ _ _ _ _ _ kept.packed refl c.id.view_is is_open in
    let at = slot_is c.self.inside.slots.items c.id.inside.index _ c.index_mut.ensures.value f.within in
    rw at (λ other _ open_too. open_after_entry c.args.self.now _ _ _ (omega arith) (within_of_open c.args.self.now _ c.requires)
    (lifted_holders c.self.inside.capacity c.self.inside.most _ (texts_of c.self.inside.elements.items c.self.inside.slots.items) c.self.view_is _ _ (λ n. n - 1) (within_of_open (texts_of c.self.inside.elements.items c.self.inside.slots.items) _ is_open)
    (held_by _ _ _ _ _ _ _ _ kept.packed refl c.id.view_is is_open refl refl (ap (λ n. n - 1) (sym f.holders_is)))) other open_too)
