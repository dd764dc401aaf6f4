use Rattle.std.proofs.Common.{◌+◌, ap, refl, sym, arith}
use Rattle.nr_pool.specs.Laws.{open_after_entry, within_of_open}
use Rattle.nr_pool.specs.Slot.{texts_of}
use Rattle.nr_pool.proofs.Places.{found, held_by, slot_is}
use Rattle.nr_pool.proofs.Changes.{after_hold, kept_after}
use Rattle.nr_pool.proofs.Rooms.{open_in, lifted_holders}
use Rattle.nr_pool.proofs.packed.Packed.hold.Goals as goal

pub invariant_of-self : goal.invariant_of-self
invariant_of-self g c =
    let kept = c.self.invariant.0 in
    let is_open = open_in c.self.inside.capacity c.self.inside.most _ (texts_of c.self.inside.elements.items c.self.inside.slots.items) c.self.view_is _ c.requires.is_open in
    let f = found _ _ _ _ _ _ kept.packed refl c.id.view_is is_open in
    let at = slot_is c.self.inside.slots.items c.id.inside.index _ c.index_mut.ensures.value f.within in
    rw at (kept_after _ _ _ _ _ _ _ _ _ _ _ _ _ _ kept (after_hold _ _ _ _ _ _ _ _ kept.packed kept.spares refl c.id.view_is is_open _ refl refl (omega arith)) kept.elements_within kept.slots_within, c.self.invariant.1)

pub returns-clause-held : goal.returns-clause-held
returns-clause-held g c =
    let kept = c.self.invariant.0 in
    let is_open = open_in c.self.inside.capacity c.self.inside.most _ (texts_of c.self.inside.elements.items c.self.inside.slots.items) c.self.view_is _ c.requires.is_open in
    let f = found _ _ _ _ _ _ kept.packed refl c.id.view_is is_open in
    let at = slot_is c.self.inside.slots.items c.id.inside.index _ c.index_mut.ensures.value f.within in
    rw at (lifted_holders c.self.inside.capacity c.self.inside.most _ (texts_of c.self.inside.elements.items c.self.inside.slots.items) c.self.view_is _ _ (λ n. n + 1) (within_of_open (texts_of c.self.inside.elements.items c.self.inside.slots.items) _ is_open)
    (held_by _ _ _ _ _ _ _ _ kept.packed refl c.id.view_is is_open refl refl (ap (λ n. n + 1) (sym f.holders_is))))

pub returns-clause-keeps : goal.returns-clause-keeps
returns-clause-keeps g c = open_after_entry c.args.self.now _ _ _ (omega arith) (within_of_open c.args.self.now _ c.requires.is_open) (returns-clause-held g c)
