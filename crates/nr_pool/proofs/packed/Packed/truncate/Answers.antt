use Rattle.std.proofs.lemmas.Grind.{common_steps}
use Rattle.std.proofs.Common.{take, refl, ap, ◌∙◌, length, arith}
use Rattle.nr_pool.specs.Texts.{Held}
use Rattle.nr_pool.specs.Laws.{open_after_text, within_of_open}
use Rattle.nr_pool.specs.Slot.{texts_of}
use Rattle.nr_pool.proofs.Places.{found, shortened, slot_is}
use Rattle.nr_pool.proofs.Changes.{after_length, kept_after}
use Rattle.nr_pool.proofs.Rooms.{open_in, same_entry, lifted_text}
use Rattle.nr_pool.proofs.packed.Packed.truncate.Goals as goal

pub invariant_of-self : goal.invariant_of-self
invariant_of-self g c =
    let last = c.bring_last.ensures in
    let kept = c.self.invariant.0 in
    let is_open = open_in c.self.inside.capacity c.self.inside.most _ (texts_of c.self.inside.elements.items c.self.inside.slots.items) c.self.view_is _ c.requires in
    let f = found _ _ _ _ _ _ last.packed last.same c.id.view_is is_open in
    let at_end = last.last in
    let within = last.packed.room in
    let len_is = ap (λ (t : Held _). length t.elements) (same_entry c.self.inside.capacity c.self.inside.most _ (texts_of c.self.inside.elements.items c.self.inside.slots.items) c.self.view_is c.args.id) ∙ f.len_is in
    let at = slot_is c.bring_last.new.slots.items c.id.inside.index _ c.index_mut-slot.ensures.value f.within in
    rw at (
      kept_after _ _ _ _ _ _ _ _ _ _ _ _ _ _ kept (after_length _ _ _ _ _ _ _ _ last.packed (last.spares _ _ kept.spares) last.same c.id.view_is is_open _ _ at_end (omega arith) (omega arith) refl refl)
          (omega (arith, c.bring_last.ensures.elements, kept.elements_within)) (omega (arith, c.bring_last.ensures.slots, kept.slots_within)),
      (omega (arith, c.bring_last.ensures.elements_room, c.self.invariant.1.0), omega (arith, c.bring_last.ensures.slots_room, c.self.invariant.1.1)),
    )

pub returns-clause-truncated : goal.returns-clause-truncated
returns-clause-truncated g c =
    let last = c.bring_last.ensures in
    let is_open = open_in c.self.inside.capacity c.self.inside.most _ (texts_of c.self.inside.elements.items c.self.inside.slots.items) c.self.view_is _ c.requires in
    let f = found _ _ _ _ _ _ last.packed last.same c.id.view_is is_open in
    let len_is = ap (λ (t : Held _). length t.elements) (same_entry c.self.inside.capacity c.self.inside.most _ (texts_of c.self.inside.elements.items c.self.inside.slots.items) c.self.view_is c.args.id) ∙ f.len_is in
    let at = slot_is c.bring_last.new.slots.items c.id.inside.index _ c.index_mut-slot.ensures.value f.within in
    rw at (lifted_text c.self.inside.capacity c.self.inside.most _ (texts_of c.self.inside.elements.items c.self.inside.slots.items) c.self.view_is _ _ (take c.args.len) (within_of_open (texts_of c.self.inside.elements.items c.self.inside.slots.items) _ is_open)
    (shortened _ _ _ _ _ _ _ _ last.packed last.same c.id.view_is is_open (omega arith) refl refl refl))

pub returns-clause-keeps : goal.returns-clause-keeps
returns-clause-keeps g c = open_after_text c.args.self.now _ _ _ (returns-clause-truncated g c)

pub returns-then-len-clause-truncated : goal.returns-then-len-clause-truncated
returns-then-len-clause-truncated g c = grind (arith, common_steps)

pub bring_last-requires-clause-within : goal.bring_last-requires-clause-within
bring_last-requires-clause-within g c = grind (arith, common_steps)

pub bring_last-requires-clause-held : goal.bring_last-requires-clause-held
bring_last-requires-clause-held g c = grind (arith, common_steps)

pub index_mut-slot-requires : goal.index_mut-slot-requires
index_mut-slot-requires g c = grind (arith, common_steps)

pub overflow_cast-self : goal.overflow_cast-self
overflow_cast-self g c = grind (arith, common_steps)

pub overflow_sub-self : goal.overflow_sub-self
overflow_sub-self g c = grind (arith, common_steps)

pub overflow_sub-self-2 : goal.overflow_sub-self-2
overflow_sub-self-2 g c = grind (arith, common_steps)

pub overflow_cast-slot : goal.overflow_cast-slot
overflow_cast-slot g c = grind (arith, common_steps)
