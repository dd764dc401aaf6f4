use Rattle.std.proofs.lemmas.Grind.{common_steps}
use Rattle.std.proofs.Common.{set, refl, ap, length, arith}
use Rattle.nr_pool.specs.Texts.{Held}
use Rattle.nr_pool.specs.Laws.{open_after_text, within_of_open}
use Rattle.nr_pool.specs.Slot.{texts_of}
use Rattle.nr_pool.proofs.Places.{found, replaced, slot_is}
use Rattle.nr_pool.proofs.Rooms.{open_in, same_entry, lifted_text}
use Rattle.nr_pool.proofs.packed.Packed.set.Goals as goal

pub returns-clause-replaced : goal.returns-clause-replaced
returns-clause-replaced g c =
    let kept = c.self.invariant.0 in
    let is_open = open_in c.self.inside.capacity c.self.inside.most _ (texts_of c.self.inside.elements.items c.self.inside.slots.items) c.self.view_is _ c.requires.is_open in
    let same = ap (λ (t : Held _). length t.elements) (same_entry c.self.inside.capacity c.self.inside.most _ (texts_of c.self.inside.elements.items c.self.inside.slots.items) c.self.view_is c.args.id) in
    let f = found _ _ _ _ _ _ kept.packed refl c.id.view_is is_open in
    let at = slot_is c.self.inside.slots.items c.id.inside.index _ c.index.ensures f.within in
    rw at (lifted_text c.self.inside.capacity c.self.inside.most _ (texts_of c.self.inside.elements.items c.self.inside.slots.items) c.self.view_is _ _ (λ xs. set xs c.args.place c.args.element) (within_of_open (texts_of c.self.inside.elements.items c.self.inside.slots.items) _ is_open)
    (replaced _ _ _ _ _ _ c.args.place _ kept.packed refl c.id.view_is is_open (omega (arith, same, c.requires.within))))

pub returns-clause-keeps : goal.returns-clause-keeps
returns-clause-keeps g c = open_after_text _ _ _ _ (returns-clause-replaced g c)

pub index-requires : goal.index-requires
index-requires g c = grind (arith, common_steps)

pub overflow_add-start : goal.overflow_add-start
overflow_add-start g c = grind (arith, common_steps)

pub index_mut-requires : goal.index_mut-requires
index_mut-requires g c = grind (arith, common_steps)
