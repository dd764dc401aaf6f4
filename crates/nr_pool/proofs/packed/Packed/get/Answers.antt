use Rattle.std.proofs.lemmas.Grind.{common_steps}
use Rattle.std.proofs.Common.{Some, refl, ap, sym, ◌∙◌, arith}
use Rattle.nr_pool.specs.Texts.{Held}
use Rattle.nr_pool.specs.Slot.{texts_of}
use Rattle.nr_pool.proofs.Places.{found, element_is, slot_is}
use Rattle.nr_pool.proofs.Rooms.{open_in, same_entry}
use Rattle.nr_pool.proofs.packed.Packed.get.Goals as goal

pub returns : goal.returns
returns g c =
    let s = c.self.inside in
    let packed = c.self.invariant.0.packed in
    let is_open = open_in c.self.inside.capacity c.self.inside.most _ (texts_of c.self.inside.elements.items c.self.inside.slots.items) c.self.view_is _ c.requires.is_open in
    let f = found _ _ _ _ _ _ packed refl c.id.view_is is_open in
    let at = slot_is s.slots.items c.id.inside.index _ c.index.ensures f.within in
    let same = ap (λ (t : Held _). t.elements) (same_entry c.self.inside.capacity c.self.inside.most _ (texts_of c.self.inside.elements.items c.self.inside.slots.items) c.self.view_is c.args.id) in
    let found = rw at at c.index-2.ensures in
    rw same (element_is _ _ _ _ _ _ c.args.place c.index-2.result.now packed refl c.id.view_is is_open (rw same at c.requires.within) ∙ ap (λ (x : _). Some x) (sym found))

pub index-requires : goal.index-requires
index-requires g c = grind (arith, common_steps)

pub overflow_add-first : goal.overflow_add-first
overflow_add-first g c = grind (arith, common_steps)

pub index-requires-2 : goal.index-requires-2
index-requires-2 g c = grind (arith, common_steps)
