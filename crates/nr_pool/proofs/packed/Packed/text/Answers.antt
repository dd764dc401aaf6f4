use Rattle.std.proofs.lemmas.Grind.{common_steps}
use Rattle.std.proofs.Common.{refl, ap, length, arith}
use Rattle.nr_pool.specs.Slot.{texts_of}
use Rattle.nr_pool.specs.declared.slot.Slot.{Slot}
use Rattle.nr_pool.proofs.Places.{found, slot_is}
use Rattle.nr_pool.proofs.Rooms.{open_in}
use Rattle.nr_pool.proofs.packed.Packed.text.Goals as goal

pub offset_bounds-elements-start : goal.offset_bounds-elements-start
offset_bounds-elements-start g c =
    let packed = c.self.invariant.0.packed in
    let f = found _ _ _ _ _ _ packed refl c.id.view_is (open_in c.self.inside.capacity c.self.inside.most _ (texts_of c.self.inside.elements.items c.self.inside.slots.items) c.self.view_is _ c.requires) in
    let at = slot_is c.self.inside.slots.items c.id.inside.index _ c.index.ensures f.within in
    let starts = ap (λ (s : Slot). s.start) at in
    let lens = ap (λ (s : Slot). s.len) at in
    let inside = packed.inside c.id.inside.index (omega (arith, c.if-len-eq0.false)) in
    omega (arith, packed.room, ap length c.as_slice-elements.ensures.value)

pub slice_bounds-result-end-2 : goal.slice_bounds-result-end-2
slice_bounds-result-end-2 g c =
    let packed = c.self.invariant.0.packed in
    let f = found _ _ _ _ _ _ packed refl c.id.view_is (open_in c.self.inside.capacity c.self.inside.most _ (texts_of c.self.inside.elements.items c.self.inside.slots.items) c.self.view_is _ c.requires) in
    let at = slot_is c.self.inside.slots.items c.id.inside.index _ c.index.ensures f.within in
    let starts = ap (λ (s : Slot). s.start) at in
    let lens = ap (λ (s : Slot). s.len) at in
    let inside = packed.inside c.id.inside.index (omega (arith, c.if-len-eq0.false)) in
    let same = ap length c.as_slice-elements.ensures.value in
    let room = packed.room in
    omega arith

pub index-requires : goal.index-requires
index-requires g c = grind (arith, common_steps)

pub returns-then-len-eq0 : goal.returns-then-len-eq0
returns-then-len-eq0 g c = grind (arith, common_steps)

pub returns : goal.returns
returns g c = grind (arith, common_steps)
