use Rattle.std.proofs.lemmas.Grind.{common_steps}
use Rattle.std.proofs.Common.{◌+◌, ◌≤◌, ◌++◌, length, refl, arith}
use Rattle.std.proofs.lemmas.Bool.{false≢true}
use Rattle.nr_pool.specs.Laws.{open_after_text, within_of_open}
use Rattle.nr_pool.specs.Slot.{texts_of}
use Rattle.nr_pool.proofs.Places.{found, extended, slot_is}
use Rattle.nr_pool.proofs.Changes.{after_more, kept_after}
use Rattle.nr_pool.proofs.Rooms.{open_in, lifted_text, longer, too_many, not_too_many, written_more}
use Rattle.nr_pool.proofs.packed.Packed.append_slice.Goals as goal

pub returns-then-count-self-clause-full : goal.returns-then-count-self-clause-full
returns-then-count-self-clause-full g c = (λ _. too_many _ _ _ _ _ _ _ _ _ c.self.invariant.0 c.self.view_is c.if-count-self.true, λ _. refl)

pub returns-then-count-eq0-clause-full : goal.returns-then-count-eq0-clause-full
returns-then-count-eq0-clause-full g c =
    (λ ok. absurd (false≢true ok), λ more. absurd (not_too_many _ _ _ _ _ _ _ _ _ c.self.invariant.0 c.self.view_is c.if-count-self.false more))

pub returns-clause-full : goal.returns-clause-full
returns-clause-full g c =
    (λ ok. absurd (false≢true ok), λ more. absurd (not_too_many _ _ _ _ _ _ _ _ _ c.self.invariant.0 c.self.view_is c.if-count-self.false more))

pub bring_last-requires-clause-packed : goal.bring_last-requires-clause-packed
bring_last-requires-clause-packed g c =
    (longer _ _ _ _ _ _ _ _ _ _ c.self.invariant.0 c.self.view_is c.lengthen.ensures.items (omega (arith, c.lengthen.ensures.held, c.lengthen.ensures.room, c.self.invariant.1.0))).packed

pub invariant_of-self : goal.invariant_of-self
invariant_of-self g c =
    let last = c.bring_last.ensures in
    let kept = c.self.invariant.0 in
    let more = longer _ _ _ _ _ _ _ _ _ _ kept c.self.view_is c.lengthen.ensures.items (omega (arith, c.lengthen.ensures.held, c.lengthen.ensures.room, c.self.invariant.1.0)) in
    let is_open = open_in c.self.inside.capacity c.self.inside.most _ (texts_of c.lengthen.new.self.items c.self.inside.slots.items) more.view _ c.requires in
    let lengths = c.bring_last.ensures.elements in
    let room = (let below : c.self.inside.used + length c.args.elements.now ≤ length c.bring_last.new.elements.items = omega (arith, c.lengthen.ensures.least) in below) in
    let here = found _ _ _ _ _ _ last.packed last.same c.id.view_is is_open in
    let at = slot_is c.bring_last.new.slots.items c.id.inside.index _ c.index_mut.ensures.value here.within in
    rw at (
      kept_after _ _ _ _ _ _ _ _ _ _ _ _ _ _ kept (after_more _ _ _ _ _ _ _ _ last.packed (last.spares _ _ kept.spares) last.same c.id.view_is is_open _ _ _ _ (written_more _ _ _ c.args.elements.now c.write_at.ensures.items room) last.last (omega arith) refl refl refl refl)
          (omega (arith, c.write_at.ensures.len, c.lengthen.ensures.held, c.lengthen.ensures.room, c.self.invariant.1.0)) (omega (arith, c.bring_last.ensures.slots, kept.slots_within)),
      (omega (arith, c.lengthen.ensures.room, c.bring_last.ensures.elements_room, c.write_at.ensures.room), omega (arith, c.bring_last.ensures.slots_room, c.self.invariant.1.1)),
    )

pub returns-clause-ok : goal.returns-clause-ok
returns-clause-ok g c =
    let last = c.bring_last.ensures in
    let kept = c.self.invariant.0 in
    let more = longer _ _ _ _ _ _ _ _ _ _ kept c.self.view_is c.lengthen.ensures.items (omega (arith, c.lengthen.ensures.held, c.lengthen.ensures.room, c.self.invariant.1.0)) in
    let is_open = open_in c.self.inside.capacity c.self.inside.most _ (texts_of c.lengthen.new.self.items c.self.inside.slots.items) more.view _ c.requires in
    let lengths = c.bring_last.ensures.elements in
    let room = (let below : c.self.inside.used + length c.args.elements.now ≤ length c.bring_last.new.elements.items = omega (arith, c.lengthen.ensures.least) in below) in
    let here = found _ _ _ _ _ _ last.packed last.same c.id.view_is is_open in
    let at = slot_is c.bring_last.new.slots.items c.id.inside.index _ c.index_mut.ensures.value here.within in
    rw at (lifted_text c.self.inside.capacity c.self.inside.most _ (texts_of c.lengthen.new.self.items c.self.inside.slots.items) more.view _ _ (λ ys. ys ++ c.args.elements.now) (within_of_open (texts_of c.lengthen.new.self.items c.self.inside.slots.items) _ is_open)
    (extended _ _ _ _ _ _ _ _ last.packed last.same c.id.view_is is_open last.last (omega arith) (written_more _ _ _ c.args.elements.now c.write_at.ensures.items room) _ refl refl refl))

pub returns-clause-keeps : goal.returns-clause-keeps
returns-clause-keeps g c = open_after_text c.args.self.now _ _ _ (returns-clause-ok g c)

pub returns-then-count-eq0-clause-ok : goal.returns-then-count-eq0-clause-ok
returns-then-count-eq0-clause-ok g c = grind (arith, common_steps)

pub bring_last-requires-clause-within : goal.bring_last-requires-clause-within
bring_last-requires-clause-within g c = grind (arith, common_steps)

pub bring_last-requires-clause-held : goal.bring_last-requires-clause-held
bring_last-requires-clause-held g c = grind (arith, common_steps)

pub index_mut-requires : goal.index_mut-requires
index_mut-requires g c = grind (arith, common_steps)

pub overflow_add-index_mut : goal.overflow_add-index_mut
overflow_add-index_mut g c = grind (arith, common_steps)
