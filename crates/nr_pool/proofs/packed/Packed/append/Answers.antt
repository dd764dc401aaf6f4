use Rattle.std.proofs.lemmas.Grind.{common_steps}
use Rattle.std.proofs.Common.{◌<◌, [], ◌∷◌, ◌++◌, length, refl, sym, ap, ◌∙◌, arith}
use Rattle.std.proofs.lemmas.Bool.{false≢true}
use Rattle.nr_pool.specs.Texts.{Texts}
use Rattle.nr_pool.specs.Laws.{open_after_text, within_of_open}
use Rattle.nr_pool.specs.Slot.{texts_of}
use Rattle.nr_pool.proofs.Places.{found, used_is, extended, one_more, slot_is}
use Rattle.nr_pool.proofs.Changes.{after_more, kept_after}
use Rattle.nr_pool.proofs.Rooms.{open_in, same_used, lifted_text, longer}
use Rattle.nr_pool.proofs.packed.Packed.append.Goals as goal

pub returns-then-used-self-clause-full : goal.returns-then-used-self-clause-full
returns-then-used-self-clause-full g c = (
  λ _. same_used c.self.inside.capacity c.self.inside.most _ (texts_of c.self.inside.elements.items c.self.inside.slots.items) c.self.view_is ∙ used_is _ _ _ _ c.self.invariant.0.packed refl ∙ c.if-used-self.true ∙ ap (λ (p : Texts g.row.T.Denot). p.capacity) c.self.view_is,
  λ _. refl,
)

pub returns-clause-full : goal.returns-clause-full
returns-clause-full g c = (
  λ ok. absurd (false≢true ok),
  λ full. absurd (c.if-used-self.false (sym (same_used c.self.inside.capacity c.self.inside.most _ (texts_of c.self.inside.elements.items c.self.inside.slots.items) c.self.view_is ∙ used_is _ _ _ _ c.self.invariant.0.packed refl) ∙ full ∙ sym (ap (λ (p : Texts g.row.T.Denot). p.capacity) c.self.view_is))),
)

pub bring_last-requires-clause-packed : goal.bring_last-requires-clause-packed
bring_last-requires-clause-packed g c =
    (longer _ _ _ _ _ _ _ _ _ _ c.self.invariant.0 c.self.view_is c.lengthen.ensures.items (omega (arith, c.lengthen.ensures.held, c.lengthen.ensures.room, c.self.invariant.1.0))).packed

pub invariant_of-self : goal.invariant_of-self
invariant_of-self g c =
    let last = c.bring_last.ensures in
    let kept = c.self.invariant.0 in
    let more = longer _ _ _ _ _ _ _ _ _ _ kept c.self.view_is c.lengthen.ensures.items (omega (arith, c.lengthen.ensures.held, c.lengthen.ensures.room, c.self.invariant.1.0)) in
    let is_open = open_in c.self.inside.capacity c.self.inside.most _ (texts_of c.lengthen.new.self.items c.self.inside.slots.items) more.view _ c.requires in
    let lengths = c.bring_last.ensures.elements in
    let room = (let below : c.self.inside.used < length c.bring_last.new.elements.items = omega (arith, c.lengthen.ensures.least) in below) in
    let here = found _ _ _ _ _ _ last.packed last.same c.id.view_is is_open in
    let at = slot_is c.bring_last.new.slots.items c.id.inside.index _ c.index_mut-2.ensures.value here.within in
    rw at (
      kept_after _ _ _ _ _ _ _ _ _ _ _ _ _ _ kept (after_more _ _ _ _ _ _ _ _ last.packed (last.spares _ _ kept.spares) last.same c.id.view_is is_open _ _ _ _ (one_more _ _ c.args.element room) last.last (omega arith) refl refl refl refl)
          (let same = (one_more c.bring_last.new.elements.items c.self.inside.used c.args.element room).same_length in omega (arith, c.lengthen.ensures.held, c.lengthen.ensures.room, c.self.invariant.1.0)) (omega (arith, c.bring_last.ensures.slots, kept.slots_within)),
      (omega (arith, c.lengthen.ensures.room, c.bring_last.ensures.elements_room), omega (arith, c.bring_last.ensures.slots_room, c.self.invariant.1.1)),
    )

pub returns-clause-ok : goal.returns-clause-ok
returns-clause-ok g c =
    let last = c.bring_last.ensures in
    let kept = c.self.invariant.0 in
    let more = longer _ _ _ _ _ _ _ _ _ _ kept c.self.view_is c.lengthen.ensures.items (omega (arith, c.lengthen.ensures.held, c.lengthen.ensures.room, c.self.invariant.1.0)) in
    let is_open = open_in c.self.inside.capacity c.self.inside.most _ (texts_of c.lengthen.new.self.items c.self.inside.slots.items) more.view _ c.requires in
    let lengths = c.bring_last.ensures.elements in
    let room = (let below : c.self.inside.used < length c.bring_last.new.elements.items = omega (arith, c.lengthen.ensures.least) in below) in
    let here = found _ _ _ _ _ _ last.packed last.same c.id.view_is is_open in
    let at = slot_is c.bring_last.new.slots.items c.id.inside.index _ c.index_mut-2.ensures.value here.within in
    rw at (lifted_text c.self.inside.capacity c.self.inside.most _ (texts_of c.lengthen.new.self.items c.self.inside.slots.items) more.view _ _ (λ ys. ys ++ c.args.element ∷ []) (within_of_open (texts_of c.lengthen.new.self.items c.self.inside.slots.items) _ is_open)
    (extended _ _ _ _ _ _ _ _ last.packed last.same c.id.view_is is_open last.last (omega arith) (one_more _ _ c.args.element room) _ refl refl refl))

pub returns-clause-keeps : goal.returns-clause-keeps
returns-clause-keeps g c = open_after_text c.args.self.now _ _ _ (returns-clause-ok g c)

pub bring_last-requires-clause-within : goal.bring_last-requires-clause-within
bring_last-requires-clause-within g c = grind (arith, common_steps)

pub bring_last-requires-clause-held : goal.bring_last-requires-clause-held
bring_last-requires-clause-held g c = grind (arith, common_steps)

pub index_mut-requires-2 : goal.index_mut-requires-2
index_mut-requires-2 g c = grind (arith, common_steps)

pub overflow_add-index_mut : goal.overflow_add-index_mut
overflow_add-index_mut g c = grind (arith, common_steps)
