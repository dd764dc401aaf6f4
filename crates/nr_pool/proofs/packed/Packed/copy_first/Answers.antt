use Rattle.std.proofs.Common.{◌≡◌, ◌+◌, ◌≤◌, ◌++◌, length, take, drop, refl, sym, ap, ap₂, ◌∙◌, arith}
use Rattle.std.proofs.lemmas.Bool.{false≢true}
use Rattle.std.proofs.lemmas.List.{take-take, length-take-le}
use Rattle.nr_pool.specs.Texts.{text, Held}
use Rattle.nr_pool.specs.Laws.{open_after_text, within_of_open}
use Rattle.nr_pool.specs.Slot.{texts_of, slot_at}
use Rattle.nr_pool.specs.declared.slot.Slot.{Slot}
use Rattle.nr_pool.proofs.Places.{found, extended, copy_more, slot_is}
use Rattle.nr_pool.proofs.Changes.{after_more, kept_after}
use Rattle.nr_pool.proofs.Rooms.{open_in, same_entry, lifted_text, longer, too_many, not_too_many}
use Rattle.nr_pool.proofs.packed.Packed.copy_first.Goals as goal

pub returns-then-len-self-clause-full : goal.returns-then-len-self-clause-full
returns-then-len-self-clause-full g c = (λ _. too_many _ _ _ _ _ _ _ _ _ c.self.invariant.0 c.self.view_is (omega arith), λ _. refl)

pub returns-then-len-eq0-clause-full : goal.returns-then-len-eq0-clause-full
returns-then-len-eq0-clause-full g c =
    (λ ok. absurd (false≢true ok), λ more. absurd (not_too_many _ _ _ _ _ _ _ _ _ c.self.invariant.0 c.self.view_is (omega arith) more))

pub returns-clause-full : goal.returns-clause-full
returns-clause-full g c =
    (λ ok. absurd (false≢true ok), λ more. absurd (not_too_many _ _ _ _ _ _ _ _ _ c.self.invariant.0 c.self.view_is (omega arith) more))

pub bring_last-requires-clause-packed : goal.bring_last-requires-clause-packed
bring_last-requires-clause-packed g c =
    (longer _ _ _ _ _ _ _ _ _ _ c.self.invariant.0 c.self.view_is c.lengthen.ensures.items (omega (arith, c.lengthen.ensures.held, c.lengthen.ensures.room, c.self.invariant.1.0))).packed

pub copy_within-requires-clause-in_bounds : goal.copy_within-requires-clause-in_bounds
copy_within-requires-clause-in_bounds g c =
    let s = c.self.inside in
    let last = c.bring_last.ensures in
    let kept = c.self.invariant.0 in
    let E = c.bring_last.new.elements.items in
    let more = longer _ _ _ _ _ _ _ _ _ _ kept c.self.view_is c.lengthen.ensures.items (omega (arith, c.lengthen.ensures.held, c.lengthen.ensures.room, c.self.invariant.1.0)) in
    let f = found _ _ _ _ _ _ last.packed last.same c.from.view_is (open_in s.capacity s.most _ (texts_of c.lengthen.new.self.items s.slots.items) more.view _ c.requires.from_open) in
    let at_from = slot_is c.bring_last.new.slots.items c.from.inside.index _ c.index.ensures f.within in
    let starts : c.index.result.now.start ≡ (slot_at c.bring_last.new.slots.items c.from.inside.index).start = ap (λ (t : Slot). t.start) at_from in
    let same = same_entry s.capacity s.most _ (texts_of c.lengthen.new.self.items s.slots.items) more.view c.args.from in
    let lens : length (text c.args.self.now c.args.from) ≡ (slot_at c.bring_last.new.slots.items c.from.inside.index).len = ap (λ (t : Held _). length t.elements) same ∙ f.len_is in
    let first : c.args.len ≤ length (text c.args.self.now c.args.from) = c.requires.within in
    let inside = last.packed.inside c.from.inside.index (omega (arith, c.if-len-eq0.false)) in
    omega (arith, last.packed.room)

pub invariant_of-self : goal.invariant_of-self
invariant_of-self g c =
    let s = c.self.inside in
    let last = c.bring_last.ensures in
    let kept = c.self.invariant.0 in
    let E = c.bring_last.new.elements.items in
    let more = longer _ _ _ _ _ _ _ _ _ _ kept c.self.view_is c.lengthen.ensures.items (omega (arith, c.lengthen.ensures.held, c.lengthen.ensures.room, c.self.invariant.1.0)) in
    let f = found _ _ _ _ _ _ last.packed last.same c.from.view_is (open_in s.capacity s.most _ (texts_of c.lengthen.new.self.items s.slots.items) more.view _ c.requires.from_open) in
    let at_from = slot_is c.bring_last.new.slots.items c.from.inside.index _ c.index.ensures f.within in
    let starts : c.index.result.now.start ≡ (slot_at c.bring_last.new.slots.items c.from.inside.index).start = ap (λ (t : Slot). t.start) at_from in
    let same = same_entry s.capacity s.most _ (texts_of c.lengthen.new.self.items s.slots.items) more.view c.args.from in
    let lens : length (text c.args.self.now c.args.from) ≡ (slot_at c.bring_last.new.slots.items c.from.inside.index).len = ap (λ (t : Held _). length t.elements) same ∙ f.len_is in
    let first : c.args.len ≤ length (text c.args.self.now c.args.from) = c.requires.within in
    let is_open = open_in s.capacity s.most _ (texts_of c.lengthen.new.self.items s.slots.items) more.view _ c.requires.to_open in
    let lengths = last.elements in
    let room : s.used + c.args.len ≤ length E = omega (arith, c.lengthen.ensures.least) in
    let text_is : take c.args.len (text c.args.self.now c.args.from) ≡ take c.args.len (drop c.index.result.now.start E) = ap (take c.args.len) (ap (λ (t : Held _). t.elements) same ∙ f.text_is ∙ ap₂ (λ n k. take n (drop k E)) (sym lens) (sym starts)) ∙ take-take c.args.len (length (text c.args.self.now c.args.from)) (drop c.index.result.now.start E) first in
    let size : length (take c.args.len (text c.args.self.now c.args.from)) ≡ c.args.len = length-take-le c.args.len (text c.args.self.now c.args.from) first in
    let copied = c.copy_within.ensures.by_index in
    let long : length c.copy_within.new.self.items ≡ length E = omega (arith, c.copy_within.ensures.len) in
    let extends = copy_more E c.copy_within.new.self.items c.index.result.now.start c.args.len s.used (take c.args.len (text c.args.self.now c.args.from)) text_is size long copied.1 (λ k d afterwards below. copied.0 k d afterwards (omega arith)) in
    let here = found _ _ _ _ _ _ last.packed last.same c.to.view_is is_open in
    let at = slot_is c.bring_last.new.slots.items c.to.inside.index _ c.index_mut.ensures.value here.within in
    rw at (
      kept_after _ _ _ _ _ _ _ _ _ _ _ _ _ _ kept (after_more _ _ _ _ _ _ _ _ last.packed (last.spares _ _ kept.spares) last.same c.to.view_is is_open _ _ _ _ extends last.last (omega arith) (omega arith) refl (omega arith) refl)
          (omega (arith, c.lengthen.ensures.held, c.lengthen.ensures.room, c.self.invariant.1.0)) (omega (arith, last.slots, kept.slots_within)),
      (omega (arith, c.lengthen.ensures.room, last.elements_room, c.copy_within.ensures.room), omega (arith, last.slots_room, c.self.invariant.1.1)),
    )

pub returns-clause-ok : goal.returns-clause-ok
returns-clause-ok g c =
    let s = c.self.inside in
    let last = c.bring_last.ensures in
    let kept = c.self.invariant.0 in
    let E = c.bring_last.new.elements.items in
    let more = longer _ _ _ _ _ _ _ _ _ _ kept c.self.view_is c.lengthen.ensures.items (omega (arith, c.lengthen.ensures.held, c.lengthen.ensures.room, c.self.invariant.1.0)) in
    let f = found _ _ _ _ _ _ last.packed last.same c.from.view_is (open_in s.capacity s.most _ (texts_of c.lengthen.new.self.items s.slots.items) more.view _ c.requires.from_open) in
    let at_from = slot_is c.bring_last.new.slots.items c.from.inside.index _ c.index.ensures f.within in
    let starts : c.index.result.now.start ≡ (slot_at c.bring_last.new.slots.items c.from.inside.index).start = ap (λ (t : Slot). t.start) at_from in
    let same = same_entry s.capacity s.most _ (texts_of c.lengthen.new.self.items s.slots.items) more.view c.args.from in
    let lens : length (text c.args.self.now c.args.from) ≡ (slot_at c.bring_last.new.slots.items c.from.inside.index).len = ap (λ (t : Held _). length t.elements) same ∙ f.len_is in
    let first : c.args.len ≤ length (text c.args.self.now c.args.from) = c.requires.within in
    let is_open = open_in s.capacity s.most _ (texts_of c.lengthen.new.self.items s.slots.items) more.view _ c.requires.to_open in
    let lengths = last.elements in
    let room : s.used + c.args.len ≤ length E = omega (arith, c.lengthen.ensures.least) in
    let text_is : take c.args.len (text c.args.self.now c.args.from) ≡ take c.args.len (drop c.index.result.now.start E) = ap (take c.args.len) (ap (λ (t : Held _). t.elements) same ∙ f.text_is ∙ ap₂ (λ n k. take n (drop k E)) (sym lens) (sym starts)) ∙ take-take c.args.len (length (text c.args.self.now c.args.from)) (drop c.index.result.now.start E) first in
    let size : length (take c.args.len (text c.args.self.now c.args.from)) ≡ c.args.len = length-take-le c.args.len (text c.args.self.now c.args.from) first in
    let copied = c.copy_within.ensures.by_index in
    let long : length c.copy_within.new.self.items ≡ length E = omega (arith, c.copy_within.ensures.len) in
    let extends = copy_more E c.copy_within.new.self.items c.index.result.now.start c.args.len s.used (take c.args.len (text c.args.self.now c.args.from)) text_is size long copied.1 (λ k d afterwards below. copied.0 k d afterwards (omega arith)) in
    let here = found _ _ _ _ _ _ last.packed last.same c.to.view_is is_open in
    let at = slot_is c.bring_last.new.slots.items c.to.inside.index _ c.index_mut.ensures.value here.within in
    rw at (lifted_text s.capacity s.most _ (texts_of c.lengthen.new.self.items s.slots.items) more.view _ _ (λ ys. ys ++ take c.args.len (text c.args.self.now c.args.from)) (within_of_open (texts_of c.lengthen.new.self.items s.slots.items) _ is_open)
    (extended _ _ _ _ _ _ _ _ last.packed last.same c.to.view_is is_open last.last (omega arith) extends _ refl (omega arith) refl))

pub returns-clause-keeps : goal.returns-clause-keeps
returns-clause-keeps g c = open_after_text c.args.self.now _ _ _ (returns-clause-ok g c)
