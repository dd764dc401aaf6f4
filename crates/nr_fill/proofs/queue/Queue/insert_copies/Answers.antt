use Rattle.std.proofs.lemmas.Grind.{common_steps}
use Rattle.std.proofs.Common.{◌≡◌, ℕ, ◌+◌, ◌-◌, ◌≤◌, List, ◌++◌, length, take, drop, replicate, refl, ap, ap₂, sym, ◌∙◌, arith, length-take, length-drop}
use Rattle.std.proofs.lemmas.List.{length-replicate}
use borrow.Rule.Slice.PartMut.{put_mid}
use Rattle.nr_vectors.specs.Items.{Items}
use Rattle.nr_fill.proofs.Queues.{inserted, length_between, written_back}
use Rattle.nr_fill.proofs.queue.Queue.insert_copies.Goals as goal

-- a place among items is before their end
placed : {X : Type 0} (xs ys : List X) (start end n place : ℕ) → drop start (take end xs) ≡ ys → start ≤ end → end + n ≤ length xs → place ≤ length ys → start + place ≤ end
placed xs ys start end n place is ordered free within = omega (arith, length_between xs start end (omega arith), ap length is)

pub make_room-span-requires-clause-room : goal.make_room-span-requires-clause-room
make_room-span-requires-clause-room g c =
    let s = c.self.inside in
    let long = length_between s.slots.items s.start s.end c.self.invariant.1.0 in
    let own = ap (λ (v : Items _). length v.items) c.self.view_is in
    let room = ap (λ (v : Items _). v.capacity) c.self.view_is in
    omega (arith, c.requires.room)

pub overflow_add-at : goal.overflow_add-at
overflow_add-at g c =
    let s = c.make_room-span.result in
    let items = c.make_room-span.ensures.items ∙ ap (λ (v : Items _). v.items) c.self.view_is in
    let at : s.start + c.args.place ≤ s.end = placed c.make_room-span.new.slots.items c.args.self.now.items s.start s.end c.args.n c.args.place items c.make_room-span.ensures.ordered c.make_room-span.ensures.free c.requires.within in
    omega (arith, c.make_room-span.ensures.free)

pub overflow_add-at-2 : goal.overflow_add-at-2
overflow_add-at-2 g c =
    let s = c.make_room-span.result in
    let items = c.make_room-span.ensures.items ∙ ap (λ (v : Items _). v.items) c.self.view_is in
    let at : s.start + c.args.place ≤ s.end = placed c.make_room-span.new.slots.items c.args.self.now.items s.start s.end c.args.n c.args.place items c.make_room-span.ensures.ordered c.make_room-span.ensures.free c.requires.within in
    omega (arith, c.make_room-span.ensures.free)

pub copy_within-requires-clause-start_le_end : goal.copy_within-requires-clause-start_le_end
copy_within-requires-clause-start_le_end g c =
    let s = c.make_room-span.result in
    let items = c.make_room-span.ensures.items ∙ ap (λ (v : Items _). v.items) c.self.view_is in
    let at : s.start + c.args.place ≤ s.end = placed c.make_room-span.new.slots.items c.args.self.now.items s.start s.end c.args.n c.args.place items c.make_room-span.ensures.ordered c.make_room-span.ensures.free c.requires.within in
    omega (arith, c.make_room-span.ensures.free)

pub copy_within-requires-clause-dest_in_bounds : goal.copy_within-requires-clause-dest_in_bounds
copy_within-requires-clause-dest_in_bounds g c =
    let s = c.make_room-span.result in
    let items = c.make_room-span.ensures.items ∙ ap (λ (v : Items _). v.items) c.self.view_is in
    let at : s.start + c.args.place ≤ s.end = placed c.make_room-span.new.slots.items c.args.self.now.items s.start s.end c.args.n c.args.place items c.make_room-span.ensures.ordered c.make_room-span.ensures.free c.requires.within in
    omega (arith, c.make_room-span.ensures.free)

pub overflow_add-at-3 : goal.overflow_add-at-3
overflow_add-at-3 g c =
    let s = c.make_room-span.result in
    let items = c.make_room-span.ensures.items ∙ ap (λ (v : Items _). v.items) c.self.view_is in
    let at : s.start + c.args.place ≤ s.end = placed c.make_room-span.new.slots.items c.args.self.now.items s.start s.end c.args.n c.args.place items c.make_room-span.ensures.ordered c.make_room-span.ensures.free c.requires.within in
    omega (arith, c.make_room-span.ensures.free)

pub offset_bounds-slots-at : goal.offset_bounds-slots-at
offset_bounds-slots-at g c =
    let s = c.make_room-span.result in
    let items = c.make_room-span.ensures.items ∙ ap (λ (v : Items _). v.items) c.self.view_is in
    let at : s.start + c.args.place ≤ s.end = placed c.make_room-span.new.slots.items c.args.self.now.items s.start s.end c.args.n c.args.place items c.make_room-span.ensures.ordered c.make_room-span.ensures.free c.requires.within in
    let low : s.start + c.args.place ≤ length c.as_mut_slice-slots.result.now = omega (arith, c.make_room-span.ensures.free, c.copy_within.ensures.len, ap length c.as_mut_slice-slots.ensures.value) in
    grind arith

pub slice_bounds-set_all-end : goal.slice_bounds-set_all-end
slice_bounds-set_all-end g c =
    let s = c.make_room-span.result in
    let items = c.make_room-span.ensures.items ∙ ap (λ (v : Items _). v.items) c.self.view_is in
    let at : s.start + c.args.place ≤ s.end = placed c.make_room-span.new.slots.items c.args.self.now.items s.start s.end c.args.n c.args.place items c.make_room-span.ensures.ordered c.make_room-span.ensures.free c.requires.within in
    omega (arith, c.make_room-span.ensures.free, c.copy_within.ensures.len, ap length c.as_mut_slice-slots.ensures.value)

pub returns-clause-items : goal.returns-clause-items
returns-clause-items g c =
    let s = c.make_room-span.result in
    let xs = c.make_room-span.new.slots.items in
    let n = c.args.n in
    let place = c.args.place in
    let at = s.start + place in
    let items = c.make_room-span.ensures.items ∙ ap (λ (v : Items _). v.items) c.self.view_is in
    let free : s.end + n ≤ length xs = omega (arith, c.make_room-span.ensures.free) in
    let v = c.copy_within.new.self in
    let ys = c.as_mut_slice-slots.result.now in
    let value = c.as_mut_slice-slots.ensures.value in
    let long : s.end - s.start ≡ length c.args.self.now.items = sym (length_between xs s.start s.end (omega arith)) ∙ ap length items in
    let ordered = c.make_room-span.ensures.ordered in
    let low = c.requires.within in
    let within : at ≤ s.end = omega arith in
    let span : (at + n) - at ≡ n = omega arith in
    let moved = c.copy_within.ensures.items in
    let same : length v.items ≡ length xs = omega (arith, c.copy_within.ensures.len) in
    let many : length (take ((at + n) - at) (drop at ys)) ≡ n =
    ap (λ (zs : List _). length (take ((at + n) - at) (drop at zs))) value ∙ omega (arith, length-take ((at + n) - at) (drop at v.items), length-drop at v.items) in
    let filled : c.set_all.new.slots ≡ replicate n c.args.item = c.set_all.ensures ∙ ap (λ m. replicate m c.args.item) many in
    ap (λ (ws : List _). drop s.start (take (s.end + n) ws)) (written_back v.items ys c.set_all.new.slots at ((at + n) - at) (length v.items) value refl (omega arith) (ap length filled ∙ length-replicate n c.args.item ∙ omega arith))
    ∙ ap₂ (λ k (zs : List _). drop s.start (take (s.end + n) (put_mid at k c.copy_within.new.self.items zs))) span filled
    ∙ inserted xs c.copy_within.new.self.items s.start place s.end n c.args.item within free moved
    ∙ ap (λ (ws : List _). take place ws ++ replicate n c.args.item ++ drop place ws) items

pub invariant_of-self : goal.invariant_of-self
invariant_of-self g c = grind (arith, common_steps)
