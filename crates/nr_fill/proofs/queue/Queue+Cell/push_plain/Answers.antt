use Rattle.std.proofs.Common.{◌≡◌, ◌+◌, ◌-◌, ◌≤◌, ◌++◌, List, length, take, drop, refl, ap, ap₂, ◌∙◌, arith}
use Rattle.std.proofs.lemmas.Grind.{common_steps}
use borrow.Rule.Slice.PartMut.{put_mid}
use Rattle.nr_vectors.specs.Items.{Items}
use Rattle.nr_vectors.specs.declared.cell.Cell.{Cell}
use Rattle.nr_fill.proofs.Queues.{extended_prefix, length_between, written_back}
use Rattle.nr_fill.proofs.queue.Queue+Cell.push_plain.Goals as goal

pub make_room-span-requires-clause-room : goal.make_room-span-requires-clause-room
make_room-span-requires-clause-room c =
    let s = c.self.inside in
    let long = length_between s.slots.items s.start s.end c.self.invariant.1.0 in
    let own = ap (λ (v : Items Cell). length v.items) c.self.view_is in
    let room = ap (λ (v : Items Cell). v.capacity) c.self.view_is in
    omega (arith, c.requires)

pub returns-clause-items : goal.returns-clause-items
returns-clause-items c =
    let s = c.make_room-span.result in
    let v = c.make_room-span.new.slots in
    let slots = v.items in
    let n = length c.args.bytes.now in
    let count = c.set_plain-count.result in
    let free : s.end + n ≤ length slots = omega (arith, c.make_room-span.ensures.free) in
    let zs = c.set_plain-count.new.slots in
    let span : s.end + n - s.end ≡ n = omega arith in
    let long : length zs ≡ n = omega (arith, c.set_plain-count.ensures.length) in
    ap (λ ws. drop s.start (take (s.end + count) ws)) (written_back slots c.as_mut_slice-slots.result.now zs s.end (s.end + n - s.end) (length v.items) c.as_mut_slice-slots.ensures.value refl (omega arith) (omega (arith, long)))
    ∙ ap (λ k. drop s.start (take (s.end + count) (put_mid s.end k slots zs))) span
    ∙ extended_prefix slots zs s.start s.end n count c.make_room-span.ensures.ordered free long c.set_plain-count.ensures.prefix
    ∙ ap₂ (λ (xs ys : List Cell). xs ++ ys) (c.make_room-span.ensures.items ∙ ap (λ (v : Items Cell). v.items) c.self.view_is) c.set_plain-count.ensures.cells

pub invariant_of-self : goal.invariant_of-self
invariant_of-self c = grind (arith, common_steps)
