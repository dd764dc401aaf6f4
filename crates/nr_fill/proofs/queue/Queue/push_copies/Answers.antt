use Rattle.std.proofs.Common.{◌≡◌, ◌+◌, ◌-◌, ◌≤◌, List, ◌++◌, length, take, drop, replicate, refl, ap, ap₂, ◌∙◌, arith, length-take, length-drop}
use Rattle.std.proofs.lemmas.Grind.{common_steps}
use Rattle.std.proofs.lemmas.List.{length-replicate}
use borrow.Rule.Slice.PartMut.{put_mid}
use Rattle.nr_vectors.specs.Items.{Items}
use Rattle.nr_fill.proofs.Queues.{extended, length_between, written_back}
use Rattle.nr_fill.proofs.queue.Queue.push_copies.Goals as goal

pub make_room-span-requires-clause-room : goal.make_room-span-requires-clause-room
make_room-span-requires-clause-room g c =
    let s = c.self.inside in
    let long = length_between s.slots.items s.start s.end c.self.invariant.1.0 in
    let own = ap (λ (v : Items _). length v.items) c.self.view_is in
    let room = ap (λ (v : Items _). v.capacity) c.self.view_is in
    omega (arith, c.requires)

pub returns-clause-items : goal.returns-clause-items
returns-clause-items g c =
    let s = c.make_room-span.result in
    let v = c.make_room-span.new.slots in
    let xs = v.items in
    let n = c.args.n in
    let ys = c.as_mut_slice-slots.result.now in
    let value = c.as_mut_slice-slots.ensures.value in
    let free : s.end + n ≤ length xs = omega (arith, c.make_room-span.ensures.free) in
    let span : s.end + n - s.end ≡ n = omega arith in
    let many : length (take (s.end + n - s.end) (drop s.end ys)) ≡ n =
    ap (λ (zs : List _). length (take (s.end + n - s.end) (drop s.end zs))) value ∙ omega (arith, length-take (s.end + n - s.end) (drop s.end xs), length-drop s.end xs) in
    let filled : c.set_all.new.slots ≡ replicate n c.args.item = c.set_all.ensures ∙ ap (λ m. replicate m c.args.item) many in
    ap (λ (ws : List _). drop s.start (take (s.end + n) ws)) (written_back xs ys c.set_all.new.slots s.end (s.end + n - s.end) (length xs) value refl (omega arith) (ap length filled ∙ length-replicate n c.args.item ∙ omega arith))
    ∙ ap₂ (λ k (zs : List _). drop s.start (take (s.end + n) (put_mid s.end k xs zs))) span filled
    ∙ extended xs (replicate n c.args.item) s.start s.end n c.make_room-span.ensures.ordered free (length-replicate n c.args.item)
    ∙ ap (λ (ws : List _). ws ++ replicate n c.args.item) (c.make_room-span.ensures.items ∙ ap (λ (v : Items _). v.items) c.self.view_is)

pub invariant_of-self : goal.invariant_of-self
invariant_of-self g c = grind (arith, common_steps)
