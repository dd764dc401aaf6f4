use Rattle.std.proofs.Common.{◌≡◌, ◌-◌, length, map, replicate, ap, arith, length-append}
use Rattle.std.proofs.lemmas.List.{length-map, length-replicate}
use Rattle.nr_pool.specs.Texts.{Texts, no_text}
use Rattle.nr_pool.specs.Slot.{held_of}
use Rattle.nr_pool.proofs.packed.Packed.text_memory.Goals as goal

pub returns : goal.returns
returns g c =
    let s = c.self.inside in
    let slots = s.slots.items in
    let ts = map (held_of s.elements.items) slots in
    let long : length ts ≡ length slots = length-map slots (held_of s.elements.items) in
    let rest = replicate (s.most - length ts) (no_text {T = g.row.T.Denot}) in
    let all = length-append ts rest in
    let spare = length-replicate (s.most - length ts) (no_text {T = g.row.T.Denot}) in
    let within = c.self.invariant.0.slots_within in
    let room = c.self.invariant.1.1 in
    let seen = ap (λ (p : Texts g.row.T.Denot). length p.texts) c.self.view_is in
    let stated = c.capacity.ensures in
    omega arith
