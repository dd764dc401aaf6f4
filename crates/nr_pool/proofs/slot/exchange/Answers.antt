use Rattle.std.proofs.Common.{◌≡◌, ◌≢◌, ◌-◌, set, ap, ◌∙◌, refl, arith}
use Rattle.std.proofs.lemmas.List.{get_or-set_other}
use Rattle.nr_pool.specs.Slot.{blank_slot, slot_at}
use Rattle.nr_pool.specs.declared.slot.Slot.{Slot}
use Rattle.nr_pool.proofs.Exchange.{exchanged}
use Rattle.nr_pool.proofs.slot.exchange.Goals as goal

pub returns : goal.returns
returns g c =
    let slots = c.args.slots.now in
    let i = c.args.index in
    let j = c.args.last in
    let s = slot_at slots i in
    let b = c.args.used - s.len in
    let lies = c.requires.last in
    let some = c.requires.before.0 in
    let before = c.requires.before.1 in
    let inside = c.requires.packed.inside i some in
    let new_i : Slot = record s { start = b } in
    let mid = set slots i new_i in
    let new_j : Slot = record (slot_at mid j) { start = s.start } in
    let other : j ≢ i = λ e. (let same = ap (λ k. (slot_at slots k).start) e in let at = lies.start_is in before (omega arith)) in
    let same_j : slot_at mid j ≡ slot_at slots j = get_or-set_other slots i j new_i blank_slot other in
    exchanged c.args.elements.now c.swap_parts.new.elements slots c.args.used s.start b s.len i j new_i new_j c.requires.packed c.requires.within lies (omega arith) refl refl some before
    refl refl refl refl (ap (λ (t : Slot). t.len) same_j ∙ lies.len_is) (ap (λ (t : Slot). t.holders) same_j) c.swap_parts.ensures
