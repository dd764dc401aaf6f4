use Rattle.std.proofs.Common.{◌+◌, map, set, ap, ◌∙◌}
use Rattle.nr_pool.specs.Slot.{slot_at, shifted}
use Rattle.nr_pool.proofs.Removal.{gap_removed, exchanged_removed}
use Rattle.nr_pool.proofs.slot.remove_before_others.Goals as goal

pub returns-in-Some : goal.returns-in-Some
returns-in-Some g c = rw c.spare.ensures (exchanged_removed _ _ _ _ _ _ _ c.requires.packed c.requires.held c.exchange.ensures)

pub returns : goal.returns
returns g c =
    let slots = c.args.slots.now in
    let s = slot_at slots c.args.index in
    gap_removed _ slots _ _ _ c.requires.packed c.requires.within c.requires.held _ _ c.requires.before.0
    (record { same_length = c.copy_within.ensures.len; before = c.copy_within.ensures.by_index.1; afterwards = c.copy_within.ensures.by_index.0 })
    (c.shift_after.ensures ∙ ap (λ t. map (shifted (s.start + s.len) s.len) (set slots c.args.index t)) c.spare-2.ensures)
