use Rattle.std.proofs.lemmas.Grind.{common_steps}
use Rattle.std.proofs.Common.{◌≡◌, ◌+◌, ◌≤◌, ◌⊎◌, inl, inr, subst, arith}
use Rattle.nr_pool.specs.declared.slot.Slot.{Slot}
use Rattle.nr_pool.proofs.Places.{slot_is}
use Rattle.nr_pool.proofs.Removal.{last_removed}
use Rattle.nr_pool.proofs.slot.remove_text.Goals as goal
use Rattle.nr_pool.proofs.slot.remove_text.Goals.{then-len-eq0-via-then-len-eq0, then-len-eq0-via-else-len-eq0+then-start-len}

pub returns-then-len-eq0-clause-removed : goal.returns-then-len-eq0-clause-removed
returns-then-len-eq0-clause-removed g c =
    let slots = c.args.slots.now.items in
    let here = slot_is slots c.args.index c.index.result.now c.index.ensures c.requires.within in
    let s = c.index.result.now in
    let last : (s.len ≡ 0) ⊎ (c.args.used ≤ s.start + s.len) = elim c.then-len-eq0.branch [
      | then-len-eq0-via-then-len-eq0 w ↦ inl w.if-len-eq0.true
      | then-len-eq0-via-else-len-eq0+then-start-len w ↦ inr (omega (arith, w.if-start-len.true))
    ] in
    rw c.spare.ensures (last_removed _ slots _ _ _ c.requires.packed c.requires.within c.requires.held (subst (λ (t : Slot). (t.len ≡ 0) ⊎ (c.args.used ≤ t.start + t.len)) here last))

pub overflow_add-start : goal.overflow_add-start
overflow_add-start g c = grind (arith, common_steps)

pub returns-then-len-eq0-clause-len : goal.returns-then-len-eq0-clause-len
returns-then-len-eq0-clause-len g c = grind (arith, common_steps)

pub remove_before_others-requires-clause-before : goal.remove_before_others-requires-clause-before
remove_before_others-requires-clause-before g c = grind (arith, common_steps)

pub returns-clause-removed : goal.returns-clause-removed
returns-clause-removed g c = grind (arith, common_steps)

pub returns-clause-len : goal.returns-clause-len
returns-clause-len g c = grind (arith, common_steps)

pub returns-clause-within : goal.returns-clause-within
returns-clause-within g c = grind (arith, common_steps)

pub returns-clause-elements : goal.returns-clause-elements
returns-clause-elements g c = grind (arith, common_steps)

pub returns-clause-slots : goal.returns-clause-slots
returns-clause-slots g c = grind (arith, common_steps)
