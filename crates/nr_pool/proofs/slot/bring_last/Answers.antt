use Rattle.std.proofs.lemmas.Grind.{common_steps}
use Rattle.std.proofs.Common.{◌<◌, length, drop, subst, sym, ap, ◌∙◌, arith}
use Rattle.std.proofs.lemmas.List.{take_at}
use Rattle.nr_pool.specs.Spares.{HasSpares}
use Rattle.nr_pool.specs.declared.slot.Slot.{Slot}
use Rattle.nr_pool.proofs.Places.{emptied, slot_is}
use Rattle.nr_pool.proofs.Spares.{spares_set}
use Rattle.nr_pool.proofs.slot.bring_last.Goals as goal

pub returns-clause-spares : goal.returns-clause-spares
returns-clause-spares g c =
    let v = c.args.slots.now in
    let ws = c.move_last.new.slots in
    let is = c.as_mut_slice-2.ensures.value in
    λ count first spares. subst (λ ys. HasSpares ys count first) (sym (take_at ws (drop (length ws) v.items) (length v.items) (omega (arith, c.move_last.auto.slots, c.as_mut_slice-2.ensures.len))))
    (c.move_last.ensures.spares count first (subst (λ ys. HasSpares ys count first) (sym is) spares))

pub returns-then-len-eq0-clause-spares : goal.returns-then-len-eq0-clause-spares
returns-then-len-eq0-clause-spares g c =
    let here = slot_is c.args.slots.now.items c.args.index c.index_mut.result.now c.index_mut.ensures.value c.requires.within in
    λ count first. spares_set c.args.slots.now.items c.args.index _ count first c.requires.within c.requires.held (subst (λ (s : Slot). 0 < s.holders) (sym here) c.requires.held)

pub returns-then-len-eq0-clause-same : goal.returns-then-len-eq0-clause-same
returns-then-len-eq0-clause-same g c =
    let here = slot_is c.args.slots.now.items c.args.index c.index_mut.result.now c.index_mut.ensures.value c.requires.within in
    let read = slot_is c.args.slots.now.items c.args.index c.index.result.now c.index.ensures c.requires.within in
    let none = sym (ap (λ (s : Slot). s.len) read) ∙ c.if-len-eq0.true in
    emptied c.args.elements.now.items c.args.slots.now.items c.args.index _ c.requires.within none (ap (λ (s : Slot). s.len) here ∙ none) (ap (λ (s : Slot). s.holders) here)

pub returns-then-len-eq0-clause-packed : goal.returns-then-len-eq0-clause-packed
returns-then-len-eq0-clause-packed g c = grind (arith, common_steps)

pub returns-then-len-eq0-clause-last : goal.returns-then-len-eq0-clause-last
returns-then-len-eq0-clause-last g c = grind (arith, common_steps)

pub overflow_add-start : goal.overflow_add-start
overflow_add-start g c = grind (arith, common_steps)

pub returns-then-start-len-clause-last : goal.returns-then-start-len-clause-last
returns-then-start-len-clause-last g c = grind (arith, common_steps)

pub returns-clause-packed : goal.returns-clause-packed
returns-clause-packed g c = grind (arith, common_steps)

pub returns-clause-last : goal.returns-clause-last
returns-clause-last g c = grind (arith, common_steps)

pub returns-clause-same : goal.returns-clause-same
returns-clause-same g c = grind (arith, common_steps)

pub returns-clause-elements : goal.returns-clause-elements
returns-clause-elements g c = grind (arith, common_steps)

pub returns-clause-slots : goal.returns-clause-slots
returns-clause-slots g c = grind (arith, common_steps)
