use Rattle.std.proofs.lemmas.Grind.{common_steps}
use Rattle.std.proofs.Common.{ap, sym, ◌∙◌, arith}
use Rattle.nr_store.specs.Holders.{beside_of}
use Rattle.nr_store.specs.Store.{Stored, left}
use Rattle.nr_store.proofs.Reading.{newest_text, end_left, read_open, text_ended, text_ended_stands, text_paid}
use Rattle.nr_store.proofs.Keeping.{share_paid}
use Rattle.nr_store.proofs.Passing.{end_stands, end_paid}
use Rattle.nr_store.proofs.store.Store.take_end.Goals as goal

pub invariant_of-self-in-Text : goal.invariant_of-self-in-Text
invariant_of-self-in-Text g c =
    let s = c.self.inside in
    let n = newest_text s.levels.levels c.in-Text.id c.in-Text.place c.in-Text.ensures in
    let closed = c.close-in-Text.ensures in
    rw (c.release.ensures.released, closed.rest, closed.charge, c.lone_share-share.ensures) (text_ended_stands s.pool s.names s.drafts s.levels (beside_of s.gathering s.registers s.traps s.words) s.charge s.stored c.in-Text.id c.in-Text.place c.self.invariant n)

pub returns-else-place-len-clause-is : goal.returns-else-place-len-clause-is
returns-else-place-len-clause-is g c = λ yes.
    let s = c.self.inside in
    let n = newest_text s.levels.levels c.in-Text.id c.in-Text.place c.in-Text.ensures in
    let closed = c.close-in-Text.ensures in
    let none = c.if-place-len.false in
    rw (c.release.ensures.released, closed.rest) (text_ended s.pool s.names s.drafts s.levels (beside_of s.gathering s.registers s.traps s.words) s.charge s.stored c.in-Text.id c.in-Text.place c.self.invariant n ∙ sym (end_left s.pool s.names.entries s.drafts.items s.levels (beside_of s.gathering s.registers s.traps s.words) s.stored c.in-Text.id c.in-Text.place n (rw c.len.ensures at none)) ∙ ap (λ (v : Stored _). left v.levels v) c.self.view_is)

pub lone_share-share-requires-clause-small : goal.lone_share-share-requires-clause-small
lone_share-share-requires-clause-small g c =
    let s = c.self.inside in
    let n = newest_text s.levels.levels c.in-Text.id c.in-Text.place c.in-Text.ensures in
    let paid = share_paid s.pool s.names s.drafts s.levels (beside_of s.gathering s.registers s.traps s.words) s.charge s.stored c.in-Text.id c.self.invariant (read_open s.pool s.names s.drafts s.levels (beside_of s.gathering s.registers s.traps s.words) s.charge s.stored c.in-Text.id c.in-Text.place c.self.invariant n) in
    let below = c.self.invariant.within in
    let small = c.self.invariant.small in
    omega arith

pub overflow_add-self : goal.overflow_add-self
overflow_add-self g c =
    let s = c.self.inside in
    let n = newest_text s.levels.levels c.in-Text.id c.in-Text.place c.in-Text.ensures in
    let paid = text_paid s.pool s.names s.drafts s.levels (beside_of s.gathering s.registers s.traps s.words) s.charge s.stored c.in-Text.id c.in-Text.place c.self.invariant n in
    let own = c.lone_share-share.ensures in
    let closed = c.close-in-Text.ensures.charge in
    let below = c.self.invariant.within in
    let small = c.self.invariant.small in
    omega arith

pub overflow_sub-self-in-Text : goal.overflow_sub-self-in-Text
overflow_sub-self-in-Text g c =
    let s = c.self.inside in
    let n = newest_text s.levels.levels c.in-Text.id c.in-Text.place c.in-Text.ensures in
    let paid = text_paid s.pool s.names s.drafts s.levels (beside_of s.gathering s.registers s.traps s.words) s.charge s.stored c.in-Text.id c.in-Text.place c.self.invariant n in
    let own = c.lone_share-share.ensures in
    let closed = c.close-in-Text.ensures.charge in
    omega arith

pub invariant_of-self : goal.invariant_of-self
invariant_of-self g c =
    let s = c.self.inside in
    rw (c.close.ensures.rest, c.close.ensures.charge) (end_stands s.pool s.names s.drafts s.levels (beside_of s.gathering s.registers s.traps s.words) s.charge s.stored c.self.invariant c.in-End.ensures)

pub overflow_sub-self : goal.overflow_sub-self
overflow_sub-self g c =
    let s = c.self.inside in
    rw c.close.ensures.charge (end_paid s.pool s.names s.drafts s.levels (beside_of s.gathering s.registers s.traps s.words) s.charge s.stored c.self.invariant c.in-End.ensures)

pub len-requires : goal.len-requires
len-requires g c = grind (arith, common_steps)

pub lone_share-share-requires-clause-is_open : goal.lone_share-share-requires-clause-is_open
lone_share-share-requires-clause-is_open g c = grind (arith, common_steps)

pub release-requires : goal.release-requires
release-requires g c = grind (arith, common_steps)

pub returns-else-place-len-clause-came : goal.returns-else-place-len-clause-came
returns-else-place-len-clause-came g c = grind (arith, common_steps)
