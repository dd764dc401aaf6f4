use Rattle.std.proofs.Common.{ap, sym, ◌∙◌, arith}
use Rattle.nr_store.specs.Holders.{beside_of}
use Rattle.nr_store.specs.Store.{Stored, shown, left}
use Rattle.nr_store.proofs.Reading.{newest_text, item_shown, item_left, end_left, read_open, text_ended, text_ended_stands, text_paid}
use Rattle.nr_store.proofs.Keeping.{text_small, share_paid}
use Rattle.nr_store.proofs.Passing.{byte_passed, text_passed, end_stands, end_paid, mark_gone}
use Rattle.nr_store.proofs.store.Store.take.Goals as goal

pub returns-then-place-len-clause-was : goal.returns-then-place-len-clause-was
returns-then-place-len-clause-was g c =
    let s = c.self.inside in
    let n = newest_text s.levels.levels c.in-Text.id c.in-Text.place c.in-Text.ensures in
    sym (sym (ap (λ (v : Stored _). shown v.levels) c.self.view_is) ∙ item_shown s.pool s.names.entries s.drafts.items s.levels (beside_of s.gathering s.registers s.traps s.words) s.stored c.in-Text.id c.in-Text.place n c.get-element.result c.get-element.ensures)

pub returns-then-place-len-clause-is : goal.returns-then-place-len-clause-is
returns-then-place-len-clause-is g c =
    let s = c.self.inside in
    let n = newest_text s.levels.levels c.in-Text.id c.in-Text.place c.in-Text.ensures in
    rw c.advance-then-place-len.ensures (item_left s.pool s.names.entries s.drafts.items s.levels (beside_of s.gathering s.registers s.traps s.words) s.stored c.in-Text.id c.in-Text.place n c.get-element.result c.get-element.ensures ∙ ap (λ (v : Stored _). left v.levels v) c.self.view_is)

pub invariant_of-self-in-Text : goal.invariant_of-self-in-Text
invariant_of-self-in-Text g c =
    let s = c.self.inside in
    let n = newest_text s.levels.levels c.in-Text.id c.in-Text.place c.in-Text.ensures in
    let closed = c.close-in-Text.ensures in
    rw (c.release.ensures.released, closed.rest, closed.charge, c.lone_share-own.ensures) (text_ended_stands s.pool s.names s.drafts s.levels (beside_of s.gathering s.registers s.traps s.words) s.charge s.stored c.in-Text.id c.in-Text.place c.self.invariant n)

pub returns-else-place-len-clause-is : goal.returns-else-place-len-clause-is
returns-else-place-len-clause-is g c =
    let s = c.self.inside in
    let n = newest_text s.levels.levels c.in-Text.id c.in-Text.place c.in-Text.ensures in
    let closed = c.close-in-Text.ensures in
    let none = c.if-place-len.false in
    rw (c.release.ensures.released, closed.rest) (text_ended s.pool s.names s.drafts s.levels (beside_of s.gathering s.registers s.traps s.words) s.charge s.stored c.in-Text.id c.in-Text.place c.self.invariant n ∙ sym (end_left s.pool s.names.entries s.drafts.items s.levels (beside_of s.gathering s.registers s.traps s.words) s.stored c.in-Text.id c.in-Text.place n (rw c.len.ensures at none)) ∙ ap (λ (v : Stored _). left v.levels v) c.self.view_is)

pub advance-requires-then-place-len : goal.advance-requires-then-place-len
advance-requires-then-place-len g c =
    let s = c.self.inside in
    let small = text_small s.pool s.names s.drafts s.levels (beside_of s.gathering s.registers s.traps s.words) s.charge s.stored c.in-Text.id c.self.invariant in
    let below = c.if-place-len.true in
    let long = c.len.ensures in
    rw c.in-Text.ensures (omega arith)

pub lone_share-own-requires-clause-small : goal.lone_share-own-requires-clause-small
lone_share-own-requires-clause-small g c =
    let s = c.self.inside in
    let n = newest_text s.levels.levels c.in-Text.id c.in-Text.place c.in-Text.ensures in
    let paid = share_paid s.pool s.names s.drafts s.levels (beside_of s.gathering s.registers s.traps s.words) s.charge s.stored c.in-Text.id c.self.invariant (read_open s.pool s.names s.drafts s.levels (beside_of s.gathering s.registers s.traps s.words) s.charge s.stored c.in-Text.id c.in-Text.place c.self.invariant n) in
    let below = c.self.invariant.within in
    let small = c.self.invariant.small in
    omega arith

pub overflow_add-self : goal.overflow_add-self
overflow_add-self g c =
    let s = c.self.inside in
    let n = newest_text s.levels.levels c.in-Text.id c.in-Text.place c.in-Text.ensures in
    let paid = text_paid s.pool s.names s.drafts s.levels (beside_of s.gathering s.registers s.traps s.words) s.charge s.stored c.in-Text.id c.in-Text.place c.self.invariant n in
    let own = c.lone_share-own.ensures in
    let closed = c.close-in-Text.ensures.charge in
    let below = c.self.invariant.within in
    let small = c.self.invariant.small in
    omega arith

pub overflow_sub-self-in-Text : goal.overflow_sub-self-in-Text
overflow_sub-self-in-Text g c =
    let s = c.self.inside in
    let n = newest_text s.levels.levels c.in-Text.id c.in-Text.place c.in-Text.ensures in
    let paid = text_paid s.pool s.names s.drafts s.levels (beside_of s.gathering s.registers s.traps s.words) s.charge s.stored c.in-Text.id c.in-Text.place c.self.invariant n in
    let own = c.lone_share-own.ensures in
    let closed = c.close-in-Text.ensures.charge in
    omega arith

pub invariant_of-self : goal.invariant_of-self
invariant_of-self g c =
    let s = c.self.inside in
    rw c.advance.ensures (byte_passed s.pool s.names s.drafts s.levels (beside_of s.gathering s.registers s.traps s.words) s.charge s.stored c.self.invariant c.in-Byte.byte c.in-Byte.ensures)

pub invariant_of-self-in-End : goal.invariant_of-self-in-End
invariant_of-self-in-End g c =
    let s = c.self.inside in
    rw (c.close.ensures.rest, c.close.ensures.charge) (end_stands s.pool s.names s.drafts s.levels (beside_of s.gathering s.registers s.traps s.words) s.charge s.stored c.self.invariant c.in-End.ensures)

pub invariant_of-self-in-Resume : goal.invariant_of-self-in-Resume
invariant_of-self-in-Resume g c =
    let s = c.self.inside in
    rw c.resume.ensures.rest (mark_gone s.pool s.names s.drafts s.levels (beside_of s.gathering s.registers s.traps s.words) s.charge s.stored c.self.invariant c.in-Resume.ensures)

pub invariant_of-self-then-place-len : goal.invariant_of-self-then-place-len
invariant_of-self-then-place-len g c =
    let s = c.self.inside in
    rw c.advance-then-place-len.ensures (text_passed s.pool s.names s.drafts s.levels (beside_of s.gathering s.registers s.traps s.words) s.charge s.stored c.self.invariant c.in-Text.id c.in-Text.place c.in-Text.ensures)

pub overflow_sub-self : goal.overflow_sub-self
overflow_sub-self g c =
    let s = c.self.inside in
    rw c.close.ensures.charge (end_paid s.pool s.names s.drafts s.levels (beside_of s.gathering s.registers s.traps s.words) s.charge s.stored c.self.invariant c.in-End.ensures)
