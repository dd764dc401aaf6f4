use Rattle.std.proofs.lemmas.Grind.{common_steps}
use Rattle.std.proofs.Common.{ap, sym, ◌∙◌, arith}
use Rattle.nr_store.specs.Store.{Stored, dropped}
use Rattle.nr_store.specs.Holders.{beside_of}
use Rattle.nr_store.proofs.Reading.{newest_text, text_gone, read_open, text_ended, text_ended_stands, text_paid}
use Rattle.nr_store.proofs.Keeping.{share_paid}
use Rattle.nr_store.proofs.Passing.{byte_stands, byte_paid, end_stands, end_paid, mark_gone}
use Rattle.nr_store.proofs.store.Store.drop_level.Goals as goal

pub invariant_of-self-in-Text : goal.invariant_of-self-in-Text
invariant_of-self-in-Text g c =
    let s = c.self.inside in
    let n = newest_text s.levels.levels c.in-Text.id c.in-Text.field-1 c.in-Text.ensures in
    let closed = c.close-in-Text.ensures in
    rw (c.release.ensures.released, closed.rest, closed.charge, c.lone_share-text.ensures) (text_ended_stands s.pool s.names s.drafts s.levels (beside_of s.gathering s.registers s.traps s.words) s.charge s.stored c.in-Text.id c.in-Text.field-1 c.self.invariant n)

pub returns-in-Text : goal.returns-in-Text
returns-in-Text g c =
    let s = c.self.inside in
    let n = newest_text s.levels.levels c.in-Text.id c.in-Text.field-1 c.in-Text.ensures in
    let closed = c.close-in-Text.ensures in
    rw (c.release.ensures.released, closed.rest)
    (text_ended s.pool s.names s.drafts s.levels (beside_of s.gathering s.registers s.traps s.words) s.charge s.stored c.in-Text.id c.in-Text.field-1 c.self.invariant n ∙ sym (text_gone s.pool s.names.entries s.drafts.items s.levels (beside_of s.gathering s.registers s.traps s.words) s.stored c.in-Text.id c.in-Text.field-1 n) ∙ ap (λ (v : Stored _). dropped v.levels v) c.self.view_is)

pub lone_share-text-requires-clause-small : goal.lone_share-text-requires-clause-small
lone_share-text-requires-clause-small g c =
    let s = c.self.inside in
    let n = newest_text s.levels.levels c.in-Text.id c.in-Text.field-1 c.in-Text.ensures in
    let paid = share_paid s.pool s.names s.drafts s.levels (beside_of s.gathering s.registers s.traps s.words) s.charge s.stored c.in-Text.id c.self.invariant (read_open s.pool s.names s.drafts s.levels (beside_of s.gathering s.registers s.traps s.words) s.charge s.stored c.in-Text.id c.in-Text.field-1 c.self.invariant n) in
    let below = c.self.invariant.within in
    let small = c.self.invariant.small in
    omega arith

pub overflow_add-self : goal.overflow_add-self
overflow_add-self g c =
    let s = c.self.inside in
    let n = newest_text s.levels.levels c.in-Text.id c.in-Text.field-1 c.in-Text.ensures in
    let paid = text_paid s.pool s.names s.drafts s.levels (beside_of s.gathering s.registers s.traps s.words) s.charge s.stored c.in-Text.id c.in-Text.field-1 c.self.invariant n in
    let own = c.lone_share-text.ensures in
    let closed = c.close-in-Text.ensures.charge in
    let below = c.self.invariant.within in
    let small = c.self.invariant.small in
    omega arith

pub overflow_sub-self-in-Text : goal.overflow_sub-self-in-Text
overflow_sub-self-in-Text g c =
    let s = c.self.inside in
    let n = newest_text s.levels.levels c.in-Text.id c.in-Text.field-1 c.in-Text.ensures in
    let paid = text_paid s.pool s.names s.drafts s.levels (beside_of s.gathering s.registers s.traps s.words) s.charge s.stored c.in-Text.id c.in-Text.field-1 c.self.invariant n in
    let own = c.lone_share-text.ensures in
    let closed = c.close-in-Text.ensures.charge in
    omega arith

pub overflow_sub-self : goal.overflow_sub-self
overflow_sub-self g c =
    let s = c.self.inside in
    rw c.close.ensures.charge (byte_paid s.pool s.names s.drafts s.levels (beside_of s.gathering s.registers s.traps s.words) s.charge s.stored c.self.invariant c.in-Byte.field-0 c.in-Byte.ensures)

pub invariant_of-self : goal.invariant_of-self
invariant_of-self g c =
    let s = c.self.inside in
    rw (c.close.ensures.rest, c.close.ensures.charge) (byte_stands s.pool s.names s.drafts s.levels (beside_of s.gathering s.registers s.traps s.words) s.charge s.stored c.self.invariant c.in-Byte.field-0 c.in-Byte.ensures)

pub overflow_sub-self-in-End : goal.overflow_sub-self-in-End
overflow_sub-self-in-End g c =
    let s = c.self.inside in
    rw c.close-in-End.ensures.charge (end_paid s.pool s.names s.drafts s.levels (beside_of s.gathering s.registers s.traps s.words) s.charge s.stored c.self.invariant c.in-End.ensures)

pub invariant_of-self-in-End : goal.invariant_of-self-in-End
invariant_of-self-in-End g c =
    let s = c.self.inside in
    rw (c.close-in-End.ensures.rest, c.close-in-End.ensures.charge) (end_stands s.pool s.names s.drafts s.levels (beside_of s.gathering s.registers s.traps s.words) s.charge s.stored c.self.invariant c.in-End.ensures)

pub invariant_of-self-in-Resume : goal.invariant_of-self-in-Resume
invariant_of-self-in-Resume g c =
    let s = c.self.inside in
    rw c.drop_mode.ensures (mark_gone s.pool s.names s.drafts s.levels (beside_of s.gathering s.registers s.traps s.words) s.charge s.stored c.self.invariant c.in-Resume.ensures)

pub lone_share-text-requires-clause-is_open : goal.lone_share-text-requires-clause-is_open
lone_share-text-requires-clause-is_open g c = grind (arith, common_steps)

pub release-requires : goal.release-requires
release-requires g c = grind (arith, common_steps)
