use Rattle.std.proofs.lemmas.Grind.{common_steps}
use Rattle.std.proofs.Common.{refl, ap, sym, ◌∙◌, arith}
use Rattle.nr_store.specs.Holders.{beside_of}
use Rattle.nr_pool.specs.Texts.{text}
use Rattle.nr_store.specs.Store.{afforded, begun}
use Rattle.nr_store.proofs.Keeping.{room_for_a_text}
use Rattle.nr_store.proofs.Building.{is_within, room_for_a_draft}
use Rattle.nr_store.proofs.Admitting.{no_text_of, some_text_of, is_named}
use Rattle.nr_store.proofs.Copying.{begin_refused, begin_afforded, copy_fits, copied_stands, copied_is}
use Rattle.nr_store.proofs.store.Store.begin_copy.Goals as goal

pub returns-in_default-clause-answer : goal.returns-in_default-clause-answer
returns-in_default-clause-answer g c =
    let s = c.self.inside in
    c.begin_empty.ensures.answer ∙ sym (ap (λ t. afforded (begun t c.args.diversion c.args.self.now) tt) (no_text_of s.pool s.names.entries s.drafts.items s.levels (beside_of s.gathering s.registers s.traps s.words) s.stored c.args.name c.text_in.result c.args.self.now c.self.view_is c.text_in.ensures c.in_default.is))

pub returns-in_default-clause-ok : goal.returns-in_default-clause-ok
returns-in_default-clause-ok g c =
    let s = c.self.inside in
    rw (no_text_of s.pool s.names.entries s.drafts.items s.levels (beside_of s.gathering s.registers s.traps s.words) s.stored c.args.name c.text_in.result c.args.self.now c.self.view_is c.text_in.ensures c.in_default.is) c.begin_empty.ensures.ok

pub len-len-requires : goal.len-len-requires
len-len-requires g c =
    let s = c.self.inside in
    (is_named s.pool s.names s.drafts s.levels (beside_of s.gathering s.registers s.traps s.words) s.charge s.stored c.args.name c.in-Some.from c.text_in.result c.self.invariant c.text_in.ensures c.in-Some.is).there.is_open

pub overflow_cast-len : goal.overflow_cast-len
overflow_cast-len g c =
    let s = c.self.inside in
    let weighs = (is_named s.pool s.names s.drafts s.levels (beside_of s.gathering s.registers s.traps s.words) s.charge s.stored c.args.name c.in-Some.from c.text_in.result c.self.invariant c.text_in.ensures c.in-Some.is).there.weighs in
    let below = c.self.invariant.within in
    let small = c.self.invariant.small in
    omega arith

pub returns-then-self-len-clause-answer : goal.returns-then-self-len-clause-answer
returns-then-self-len-clause-answer g c =
    let s = c.self.inside in
    let within = is_within s.pool s.names s.drafts s.levels (beside_of s.gathering s.registers s.traps s.words) s.charge s.stored c.args.self.now c.self.invariant c.self.view_is in
    let long = c.len-len.ensures in
    let below = c.self.invariant.within in
    sym (ap (λ t. afforded (begun t c.args.diversion c.args.self.now) tt) (some_text_of s.pool s.names.entries s.drafts.items s.levels (beside_of s.gathering s.registers s.traps s.words) s.stored c.args.name c.in-Some.from c.text_in.result c.args.self.now c.self.view_is c.text_in.ensures c.in-Some.is) ∙ begin_refused s.charge s.stored c.args.self.now (text s.pool c.in-Some.from) c.args.diversion tt within (omega arith))

pub returns-in_default-open-clause-answer : goal.returns-in_default-open-clause-answer
returns-in_default-open-clause-answer g c =
    let s = c.self.inside in
    let below = c.self.invariant.within in
    let long = c.len-len.ensures in
    absurd (room_for_a_text s.pool s.names s.drafts s.levels (beside_of s.gathering s.registers s.traps s.words) s.charge s.stored c.self.invariant (omega arith) (c.in_default-open.ensures.full.0 refl))

pub copy_text-requires-clause-from_open : goal.copy_text-requires-clause-from_open
copy_text-requires-clause-from_open g c =
    let s = c.self.inside in
    c.in-Ok.ensures.keeps c.in-Some.from (is_named s.pool s.names s.drafts s.levels (beside_of s.gathering s.registers s.traps s.words) s.charge s.stored c.args.name c.in-Some.from c.text_in.result c.self.invariant c.text_in.ensures c.in-Some.is).there.is_open

pub invariant_of-self-in_default-copy_text : goal.invariant_of-self-in_default-copy_text
invariant_of-self-in_default-copy_text g c =
    let s = c.self.inside in
    let below = c.self.invariant.within in
    let long = c.len-len.ensures in
    absurd (copy_fits s.pool s.names s.drafts s.levels (beside_of s.gathering s.registers s.traps s.words) s.charge s.stored c.in-Ok.id c.in-Some.from c.args.diversion c.self.invariant c.in-Ok.ensures.unused (is_named s.pool s.names s.drafts s.levels (beside_of s.gathering s.registers s.traps s.words) s.charge s.stored c.args.name c.in-Some.from c.text_in.result c.self.invariant c.text_in.ensures c.in-Some.is).there.is_open (omega arith) (rw c.in-Ok.ensures.ok at (c.in_default-copy_text.ensures.full.0 refl)))

pub returns-in_default-copy_text-clause-answer : goal.returns-in_default-copy_text-clause-answer
returns-in_default-copy_text-clause-answer g c =
    let s = c.self.inside in
    let below = c.self.invariant.within in
    let long = c.len-len.ensures in
    absurd (copy_fits s.pool s.names s.drafts s.levels (beside_of s.gathering s.registers s.traps s.words) s.charge s.stored c.in-Ok.id c.in-Some.from c.args.diversion c.self.invariant c.in-Ok.ensures.unused (is_named s.pool s.names s.drafts s.levels (beside_of s.gathering s.registers s.traps s.words) s.charge s.stored c.args.name c.in-Some.from c.text_in.result c.self.invariant c.text_in.ensures c.in-Some.is).there.is_open (omega arith) (rw c.in-Ok.ensures.ok at (c.in_default-copy_text.ensures.full.0 refl)))

pub returns-in_default-copy_text-clause-err : goal.returns-in_default-copy_text-clause-err
returns-in_default-copy_text-clause-err g c =
    let s = c.self.inside in
    let below = c.self.invariant.within in
    let long = c.len-len.ensures in
    absurd (copy_fits s.pool s.names s.drafts s.levels (beside_of s.gathering s.registers s.traps s.words) s.charge s.stored c.in-Ok.id c.in-Some.from c.args.diversion c.self.invariant c.in-Ok.ensures.unused (is_named s.pool s.names s.drafts s.levels (beside_of s.gathering s.registers s.traps s.words) s.charge s.stored c.args.name c.in-Some.from c.text_in.result c.self.invariant c.text_in.ensures c.in-Some.is).there.is_open (omega arith) (rw c.in-Ok.ensures.ok at (c.in_default-copy_text.ensures.full.0 refl)))

pub push-requires : goal.push-requires
push-requires g c =
    let s = c.self.inside in
    let below = c.self.invariant.within in
    let long = c.len-len.ensures in
    room_for_a_draft s.pool s.names s.drafts s.levels (beside_of s.gathering s.registers s.traps s.words) s.charge s.stored c.self.invariant (omega arith)

pub invariant_of-self-2 : goal.invariant_of-self-2
invariant_of-self-2 g c =
    let s = c.self.inside in
    let below = c.self.invariant.within in
    let long = c.len-len.ensures in
    rw (c.in-Ok-copy_text.ensures.ok, c.in-Ok.ensures.ok, c.push.ensures, c.len-len.ensures) (copied_stands s.pool s.names s.drafts s.levels (beside_of s.gathering s.registers s.traps s.words) s.charge s.stored c.in-Ok.id c.in-Some.from c.args.diversion c.self.invariant c.in-Ok.ensures.unused (is_named s.pool s.names s.drafts s.levels (beside_of s.gathering s.registers s.traps s.words) s.charge s.stored c.args.name c.in-Some.from c.text_in.result c.self.invariant c.text_in.ensures c.in-Some.is).there.is_open (omega arith))

pub returns-clause-answer : goal.returns-clause-answer
returns-clause-answer g c =
    let s = c.self.inside in
    let within = is_within s.pool s.names s.drafts s.levels (beside_of s.gathering s.registers s.traps s.words) s.charge s.stored c.args.self.now c.self.invariant c.self.view_is in
    let long = c.len-len.ensures in
    let below = c.self.invariant.within in
    sym (ap (λ t. afforded (begun t c.args.diversion c.args.self.now) tt) (some_text_of s.pool s.names.entries s.drafts.items s.levels (beside_of s.gathering s.registers s.traps s.words) s.stored c.args.name c.in-Some.from c.text_in.result c.args.self.now c.self.view_is c.text_in.ensures c.in-Some.is) ∙ begin_afforded s.charge s.stored c.args.self.now (text s.pool c.in-Some.from) c.args.diversion tt within (omega arith))

pub returns-clause-ok : goal.returns-clause-ok
returns-clause-ok g c =
    let s = c.self.inside in
    let below = c.self.invariant.within in
    let long = c.len-len.ensures in
    rw (c.in-Ok-copy_text.ensures.ok, c.in-Ok.ensures.ok, c.push.ensures, some_text_of s.pool s.names.entries s.drafts.items s.levels (beside_of s.gathering s.registers s.traps s.words) s.stored c.args.name c.in-Some.from c.text_in.result c.args.self.now c.self.view_is c.text_in.ensures c.in-Some.is) (copied_is s.pool s.names s.drafts s.levels (beside_of s.gathering s.registers s.traps s.words) s.charge s.stored c.in-Ok.id c.in-Some.from c.args.diversion c.self.invariant c.in-Ok.ensures.unused (is_named s.pool s.names s.drafts s.levels (beside_of s.gathering s.registers s.traps s.words) s.charge s.stored c.args.name c.in-Some.from c.text_in.result c.self.invariant c.text_in.ensures c.in-Some.is).there.is_open (omega arith) ∙ ap (begun (text s.pool c.in-Some.from) c.args.diversion) c.self.view_is)

pub returns-then-self-lt48-clause-answer : goal.returns-then-self-lt48-clause-answer
returns-then-self-lt48-clause-answer g c = grind (arith, common_steps)
