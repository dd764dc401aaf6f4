use Rattle.std.proofs.Common.{[], length, Some, is_some, true, refl, ap, sym, ◌∙◌, arith}
use Rattle.std.proofs.lemmas.Grind.{common_steps}
use Rattle.std.specs.Option.{option_map}
use Rattle.std.proofs.lemmas.Bool.{leb-true, leb-false}
use Rattle.nr_store.specs.Holders.{beside_of}
use Rattle.nr_pool.specs.Texts.{text}
use Rattle.nr_store.specs.Store.{Stored, checked, shared_by, entered}
use Rattle.nr_store.proofs.Keeping.{levels_within}
use Rattle.nr_store.proofs.Building.{is_within}
use Rattle.nr_store.proofs.Entering.{entered_is, entered_stands}
use Rattle.nr_store.proofs.Admitting.{named_text, is_named, text_found, depths, answer_none, answer_refused, answer_deep, answer_admitted}
use Rattle.nr_store.proofs.store.Store.open.Goals as goal

pub returns-in_default-clause-answer : goal.returns-in_default-clause-answer
returns-in_default-clause-answer g c =
    let s = c.self.inside in
    let within = is_within s.pool s.names s.drafts s.levels (beside_of s.gathering s.registers s.traps s.words) s.charge s.stored c.args.self.now c.self.invariant c.self.view_is in
    let none = named_text s.pool s.names.entries s.drafts.items s.levels (beside_of s.gathering s.registers s.traps s.words) s.stored c.args.name c.text_in.result c.args.self.now c.self.view_is c.text_in.ensures ∙ ap (option_map (text s.pool)) c.in_default.is in
    sym (answer_none c.args.self.now s.charge s.stored (λ o. entered c.args.name o c.args.resume c.args.self.now) _ within refl none)

pub returns-in_default-clause-ok : goal.returns-in_default-clause-ok
returns-in_default-clause-ok g c =
    let s = c.self.inside in
    let none = named_text s.pool s.names.entries s.drafts.items s.levels (beside_of s.gathering s.registers s.traps s.words) s.stored c.args.name c.text_in.result c.args.self.now c.self.view_is c.text_in.ensures ∙ ap (option_map (text s.pool)) c.in_default.is in
    sym (ap (λ o. entered c.args.name o c.args.resume c.args.self.now) none)

pub returns-then-self-lt16-clause-answer : goal.returns-then-self-lt16-clause-answer
returns-then-self-lt16-clause-answer g c =
    let s = c.self.inside in
    let within = is_within s.pool s.names s.drafts s.levels (beside_of s.gathering s.registers s.traps s.words) s.charge s.stored c.args.self.now c.self.invariant c.self.view_is in
    let found = named_text s.pool s.names.entries s.drafts.items s.levels (beside_of s.gathering s.registers s.traps s.words) s.stored c.args.name c.text_in.result c.args.self.now c.self.view_is c.text_in.ensures ∙ ap (option_map (text s.pool)) c.in-Some.is in
    let below = c.self.invariant.within in
    sym (ap (λ o. checked (entered c.args.name o c.args.resume c.args.self.now) (is_some o)) found ∙ answer_refused s.charge s.stored 16 c.args.resume [] c.args.self.now (text s.pool c.in-Some.id) (shared_by c.args.name (text s.pool c.in-Some.id) c.args.self.now.texts) refl true within (omega arith))

pub returns-then-is_full-clause-answer : goal.returns-then-is_full-clause-answer
returns-then-is_full-clause-answer g c =
    let s = c.self.inside in
    let within = is_within s.pool s.names s.drafts s.levels (beside_of s.gathering s.registers s.traps s.words) s.charge s.stored c.args.self.now c.self.invariant c.self.view_is in
    let found = named_text s.pool s.names.entries s.drafts.items s.levels (beside_of s.gathering s.registers s.traps s.words) s.stored c.args.name c.text_in.result c.args.self.now c.self.view_is c.text_in.ensures ∙ ap (option_map (text s.pool)) c.in-Some.is in
    let same = depths s.pool s.names.entries s.drafts.items s.levels (beside_of s.gathering s.registers s.traps s.words) s.stored c.args.self.now c.self.view_is in
    let same_most = same.same_most in
    let same_depth = same.same_depth in
    let below = c.self.invariant.within in
    let full = leb-true s.levels.most (length s.levels.levels) (sym c.is_full.ensures ∙ c.if-is_full.true) in
    sym (ap (λ o. checked (entered c.args.name o c.args.resume c.args.self.now) (is_some o)) found ∙ answer_deep s.charge s.stored 16 c.args.resume [] c.args.self.now (text s.pool c.in-Some.id) (shared_by c.args.name (text s.pool c.in-Some.id) c.args.self.now.texts) refl true within (omega arith) (omega arith))

pub hold-requires-clause-is_open : goal.hold-requires-clause-is_open
hold-requires-clause-is_open g c =
    let s = c.self.inside in
    (is_named s.pool s.names s.drafts s.levels (beside_of s.gathering s.registers s.traps s.words) s.charge s.stored c.args.name c.in-Some.id c.text_in.result c.self.invariant c.text_in.ensures c.in-Some.is).there.is_open

pub hold-requires-clause-fits : goal.hold-requires-clause-fits
hold-requires-clause-fits g c =
    let s = c.self.inside in
    let few = (is_named s.pool s.names s.drafts s.levels (beside_of s.gathering s.registers s.traps s.words) s.charge s.stored c.args.name c.in-Some.id c.text_in.result c.self.invariant c.text_in.ensures c.in-Some.is).there.few in
    let below = c.self.invariant.within in
    let small = c.self.invariant.small in
    omega arith

pub open_text-requires-clause-bytes : goal.open_text-requires-clause-bytes
open_text-requires-clause-bytes g c =
    let s = c.self.inside in
    let below = c.self.invariant.within in
    let fit = levels_within s.pool s.names s.drafts s.levels (beside_of s.gathering s.registers s.traps s.words) s.charge s.stored c.self.invariant in
    let suffice = c.self.invariant.bytes_suffice in
    omega arith

pub invariant_of-self : goal.invariant_of-self
invariant_of-self g c =
    let s = c.self.inside in
    let there = text_found _ c.in-Some.id (sym c.text_in.ensures ∙ c.in-Some.is) in
    let deep = leb-false s.levels.most (length s.levels.levels) (sym c.is_full.ensures ∙ c.if-is_full.false) in
    let below = c.self.invariant.within in
    rw (c.hold.ensures.held, c.open_text.ensures) (entered_stands s.pool s.names s.drafts s.levels (beside_of s.gathering s.registers s.traps s.words) s.charge s.stored c.in-Some.id c.self.invariant c.args.name there [] 16 c.args.resume (omega arith) (omega arith) deep)

pub returns-clause-answer : goal.returns-clause-answer
returns-clause-answer g c =
    let s = c.self.inside in
    let within = is_within s.pool s.names s.drafts s.levels (beside_of s.gathering s.registers s.traps s.words) s.charge s.stored c.args.self.now c.self.invariant c.self.view_is in
    let found = named_text s.pool s.names.entries s.drafts.items s.levels (beside_of s.gathering s.registers s.traps s.words) s.stored c.args.name c.text_in.result c.args.self.now c.self.view_is c.text_in.ensures ∙ ap (option_map (text s.pool)) c.in-Some.is in
    let same = depths s.pool s.names.entries s.drafts.items s.levels (beside_of s.gathering s.registers s.traps s.words) s.stored c.args.self.now c.self.view_is in
    let same_most = same.same_most in
    let same_depth = same.same_depth in
    let below = c.self.invariant.within in
    let deep = leb-false s.levels.most (length s.levels.levels) (sym c.is_full.ensures ∙ c.if-is_full.false) in
    sym (ap (λ o. checked (entered c.args.name o c.args.resume c.args.self.now) (is_some o)) found ∙ answer_admitted s.charge s.stored 16 c.args.resume [] c.args.self.now (text s.pool c.in-Some.id) (shared_by c.args.name (text s.pool c.in-Some.id) c.args.self.now.texts) refl true within (omega arith) (omega arith))

pub returns-clause-ok : goal.returns-clause-ok
returns-clause-ok g c =
    let s = c.self.inside in
    let there = text_found _ c.in-Some.id (sym c.text_in.ensures ∙ c.in-Some.is) in
    let found = named_text s.pool s.names.entries s.drafts.items s.levels (beside_of s.gathering s.registers s.traps s.words) s.stored c.args.name c.text_in.result c.args.self.now c.self.view_is c.text_in.ensures ∙ ap (option_map (text s.pool)) c.in-Some.is in
    rw (c.hold.ensures.held, c.open_text.ensures, found) (entered_is s.pool s.names s.drafts s.levels (beside_of s.gathering s.registers s.traps s.words) s.charge s.stored c.in-Some.id c.self.invariant c.args.name there [] 16 c.args.resume (omega arith) ∙ ap (λ (v : Stored _). entered c.args.name (Some (text s.pool c.in-Some.id)) c.args.resume v) c.self.view_is)

pub overflow_add-self : goal.overflow_add-self
overflow_add-self g c = grind (arith, common_steps)
