use Rattle.std.proofs.Common.{◌≡◌, ◌+◌, ◌-◌, length, Some, None, is_some, false, ap₂, ap, sym, ◌∙◌, subst, arith}
use Rattle.std.specs.Option.{option_map}
use Rattle.std.proofs.lemmas.Bool.{leb-true, leb-false}
use Rattle.nr_pool.specs.Texts.{text, holders, with_holders}
use Rattle.nr_levels.specs.Levels.{Text, deeper, cut}
use Rattle.nr_levels.specs.Gathering.{gathered_len, bytes_in}
use Rattle.nr_levels.specs.Laws.{cut_joined, length-joined, sum-lengths}
use Rattle.nr_store.specs.Store.{Stored, checked, called, ungathered}
use Rattle.nr_store.specs.Holders.{beside_of, IsStore}
use Rattle.nr_store.proofs.Keeping.{levels_within}
use Rattle.nr_store.proofs.Besides.{beside_paid}
use Rattle.nr_store.proofs.Calling.{call_admitted, call_deep, call_refused, cleared, clear_stands, clear_within}
use Rattle.nr_store.proofs.Entering.{entered_is, entered_stands}
use Rattle.nr_store.proofs.Admitting.{named_text, is_named, text_found}
use Rattle.nr_store.proofs.Building.{admitted}
use Rattle.nr_store.proofs.store.Store.call.Goals as goal

pub returns-in_default-clause-answer : goal.returns-in_default-clause-answer
returns-in_default-clause-answer g c =
    let s = c.self.inside in
    let below = c.self.invariant.within in
    let paid = beside_paid s.pool s.names s.drafts s.levels (beside_of s.gathering s.registers s.traps s.words) s.charge s.stored c.self.invariant in
    let within = clear_within s.pool s.names s.drafts s.levels s.gathering s.registers s.traps s.words s.charge s.stored c.self.invariant c.args.self.now c.self.view_is in
    let none = named_text s.pool s.names.entries s.drafts.items s.levels (beside_of s.gathering s.registers s.traps s.words) s.stored c.args.name c.text_in.result c.args.self.now c.self.view_is c.text_in.ensures ∙ ap (option_map (text s.pool)) c.in_default.is in
    let charged = within.charged in
    let limits = within.same_limit in
    let fits = within.within in
    sym (ap (λ o. checked (called c.args.name o c.args.self.now) (is_some o)) none ∙ admitted (ungathered c.args.self.now) false (omega arith) within.deep)

pub returns-in_default-clause-ok : goal.returns-in_default-clause-ok
returns-in_default-clause-ok g c =
    let s = c.self.inside in
    let none = named_text s.pool s.names.entries s.drafts.items s.levels (beside_of s.gathering s.registers s.traps s.words) s.stored c.args.name c.text_in.result c.args.self.now c.self.view_is c.text_in.ensures ∙ ap (option_map (text s.pool)) c.in_default.is in
    rw c.begin_arguments.ensures (sym (ap (λ o. called c.args.name o c.args.self.now) none))

pub overflow_cast-kept : goal.overflow_cast-kept
overflow_cast-kept g c =
    let s = c.self.inside in
    let below = c.self.invariant.within in
    let paid = beside_paid s.pool s.names s.drafts s.levels (beside_of s.gathering s.registers s.traps s.words) s.charge s.stored c.self.invariant in
    let small = c.self.invariant.small in
    let bytes_are = length-joined s.gathering.gathered.kept in
    omega arith

pub returns-then-self-before-clause-answer : goal.returns-then-self-before-clause-answer
returns-then-self-before-clause-answer g c =
    let s = c.self.inside in
    let paid = beside_paid s.pool s.names s.drafts s.levels (beside_of s.gathering s.registers s.traps s.words) s.charge s.stored c.self.invariant in
    let bytes_are = length-joined s.gathering.gathered.kept in
    sym (call_refused s.pool s.names s.drafts s.levels s.gathering s.registers s.traps s.words s.charge s.stored c.self.invariant c.args.self.now c.self.view_is c.args.name c.in-Some.id c.text_in.result c.text_in.ensures c.in-Some.is (omega (arith, paid, bytes_are, c.self.invariant.within, c.kept_len-kept.ensures, c.len.ensures)))

pub returns-then-self-before-lt16-clause-answer : goal.returns-then-self-before-lt16-clause-answer
returns-then-self-before-lt16-clause-answer g c =
    let s = c.self.inside in
    let paid = beside_paid s.pool s.names s.drafts s.levels (beside_of s.gathering s.registers s.traps s.words) s.charge s.stored c.self.invariant in
    let bytes_are = length-joined s.gathering.gathered.kept in
    sym (call_refused s.pool s.names s.drafts s.levels s.gathering s.registers s.traps s.words s.charge s.stored c.self.invariant c.args.self.now c.self.view_is c.args.name c.in-Some.id c.text_in.result c.text_in.ensures c.in-Some.is (omega (arith, paid, bytes_are, c.self.invariant.within, c.kept_len-kept.ensures, c.len.ensures)))

pub returns-then-is_full-clause-answer : goal.returns-then-is_full-clause-answer
returns-then-is_full-clause-answer g c =
    let s = c.self.inside in
    let paid = beside_paid s.pool s.names s.drafts s.levels (beside_of s.gathering s.registers s.traps s.words) s.charge s.stored c.self.invariant in
    let bytes_are = length-joined s.gathering.gathered.kept in
    let full = leb-true s.levels.most (length s.levels.levels) (sym c.is_full.ensures ∙ c.if-is_full.true) in
    sym (call_deep s.pool s.names s.drafts s.levels s.gathering s.registers s.traps s.words s.charge s.stored c.self.invariant c.args.self.now c.self.view_is c.args.name c.in-Some.id c.text_in.result c.text_in.ensures c.in-Some.is (omega (arith, paid, bytes_are, c.self.invariant.within, c.kept_len-kept.ensures, c.len.ensures)) full)

pub hold-requires-clause-is_open : goal.hold-requires-clause-is_open
hold-requires-clause-is_open g c =
    let s = c.self.inside in
    (is_named s.pool s.names s.drafts s.levels (beside_of s.gathering s.registers s.traps s.words) s.charge s.stored c.args.name c.in-Some.id c.text_in.result c.self.invariant c.text_in.ensures c.in-Some.is).there.is_open

pub hold-requires-clause-fits : goal.hold-requires-clause-fits
hold-requires-clause-fits g c =
    let s = c.self.inside in
    let few = (is_named s.pool s.names s.drafts s.levels (beside_of s.gathering s.registers s.traps s.words) s.charge s.stored c.args.name c.in-Some.id c.text_in.result c.self.invariant c.text_in.ensures c.in-Some.is).there.few in
    let below = c.self.invariant.within in
    let small = c.self.invariant.small in
    omega arith

pub open_call-requires-clause-bytes : goal.open_call-requires-clause-bytes
open_call-requires-clause-bytes g c =
    let s = c.self.inside in
    let below = c.self.invariant.within in
    let paid = beside_paid s.pool s.names s.drafts s.levels (beside_of s.gathering s.registers s.traps s.words) s.charge s.stored c.self.invariant in
    let clear = clear_stands s.pool s.names s.drafts s.levels s.gathering s.registers s.traps s.words s.charge s.stored c.self.invariant in
    let fit = levels_within s.pool s.names s.drafts s.levels (cleared s.gathering s.registers s.traps s.words) (s.charge - gathered_len s.gathering.gathered) s.stored clear in
    let rooms = c.self.invariant.bytes_suffice in
    let kept_is = c.kept_len-kept.ensures in
    let all_is = c.len.ensures in
    let bytes_are = length-joined s.gathering.gathered.kept in
    omega arith

pub open_call-requires-clause-lens : goal.open_call-requires-clause-lens
open_call-requires-clause-lens g c =
    let s = c.self.inside in
    rw (c.kept_lens-lens.ensures.lens, c.kept_bytes-bytes.ensures) (sum-lengths s.gathering.gathered.kept)

pub invariant_of-self : goal.invariant_of-self
invariant_of-self g c =
    let s = c.self.inside in
    let below = c.self.invariant.within in
    let paid = beside_paid s.pool s.names s.drafts s.levels (beside_of s.gathering s.registers s.traps s.words) s.charge s.stored c.self.invariant in
    let clear = clear_stands s.pool s.names s.drafts s.levels s.gathering s.registers s.traps s.words s.charge s.stored c.self.invariant in
    let kept_is = c.kept_len-kept.ensures in
    let all_is = c.len.ensures in
    let bytes_are = length-joined s.gathering.gathered.kept in
    let there = text_found _ c.in-Some.id (sym c.text_in.ensures ∙ c.in-Some.is) in
    let deep = leb-false s.levels.most (length s.levels.levels) (sym c.is_full.ensures ∙ c.if-is_full.false) in
    let args_are = ap₂ cut c.kept_lens-lens.ensures.lens c.kept_bytes-bytes.ensures ∙ cut_joined s.gathering.gathered.kept in
    let cost_is : 16 + c.kept_len-kept.result ≡ (16 + bytes_in s.gathering.gathered.kept) = omega arith in
    let levels_are : c.open_call.new.self ≡ deeper (Text c.in-Some.id 0) s.gathering.gathered.kept (16 + bytes_in s.gathering.gathered.kept) None s.levels =
    c.open_call.ensures ∙ ap₂ (λ args n. deeper (Text c.in-Some.id 0) args n None s.levels) args_are cost_is in
    let charge_is : (s.charge - gathered_len s.gathering.gathered) + (16 + bytes_in s.gathering.gathered.kept) ≡ s.charge - c.len.result + 16 + c.kept_len-kept.result = omega arith in
    rw (c.hold.ensures.held, levels_are, c.clear.ensures)
    (subst (λ n. IsStore (with_holders s.pool c.in-Some.id (holders s.pool c.in-Some.id + 1)) s.names s.drafts (deeper (Text c.in-Some.id 0) s.gathering.gathered.kept (16 + bytes_in s.gathering.gathered.kept) None s.levels) (cleared s.gathering s.registers s.traps s.words) n s.stored) charge_is
    (entered_stands s.pool s.names s.drafts s.levels (cleared s.gathering s.registers s.traps s.words) (s.charge - gathered_len s.gathering.gathered) s.stored c.in-Some.id clear c.args.name there s.gathering.gathered.kept (16 + bytes_in s.gathering.gathered.kept) None (omega arith) (omega arith) deep))

pub returns-clause-answer : goal.returns-clause-answer
returns-clause-answer g c =
    let s = c.self.inside in
    let paid = beside_paid s.pool s.names s.drafts s.levels (beside_of s.gathering s.registers s.traps s.words) s.charge s.stored c.self.invariant in
    let bytes_are = length-joined s.gathering.gathered.kept in
    let deep = leb-false s.levels.most (length s.levels.levels) (sym c.is_full.ensures ∙ c.if-is_full.false) in
    sym (call_admitted s.pool s.names s.drafts s.levels s.gathering s.registers s.traps s.words s.charge s.stored c.self.invariant c.args.self.now c.self.view_is c.args.name c.in-Some.id c.text_in.result c.text_in.ensures c.in-Some.is (omega (arith, paid, bytes_are, c.self.invariant.within, c.kept_len-kept.ensures, c.len.ensures)) deep)

pub returns-clause-ok : goal.returns-clause-ok
returns-clause-ok g c =
    let s = c.self.inside in
    let below = c.self.invariant.within in
    let paid = beside_paid s.pool s.names s.drafts s.levels (beside_of s.gathering s.registers s.traps s.words) s.charge s.stored c.self.invariant in
    let clear = clear_stands s.pool s.names s.drafts s.levels s.gathering s.registers s.traps s.words s.charge s.stored c.self.invariant in
    let kept_is = c.kept_len-kept.ensures in
    let all_is = c.len.ensures in
    let bytes_are = length-joined s.gathering.gathered.kept in
    let there = text_found _ c.in-Some.id (sym c.text_in.ensures ∙ c.in-Some.is) in
    let args_are = ap₂ cut c.kept_lens-lens.ensures.lens c.kept_bytes-bytes.ensures ∙ cut_joined s.gathering.gathered.kept in
    let cost_is : 16 + c.kept_len-kept.result ≡ (16 + bytes_in s.gathering.gathered.kept) = omega arith in
    let levels_are : c.open_call.new.self ≡ deeper (Text c.in-Some.id 0) s.gathering.gathered.kept (16 + bytes_in s.gathering.gathered.kept) None s.levels =
    c.open_call.ensures ∙ ap₂ (λ args n. deeper (Text c.in-Some.id 0) args n None s.levels) args_are cost_is in
    let found = named_text s.pool s.names.entries s.drafts.items s.levels (beside_of s.gathering s.registers s.traps s.words) s.stored c.args.name c.text_in.result c.args.self.now c.self.view_is c.text_in.ensures ∙ ap (option_map (text s.pool)) c.in-Some.is in
    rw (c.hold.ensures.held, levels_are, c.clear.ensures, found)
    (entered_is s.pool s.names s.drafts s.levels (cleared s.gathering s.registers s.traps s.words) (s.charge - gathered_len s.gathering.gathered) s.stored c.in-Some.id clear c.args.name there s.gathering.gathered.kept (16 + bytes_in s.gathering.gathered.kept) None (omega arith) ∙ ap (λ (v : Stored _). called c.args.name (Some (text s.pool c.in-Some.id)) v) c.self.view_is)
