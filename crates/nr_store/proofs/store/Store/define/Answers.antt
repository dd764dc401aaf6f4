use Rattle.std.proofs.Common.{length, ap, sym, ◌∙◌, arith}
use Rattle.nr_store.specs.Holders.{beside_of}
use Rattle.nr_store.proofs.Building.{cons_of}
use Rattle.nr_store.proofs.Defining.{room_for_a_name}
use Rattle.nr_store.proofs.Dropping.{text_dropped, request_given_up, defined_new, defined_again}
use Rattle.nr_store.proofs.store.Store.define.Goals as goal

pub put-requires : goal.put-requires
put-requires g c =
    let s = c.self.inside in
    let long = ap length (cons_of _ _ (sym c.top.ensures ∙ c.in-Some.is)) in
    λ _. room_for_a_name s.pool s.names s.drafts s.levels (beside_of s.gathering s.registers s.traps s.words) s.charge s.stored c.self.invariant (omega arith)

pub invariant_of-self : goal.invariant_of-self
invariant_of-self g c =
    let s = c.self.inside in
    rw (c.put.ensures.is, c.pop.ensures) (defined_new s.pool s.names s.drafts s.levels (beside_of s.gathering s.registers s.traps s.words) s.charge s.stored c.args.name c.in-Some.draft c.put.result c.args.self.now c.self.invariant c.self.view_is (sym c.top.ensures ∙ c.in-Some.is) c.put.ensures.was c.in_default-put.is).stands

pub returns-in_default-put-clause-is : goal.returns-in_default-put-clause-is
returns-in_default-put-clause-is g c =
    let s = c.self.inside in
    rw (c.put.ensures.is, c.pop.ensures) (defined_new s.pool s.names s.drafts s.levels (beside_of s.gathering s.registers s.traps s.words) s.charge s.stored c.args.name c.in-Some.draft c.put.result c.args.self.now c.self.invariant c.self.view_is (sym c.top.ensures ∙ c.in-Some.is) c.put.ensures.was c.in_default-put.is).is

pub returns-in_default-put-clause-no_more : goal.returns-in_default-put-clause-no_more
returns-in_default-put-clause-no_more g c =
    let s = c.self.inside in
    rw (c.put.ensures.is, c.pop.ensures, ← c.self.view_is) (defined_new s.pool s.names s.drafts s.levels (beside_of s.gathering s.registers s.traps s.words) s.charge s.stored c.args.name c.in-Some.draft c.put.result c.args.self.now c.self.invariant c.self.view_is (sym c.top.ensures ∙ c.in-Some.is) c.put.ensures.was c.in_default-put.is).no_more

pub invariant_of-self-in_default-old : goal.invariant_of-self-in_default-old
invariant_of-self-in_default-old g c =
    let s = c.self.inside in
    rw (c.put.ensures.is, c.pop.ensures) (request_given_up s.pool s.names s.drafts s.levels (beside_of s.gathering s.registers s.traps s.words) s.charge s.stored _ _ _ _ c.self.invariant (defined_again s.pool s.names s.drafts s.levels (beside_of s.gathering s.registers s.traps s.words) s.charge s.stored c.args.name c.in-Some.draft c.put.result c.args.self.now c.self.invariant c.self.view_is (sym c.top.ensures ∙ c.in-Some.is) c.put.ensures.was c.in-Some-put.old c.in-Some-put.is) _ c.in_default-old.is).stands

pub returns-in_default-old-clause-is : goal.returns-in_default-old-clause-is
returns-in_default-old-clause-is g c =
    let s = c.self.inside in
    rw (c.put.ensures.is, c.pop.ensures) (request_given_up s.pool s.names s.drafts s.levels (beside_of s.gathering s.registers s.traps s.words) s.charge s.stored _ _ _ _ c.self.invariant (defined_again s.pool s.names s.drafts s.levels (beside_of s.gathering s.registers s.traps s.words) s.charge s.stored c.args.name c.in-Some.draft c.put.result c.args.self.now c.self.invariant c.self.view_is (sym c.top.ensures ∙ c.in-Some.is) c.put.ensures.was c.in-Some-put.old c.in-Some-put.is) _ c.in_default-old.is).is

pub returns-in_default-old-clause-no_more : goal.returns-in_default-old-clause-no_more
returns-in_default-old-clause-no_more g c =
    let s = c.self.inside in
    rw (c.put.ensures.is, c.pop.ensures, ← c.self.view_is) (request_given_up s.pool s.names s.drafts s.levels (beside_of s.gathering s.registers s.traps s.words) s.charge s.stored _ _ _ _ c.self.invariant (defined_again s.pool s.names s.drafts s.levels (beside_of s.gathering s.registers s.traps s.words) s.charge s.stored c.args.name c.in-Some.draft c.put.result c.args.self.now c.self.invariant c.self.view_is (sym c.top.ensures ∙ c.in-Some.is) c.put.ensures.was c.in-Some-put.old c.in-Some-put.is) _ c.in_default-old.is).no_more

pub lone_share-requires-clause-is_open : goal.lone_share-requires-clause-is_open
lone_share-requires-clause-is_open g c =
    let s = c.self.inside in
    (text_dropped s.pool s.names s.drafts s.levels (beside_of s.gathering s.registers s.traps s.words) s.charge s.stored _ _ _ _ c.self.invariant (defined_again s.pool s.names s.drafts s.levels (beside_of s.gathering s.registers s.traps s.words) s.charge s.stored c.args.name c.in-Some.draft c.put.result c.args.self.now c.self.invariant c.self.view_is (sym c.top.ensures ∙ c.in-Some.is) c.put.ensures.was c.in-Some-put.old c.in-Some-put.is) c.in-Text.old c.in-Text.is).is_open

pub lone_share-requires-clause-small : goal.lone_share-requires-clause-small
lone_share-requires-clause-small g c =
    let s = c.self.inside in
    let short = (text_dropped s.pool s.names s.drafts s.levels (beside_of s.gathering s.registers s.traps s.words) s.charge s.stored _ _ _ _ c.self.invariant (defined_again s.pool s.names s.drafts s.levels (beside_of s.gathering s.registers s.traps s.words) s.charge s.stored c.args.name c.in-Some.draft c.put.result c.args.self.now c.self.invariant c.self.view_is (sym c.top.ensures ∙ c.in-Some.is) c.put.ensures.was c.in-Some-put.old c.in-Some-put.is) c.in-Text.old c.in-Text.is).short in
    let below = c.self.invariant.within in
    let small = c.self.invariant.small in
    omega arith

pub overflow_add-self : goal.overflow_add-self
overflow_add-self g c =
    let s = c.self.inside in
    let weighs = (text_dropped s.pool s.names s.drafts s.levels (beside_of s.gathering s.registers s.traps s.words) s.charge s.stored _ _ _ _ c.self.invariant (defined_again s.pool s.names s.drafts s.levels (beside_of s.gathering s.registers s.traps s.words) s.charge s.stored c.args.name c.in-Some.draft c.put.result c.args.self.now c.self.invariant c.self.view_is (sym c.top.ensures ∙ c.in-Some.is) c.put.ensures.was c.in-Some-put.old c.in-Some-put.is) c.in-Text.old c.in-Text.is).weighs in
    let below = c.self.invariant.within in
    let small = c.self.invariant.small in
    let own = c.lone_share.ensures in
    omega arith

pub overflow_sub-self : goal.overflow_sub-self
overflow_sub-self g c =
    let s = c.self.inside in
    let weighs = (text_dropped s.pool s.names s.drafts s.levels (beside_of s.gathering s.registers s.traps s.words) s.charge s.stored _ _ _ _ c.self.invariant (defined_again s.pool s.names s.drafts s.levels (beside_of s.gathering s.registers s.traps s.words) s.charge s.stored c.args.name c.in-Some.draft c.put.result c.args.self.now c.self.invariant c.self.view_is (sym c.top.ensures ∙ c.in-Some.is) c.put.ensures.was c.in-Some-put.old c.in-Some-put.is) c.in-Text.old c.in-Text.is).weighs in
    let own = c.lone_share.ensures in
    omega arith

pub release-requires : goal.release-requires
release-requires g c =
    let s = c.self.inside in
    (text_dropped s.pool s.names s.drafts s.levels (beside_of s.gathering s.registers s.traps s.words) s.charge s.stored _ _ _ _ c.self.invariant (defined_again s.pool s.names s.drafts s.levels (beside_of s.gathering s.registers s.traps s.words) s.charge s.stored c.args.name c.in-Some.draft c.put.result c.args.self.now c.self.invariant c.self.view_is (sym c.top.ensures ∙ c.in-Some.is) c.put.ensures.was c.in-Some-put.old c.in-Some-put.is) c.in-Text.old c.in-Text.is).is_open

pub invariant_of-self-2 : goal.invariant_of-self-2
invariant_of-self-2 g c =
    let s = c.self.inside in
    rw (c.put.ensures.is, c.pop.ensures, c.release.ensures.released, c.lone_share.ensures) (text_dropped s.pool s.names s.drafts s.levels (beside_of s.gathering s.registers s.traps s.words) s.charge s.stored _ _ _ _ c.self.invariant (defined_again s.pool s.names s.drafts s.levels (beside_of s.gathering s.registers s.traps s.words) s.charge s.stored c.args.name c.in-Some.draft c.put.result c.args.self.now c.self.invariant c.self.view_is (sym c.top.ensures ∙ c.in-Some.is) c.put.ensures.was c.in-Some-put.old c.in-Some-put.is) c.in-Text.old c.in-Text.is).stands

pub returns-clause-is : goal.returns-clause-is
returns-clause-is g c =
    let s = c.self.inside in
    rw (c.put.ensures.is, c.pop.ensures, c.release.ensures.released) (text_dropped s.pool s.names s.drafts s.levels (beside_of s.gathering s.registers s.traps s.words) s.charge s.stored _ _ _ _ c.self.invariant (defined_again s.pool s.names s.drafts s.levels (beside_of s.gathering s.registers s.traps s.words) s.charge s.stored c.args.name c.in-Some.draft c.put.result c.args.self.now c.self.invariant c.self.view_is (sym c.top.ensures ∙ c.in-Some.is) c.put.ensures.was c.in-Some-put.old c.in-Some-put.is) c.in-Text.old c.in-Text.is).is

pub returns-clause-no_more : goal.returns-clause-no_more
returns-clause-no_more g c =
    let s = c.self.inside in
    rw (c.put.ensures.is, c.pop.ensures, c.release.ensures.released, ← c.self.view_is) (text_dropped s.pool s.names s.drafts s.levels (beside_of s.gathering s.registers s.traps s.words) s.charge s.stored _ _ _ _ c.self.invariant (defined_again s.pool s.names s.drafts s.levels (beside_of s.gathering s.registers s.traps s.words) s.charge s.stored c.args.name c.in-Some.draft c.put.result c.args.self.now c.self.invariant c.self.view_is (sym c.top.ensures ∙ c.in-Some.is) c.put.ensures.was c.in-Some-put.old c.in-Some-put.is) c.in-Text.old c.in-Text.is).no_more
