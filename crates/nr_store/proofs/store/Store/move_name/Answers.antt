use Rattle.std.proofs.Common.{refl, ap, ◌∙◌, arith}
use Rattle.nr_store.specs.Holders.{beside_of}
use Rattle.nr_symbol_tables.specs.Table.{find}
use Rattle.nr_symbol_tables.specs.Rows.{SymbolTable}
use Rattle.nr_store.proofs.Dropping.{text_dropped, request_given_up, taken_none, unmoved, room_again, changed_new, changed_again}
use Rattle.nr_store.proofs.store.Store.move_name.Goals as goal

pub invariant_of-self : goal.invariant_of-self
invariant_of-self g c =
    let s = c.self.inside in
    rw c.remove.ensures.is (taken_none s.pool s.names s.drafts s.levels (beside_of s.gathering s.registers s.traps s.words) s.charge s.stored c.args.from c.remove.result c.args.self.now c.self.invariant c.self.view_is c.remove.ensures.was c.in_default.is).stands

pub returns-in_default-clause-is : goal.returns-in_default-clause-is
returns-in_default-clause-is g c =
    let s = c.self.inside in
    rw c.remove.ensures.is (unmoved s.pool s.names.entries s.drafts.items s.levels (beside_of s.gathering s.registers s.traps s.words) s.stored c.args.from c.args.to c.remove.result c.args.self.now c.self.view_is c.remove.ensures.was c.in_default.is)

pub returns-in_default-clause-no_more : goal.returns-in_default-clause-no_more
returns-in_default-clause-no_more g c =
    let s = c.self.inside in
    rw (c.remove.ensures.is, ← c.self.view_is) (taken_none s.pool s.names s.drafts s.levels (beside_of s.gathering s.registers s.traps s.words) s.charge s.stored c.args.from c.remove.result c.args.self.now c.self.invariant c.self.view_is c.remove.ensures.was c.in_default.is).no_more

pub put-requires : goal.put-requires
put-requires g c =
    let s = c.self.inside in
    rw c.remove.ensures.is (λ _. room_again s.pool s.names s.drafts s.levels (beside_of s.gathering s.registers s.traps s.words) s.charge s.stored c.args.from c.args.to c.remove.result (find c.args.to _) c.args.self.now c.self.invariant c.self.view_is c.remove.ensures.was c.in-Some.sense c.in-Some.is refl)

pub invariant_of-self-in_default-put : goal.invariant_of-self-in_default-put
invariant_of-self-in_default-put g c =
    let s = c.self.inside in
    rw (c.put.ensures.is, c.remove.ensures.is) (changed_new s.pool s.names s.drafts s.levels (beside_of s.gathering s.registers s.traps s.words) s.charge s.stored c.args.from c.args.to c.remove.result c.put.result c.args.self.now c.self.invariant c.self.view_is c.remove.ensures.was c.in-Some.sense c.in-Some.is (c.put.ensures.was ∙ ap (λ (t : SymbolTable _). find c.args.to t.entries) c.remove.ensures.is) c.in_default-put.is).stands

pub returns-in_default-put-clause-is : goal.returns-in_default-put-clause-is
returns-in_default-put-clause-is g c =
    let s = c.self.inside in
    rw (c.put.ensures.is, c.remove.ensures.is) (changed_new s.pool s.names s.drafts s.levels (beside_of s.gathering s.registers s.traps s.words) s.charge s.stored c.args.from c.args.to c.remove.result c.put.result c.args.self.now c.self.invariant c.self.view_is c.remove.ensures.was c.in-Some.sense c.in-Some.is (c.put.ensures.was ∙ ap (λ (t : SymbolTable _). find c.args.to t.entries) c.remove.ensures.is) c.in_default-put.is).is

pub returns-in_default-put-clause-no_more : goal.returns-in_default-put-clause-no_more
returns-in_default-put-clause-no_more g c =
    let s = c.self.inside in
    rw (c.put.ensures.is, c.remove.ensures.is, ← c.self.view_is) (changed_new s.pool s.names s.drafts s.levels (beside_of s.gathering s.registers s.traps s.words) s.charge s.stored c.args.from c.args.to c.remove.result c.put.result c.args.self.now c.self.invariant c.self.view_is c.remove.ensures.was c.in-Some.sense c.in-Some.is (c.put.ensures.was ∙ ap (λ (t : SymbolTable _). find c.args.to t.entries) c.remove.ensures.is) c.in_default-put.is).no_more

pub invariant_of-self-in_default-old : goal.invariant_of-self-in_default-old
invariant_of-self-in_default-old g c =
    let s = c.self.inside in
    rw (c.put.ensures.is, c.remove.ensures.is) (request_given_up s.pool s.names s.drafts s.levels (beside_of s.gathering s.registers s.traps s.words) s.charge s.stored _ _ _ _ c.self.invariant (changed_again s.pool s.names s.drafts s.levels (beside_of s.gathering s.registers s.traps s.words) s.charge s.stored c.args.from c.args.to c.remove.result c.put.result c.args.self.now c.self.invariant c.self.view_is c.remove.ensures.was c.in-Some.sense c.in-Some.is (c.put.ensures.was ∙ ap (λ (t : SymbolTable _). find c.args.to t.entries) c.remove.ensures.is) c.in-Some-put.old c.in-Some-put.is) _ c.in_default-old.is).stands

pub returns-in_default-old-clause-is : goal.returns-in_default-old-clause-is
returns-in_default-old-clause-is g c =
    let s = c.self.inside in
    rw (c.put.ensures.is, c.remove.ensures.is) (request_given_up s.pool s.names s.drafts s.levels (beside_of s.gathering s.registers s.traps s.words) s.charge s.stored _ _ _ _ c.self.invariant (changed_again s.pool s.names s.drafts s.levels (beside_of s.gathering s.registers s.traps s.words) s.charge s.stored c.args.from c.args.to c.remove.result c.put.result c.args.self.now c.self.invariant c.self.view_is c.remove.ensures.was c.in-Some.sense c.in-Some.is (c.put.ensures.was ∙ ap (λ (t : SymbolTable _). find c.args.to t.entries) c.remove.ensures.is) c.in-Some-put.old c.in-Some-put.is) _ c.in_default-old.is).is

pub returns-in_default-old-clause-no_more : goal.returns-in_default-old-clause-no_more
returns-in_default-old-clause-no_more g c =
    let s = c.self.inside in
    rw (c.put.ensures.is, c.remove.ensures.is, ← c.self.view_is) (request_given_up s.pool s.names s.drafts s.levels (beside_of s.gathering s.registers s.traps s.words) s.charge s.stored _ _ _ _ c.self.invariant (changed_again s.pool s.names s.drafts s.levels (beside_of s.gathering s.registers s.traps s.words) s.charge s.stored c.args.from c.args.to c.remove.result c.put.result c.args.self.now c.self.invariant c.self.view_is c.remove.ensures.was c.in-Some.sense c.in-Some.is (c.put.ensures.was ∙ ap (λ (t : SymbolTable _). find c.args.to t.entries) c.remove.ensures.is) c.in-Some-put.old c.in-Some-put.is) _ c.in_default-old.is).no_more

pub lone_share-requires-clause-is_open : goal.lone_share-requires-clause-is_open
lone_share-requires-clause-is_open g c =
    let s = c.self.inside in
    (text_dropped s.pool s.names s.drafts s.levels (beside_of s.gathering s.registers s.traps s.words) s.charge s.stored _ _ _ _ c.self.invariant (changed_again s.pool s.names s.drafts s.levels (beside_of s.gathering s.registers s.traps s.words) s.charge s.stored c.args.from c.args.to c.remove.result c.put.result c.args.self.now c.self.invariant c.self.view_is c.remove.ensures.was c.in-Some.sense c.in-Some.is (c.put.ensures.was ∙ ap (λ (t : SymbolTable _). find c.args.to t.entries) c.remove.ensures.is) c.in-Some-put.old c.in-Some-put.is) c.in-Text.old c.in-Text.is).is_open

pub lone_share-requires-clause-small : goal.lone_share-requires-clause-small
lone_share-requires-clause-small g c =
    let s = c.self.inside in
    let short = (text_dropped s.pool s.names s.drafts s.levels (beside_of s.gathering s.registers s.traps s.words) s.charge s.stored _ _ _ _ c.self.invariant (changed_again s.pool s.names s.drafts s.levels (beside_of s.gathering s.registers s.traps s.words) s.charge s.stored c.args.from c.args.to c.remove.result c.put.result c.args.self.now c.self.invariant c.self.view_is c.remove.ensures.was c.in-Some.sense c.in-Some.is (c.put.ensures.was ∙ ap (λ (t : SymbolTable _). find c.args.to t.entries) c.remove.ensures.is) c.in-Some-put.old c.in-Some-put.is) c.in-Text.old c.in-Text.is).short in
    let below = c.self.invariant.within in
    let small = c.self.invariant.small in
    omega arith

pub overflow_add-self : goal.overflow_add-self
overflow_add-self g c =
    let s = c.self.inside in
    let weighs = (text_dropped s.pool s.names s.drafts s.levels (beside_of s.gathering s.registers s.traps s.words) s.charge s.stored _ _ _ _ c.self.invariant (changed_again s.pool s.names s.drafts s.levels (beside_of s.gathering s.registers s.traps s.words) s.charge s.stored c.args.from c.args.to c.remove.result c.put.result c.args.self.now c.self.invariant c.self.view_is c.remove.ensures.was c.in-Some.sense c.in-Some.is (c.put.ensures.was ∙ ap (λ (t : SymbolTable _). find c.args.to t.entries) c.remove.ensures.is) c.in-Some-put.old c.in-Some-put.is) c.in-Text.old c.in-Text.is).weighs in
    let below = c.self.invariant.within in
    let small = c.self.invariant.small in
    let own = c.lone_share.ensures in
    omega arith

pub overflow_sub-self : goal.overflow_sub-self
overflow_sub-self g c =
    let s = c.self.inside in
    let weighs = (text_dropped s.pool s.names s.drafts s.levels (beside_of s.gathering s.registers s.traps s.words) s.charge s.stored _ _ _ _ c.self.invariant (changed_again s.pool s.names s.drafts s.levels (beside_of s.gathering s.registers s.traps s.words) s.charge s.stored c.args.from c.args.to c.remove.result c.put.result c.args.self.now c.self.invariant c.self.view_is c.remove.ensures.was c.in-Some.sense c.in-Some.is (c.put.ensures.was ∙ ap (λ (t : SymbolTable _). find c.args.to t.entries) c.remove.ensures.is) c.in-Some-put.old c.in-Some-put.is) c.in-Text.old c.in-Text.is).weighs in
    let own = c.lone_share.ensures in
    omega arith

pub release-requires : goal.release-requires
release-requires g c =
    let s = c.self.inside in
    (text_dropped s.pool s.names s.drafts s.levels (beside_of s.gathering s.registers s.traps s.words) s.charge s.stored _ _ _ _ c.self.invariant (changed_again s.pool s.names s.drafts s.levels (beside_of s.gathering s.registers s.traps s.words) s.charge s.stored c.args.from c.args.to c.remove.result c.put.result c.args.self.now c.self.invariant c.self.view_is c.remove.ensures.was c.in-Some.sense c.in-Some.is (c.put.ensures.was ∙ ap (λ (t : SymbolTable _). find c.args.to t.entries) c.remove.ensures.is) c.in-Some-put.old c.in-Some-put.is) c.in-Text.old c.in-Text.is).is_open

pub invariant_of-self-2 : goal.invariant_of-self-2
invariant_of-self-2 g c =
    let s = c.self.inside in
    rw (c.put.ensures.is, c.remove.ensures.is, c.release.ensures.released, c.lone_share.ensures) (text_dropped s.pool s.names s.drafts s.levels (beside_of s.gathering s.registers s.traps s.words) s.charge s.stored _ _ _ _ c.self.invariant (changed_again s.pool s.names s.drafts s.levels (beside_of s.gathering s.registers s.traps s.words) s.charge s.stored c.args.from c.args.to c.remove.result c.put.result c.args.self.now c.self.invariant c.self.view_is c.remove.ensures.was c.in-Some.sense c.in-Some.is (c.put.ensures.was ∙ ap (λ (t : SymbolTable _). find c.args.to t.entries) c.remove.ensures.is) c.in-Some-put.old c.in-Some-put.is) c.in-Text.old c.in-Text.is).stands

pub returns-clause-is : goal.returns-clause-is
returns-clause-is g c =
    let s = c.self.inside in
    rw (c.put.ensures.is, c.remove.ensures.is, c.release.ensures.released) (text_dropped s.pool s.names s.drafts s.levels (beside_of s.gathering s.registers s.traps s.words) s.charge s.stored _ _ _ _ c.self.invariant (changed_again s.pool s.names s.drafts s.levels (beside_of s.gathering s.registers s.traps s.words) s.charge s.stored c.args.from c.args.to c.remove.result c.put.result c.args.self.now c.self.invariant c.self.view_is c.remove.ensures.was c.in-Some.sense c.in-Some.is (c.put.ensures.was ∙ ap (λ (t : SymbolTable _). find c.args.to t.entries) c.remove.ensures.is) c.in-Some-put.old c.in-Some-put.is) c.in-Text.old c.in-Text.is).is

pub returns-clause-no_more : goal.returns-clause-no_more
returns-clause-no_more g c =
    let s = c.self.inside in
    rw (c.put.ensures.is, c.remove.ensures.is, c.release.ensures.released, ← c.self.view_is) (text_dropped s.pool s.names s.drafts s.levels (beside_of s.gathering s.registers s.traps s.words) s.charge s.stored _ _ _ _ c.self.invariant (changed_again s.pool s.names s.drafts s.levels (beside_of s.gathering s.registers s.traps s.words) s.charge s.stored c.args.from c.args.to c.remove.result c.put.result c.args.self.now c.self.invariant c.self.view_is c.remove.ensures.was c.in-Some.sense c.in-Some.is (c.put.ensures.was ∙ ap (λ (t : SymbolTable _). find c.args.to t.entries) c.remove.ensures.is) c.in-Some-put.old c.in-Some-put.is) c.in-Text.old c.in-Text.is).no_more
