use Rattle.std.proofs.Common.{sym, ◌∙◌}
use Rattle.nr_store.specs.Holders.{beside_of}
use Rattle.nr_store.proofs.Diverting.{newest_is, not_ended, ended_is}
use Rattle.nr_store.proofs.store.Store.end_diversion.Goals as goal

pub returns-in_default-diversion-clause-was : goal.returns-in_default-diversion-clause-was
returns-in_default-diversion-clause-was g c =
    let s = c.self.inside in
    sym (newest_is s.pool s.names.entries s.drafts.items s.levels (beside_of s.gathering s.registers s.traps s.words) s.stored c.in-Some.draft c.args.self.now c.self.view_is (sym c.top.ensures ∙ c.in-Some.is) ∙ c.in_default-diversion.is)

pub returns-in_default-diversion-clause-is : goal.returns-in_default-diversion-clause-is
returns-in_default-diversion-clause-is g c =
    let s = c.self.inside in
    not_ended s.pool s.names.entries s.drafts.items s.levels (beside_of s.gathering s.registers s.traps s.words) s.stored c.in-Some.draft c.args.self.now c.self.view_is (sym c.top.ensures ∙ c.in-Some.is) c.in_default-diversion.is

pub returns-clause-was : goal.returns-clause-was
returns-clause-was g c =
    let s = c.self.inside in
    sym (newest_is s.pool s.names.entries s.drafts.items s.levels (beside_of s.gathering s.registers s.traps s.words) s.stored c.in-Some.draft c.args.self.now c.self.view_is (sym c.top.ensures ∙ c.in-Some.is) ∙ c.in-Some-diversion.is)

pub returns-clause-is : goal.returns-clause-is
returns-clause-is g c =
    let s = c.self.inside in
    c.define.ensures.is ∙ sym (ended_is s.pool s.names.entries s.drafts.items s.levels (beside_of s.gathering s.registers s.traps s.words) s.stored c.in-Some.draft c.args.self.now c.self.view_is (sym c.top.ensures ∙ c.in-Some.is) c.in-Some-diversion.diversion c.in-Some-diversion.is)
