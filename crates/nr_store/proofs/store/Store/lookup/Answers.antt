use Rattle.std.proofs.Common.{Some, ap, sym, ◌∙◌}
use Rattle.nr_store.specs.Holders.{beside_of}
use Rattle.nr_store.proofs.Naming.{returned, named_returned}
use Rattle.nr_store.proofs.store.Store.lookup.Goals as goal

pub returns-in_default : goal.returns-in_default
returns-in_default g c =
    let s = c.self.inside in
    sym (ap returned c.in_default.is) ∙ named_returned s.pool s.names.entries s.drafts.items s.levels (beside_of s.gathering s.registers s.traps s.words) s.stored c.args.name c.get.result c.args.self.now c.self.view_is c.get.ensures

pub returns-in-Request : goal.returns-in-Request
returns-in-Request g c =
    let s = c.self.inside in
    sym (ap returned (c.in-Some.is ∙ ap Some c.in-Request.is)) ∙ named_returned s.pool s.names.entries s.drafts.items s.levels (beside_of s.gathering s.registers s.traps s.words) s.stored c.args.name c.get.result c.args.self.now c.self.view_is c.get.ensures

pub returns-in-Text : goal.returns-in-Text
returns-in-Text g c =
    let s = c.self.inside in
    sym (ap returned (c.in-Some.is ∙ ap Some c.in-Text.is)) ∙ named_returned s.pool s.names.entries s.drafts.items s.levels (beside_of s.gathering s.registers s.traps s.words) s.stored c.args.name c.get.result c.args.self.now c.self.view_is c.get.ensures
