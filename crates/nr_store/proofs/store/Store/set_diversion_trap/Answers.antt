use Rattle.std.proofs.lemmas.Grind.{common_steps}
use Rattle.std.proofs.Common.{sym, ◌∙◌, arith}
use Rattle.nr_store.specs.Holders.{beside_of}
use Rattle.nr_store.proofs.Diverting.{untrapped}
use Rattle.nr_store.proofs.store.Store.set_diversion_trap.Goals as goal

pub returns-in_default-diversion : goal.returns-in_default-diversion
returns-in_default-diversion g c =
    let s = c.self.inside in
    untrapped s.pool s.names.entries s.drafts.items s.levels (beside_of s.gathering s.registers s.traps s.words) s.stored c.in-Some.draft c.args.self.now c.self.view_is (sym c.top.ensures ∙ c.in-Some.is) c.args.trap c.in_default-diversion.is

pub set_top-requires : goal.set_top-requires
set_top-requires g c = grind (arith, common_steps)
