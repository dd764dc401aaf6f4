use Rattle.std.proofs.Common.{◌≤◌, length, subst, sym, ap, ◌∙◌}
use Rattle.nr_store.specs.Store.{Stored}
use Rattle.nr_store.specs.Windows.{rest_of, run_left}
use Rattle.nr_store.specs.Laws.{left_times-run}
use Rattle.nr_store.specs.Holders.{beside_of}
use Rattle.nr_store.proofs.Running.{run_is, run_reaches, run_stands}
use Rattle.nr_store.proofs.store.Store.skip.Goals as goal

pub skip-requires : goal.skip-requires
skip-requires g c =
    let s = c.self.inside in
    run_reaches s.pool s.names s.drafts s.levels (beside_of s.gathering s.registers s.traps s.words) s.charge s.stored c.args.n c.self.invariant
    (subst (λ (v : Stored _). c.args.n ≤ length (rest_of v.levels)) (sym c.self.view_is) c.requires)

pub invariant_of-self : goal.invariant_of-self
invariant_of-self g c =
    let s = c.self.inside in
    rw c.skip.ensures (run_stands s.pool s.names s.drafts s.levels (beside_of s.gathering s.registers s.traps s.words) s.charge s.stored c.args.n c.self.invariant)

pub returns : goal.returns
returns g c =
    let s = c.self.inside in
    rw c.skip.ensures (run_is s.pool s.names s.drafts s.levels (beside_of s.gathering s.registers s.traps s.words) s.stored c.args.n ∙ ap (run_left c.args.n) c.self.view_is ∙ sym (left_times-run c.args.n c.args.self.now c.requires))
