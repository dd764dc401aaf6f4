use Rattle.std.proofs.Common.{ap, sym, ◌∙◌, arith}
use Rattle.nr_store.specs.Store.{afforded, written}
use Rattle.nr_store.specs.Holders.{beside_of}
use Rattle.nr_store.proofs.Building.{is_within, affordable}
use Rattle.nr_store.proofs.store.Store.write_register.Goals as goal

pub returns-in_default-clause-answer : goal.returns-in_default-clause-answer
returns-in_default-clause-answer g c =
    let s = c.self.inside in
    let within = is_within s.pool s.names s.drafts s.levels (beside_of s.gathering s.registers s.traps s.words) s.charge s.stored c.args.self.now c.self.invariant c.self.view_is in
    let charged = within.charged in
    let limits = within.same_limit in
    let fits = within.within in
    sym (ap (λ o. afforded (written o c.args.name c.args.self.now) tt) c.in_default.is ∙ affordable c.args.self.now tt (omega arith))
