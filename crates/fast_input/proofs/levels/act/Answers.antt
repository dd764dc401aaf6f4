use Rattle.std.proofs.Common.{◌≡◌, subst, arith}
use Rattle.nr_store.specs.Store.{Stored}
use Rattle.nr_input.specs.declared.reader.Reader.{Reader}
use Rattle.fast_input.specs.Runs.{PaysMany}
use Rattle.fast_input.proofs.levels.act.Goals as goal

pub returns-clause-pays : goal.returns-clause-pays
returns-clause-pays g c = λ p.
    let none : c.interpolate_at_once-spliced.result.moves ≡ 0 = omega (arith, c.if-spliced-gt0.false) in
    let done = c.do_pending.result in
    let w = c.do_pending.new.store in
    let s = c.do_pending.new.reader in
    subst (λ (v : Stored _). PaysMany done.moves v p c.args.reader.now done.event w p s) (c.interpolate_at_once-spliced.ensures.store none)
    (subst (λ (r : Reader). PaysMany done.moves c.interpolate_at_once-spliced.new.store p r done.event w p s) (c.interpolate_at_once-spliced.ensures.reader none) (c.do_pending.ensures.pays p))
