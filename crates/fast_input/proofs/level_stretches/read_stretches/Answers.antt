use Rattle.std.proofs.Common.{subst, sym, ap, ◌∙◌}
use Rattle.nr_store.specs.Store.{Stored}
use Rattle.nr_store.specs.Windows.{left_times}
use Rattle.nr_input.specs.Limits.{limits_of}
use Rattle.fast_input.specs.Runs.{PaysAll}
use Rattle.fast_input.proofs.LevelStretches.{begun-limits}
use Rattle.fast_input.proofs.LimitsStay.{left_times-limits}
use Rattle.fast_input.proofs.level_stretches.read_stretches.Goals as goal

pub returns-clause-pays : goal.returns-clause-pays
returns-clause-pays g c = λ p.
    let taken_in = c.in-Some.taken_in in
    subst (λ (w : Stored _). PaysAll taken_in.run.moves c.args.store.now p c.args.reader.now taken_in.run.event w p c.take_in_next.new.reader) (sym c.leave_stretch.ensures) (c.in-Some.ensures.pays p)

pub returns-clause-limits : goal.returns-clause-limits
returns-clause-limits g c =
    let taken_in = c.in-Some.taken_in in
    let v = c.args.store.now in
    let s = c.take_in_next.new.reader in
    ap (λ (w : Stored _). limits_of w s) c.leave_stretch.ensures ∙ begun-limits taken_in.calls (left_times taken_in.run.taken v) s ∙ left_times-limits taken_in.run.taken v s ∙ c.in-Some.ensures.limits
