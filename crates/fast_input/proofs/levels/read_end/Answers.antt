use Rattle.std.proofs.Common.{subst, sym, refl}
use Rattle.nr_store.specs.Store.{Stored}
use Rattle.nr_reading.specs.declared.event.Event.TheVariants as events
use Rattle.nr_input.specs.Moving.{situation}
use Rattle.fast_input.specs.Runs.{PaysMany}
use Rattle.fast_input.proofs.LevelParts.{none_paid}
use Rattle.fast_input.proofs.StretchMoves.{reads_nothing}
use Rattle.fast_input.proofs.levels.read_end.Goals as goal

pub returns-then-end_level-clause-read : goal.returns-then-end_level-clause-read
returns-then-end_level-clause-read g c = λ k p r supply pending_act holds. c.end_level.ensures.read c.if-end_level.true k p r supply pending_act holds

pub returns-then-end_level-clause-pays : goal.returns-then-end_level-clause-pays
returns-then-end_level-clause-pays g c = λ p r pending_act. c.end_level.ensures.pays c.if-end_level.true p r pending_act

pub returns-clause-read : goal.returns-clause-read
returns-clause-read g c = λ k p r supply pending_act holds.
    reads_nothing (situation c.args.store.now k r) c.end_level.new.store r p supply (record { stored = c.end_level.ensures.left c.if-end_level.false; reader = refl; coming = holds })

pub returns-clause-pays : goal.returns-clause-pays
returns-clause-pays g c = λ p r pending_act.
    subst (λ (w : Stored _). PaysMany 0 c.args.store.now p r events.Nothing w p r) (sym (c.end_level.ensures.left c.if-end_level.false)) (none_paid c.args.store.now p r)
