use Rattle.std.proofs.Common.{inl, inr, ap, ◌∙◌}
use Rattle.std.proofs.lemmas.Bool.{cases_Bool}
use Rattle.nr_store.specs.Store.{Stored}
use Rattle.nr_input.specs.Limits.{limits_of}
use Rattle.fast_input.proofs.LevelParts.{end_read, end_paid}
use Rattle.nr_input.proofs.LimitsStay.{left-limits}
use Rattle.fast_input.proofs.levels.end_level.Goals as goal

pub returns-clause-read : goal.returns-clause-read
returns-clause-read g c = λ yes k p r supply pending_act holds. end_read c.args.store.now c.take_end.new.self r pending_act (c.take_end.ensures.came yes) (c.take_end.ensures.is yes) k p supply holds

pub returns-clause-pays : goal.returns-clause-pays
returns-clause-pays g c = λ yes p r pending_act. end_paid c.args.store.now c.take_end.new.self r pending_act (c.take_end.ensures.came yes) (c.take_end.ensures.is yes) p

pub returns-clause-limits : goal.returns-clause-limits
returns-clause-limits g c = λ r. elim (cases_Bool c.take_end.result) [
  | inl came ↦ ap (λ (w : Stored _). limits_of w r) (c.take_end.ensures.is came) ∙ left-limits c.args.store.now.levels c.args.store.now r
  | inr other ↦ ap (λ (w : Stored _). limits_of w r) (c.take_end.ensures.stays other)
]
