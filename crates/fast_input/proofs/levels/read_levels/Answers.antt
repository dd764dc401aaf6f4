use Rattle.std.proofs.Common.{subst, sym, ◌∙◌}
use Rattle.nr_store.specs.Store.{Stored}
use Rattle.nr_reading.proofs.InText.{in_text}
use Rattle.fast_input.specs.Runs.{PaysMany}
use Rattle.fast_input.proofs.levels.read_levels.Goals as goal

pub returns-then-end_level-clause-read : goal.returns-then-end_level-clause-read
returns-then-end_level-clause-read g c = λ k p supply holds.
    let text = in_text c.args.reader.now.half (sym c.is_in_text.ensures ∙ c.if-not-is_in_text.false) in
    c.end_level.ensures.read c.if-end_level.true k p c.args.reader.now supply text.pending_act holds

pub returns-then-end_level-clause-pays : goal.returns-then-end_level-clause-pays
returns-then-end_level-clause-pays g c = λ p.
    let text = in_text c.args.reader.now.half (sym c.is_in_text.ensures ∙ c.if-not-is_in_text.false) in
    c.end_level.ensures.pays c.if-end_level.true p c.args.reader.now text.pending_act

pub returns-then-end_level-clause-limits : goal.returns-then-end_level-clause-limits
returns-then-end_level-clause-limits g c = c.end_level.ensures.limits c.args.reader.now

pub returns-clause-pays : goal.returns-clause-pays
returns-clause-pays g c = λ p.
    let on = c.read_text_on.result in
    subst (λ (v : Stored _). PaysMany on.moves v p c.args.reader.now on.event c.read_text_on.new.store p c.read_text_on.new.reader) (c.end_level.ensures.left c.if-end_level.false) (c.read_text_on.ensures.pays p)
