use Rattle.std.specs.Prelude.{slice_get}
use Rattle.std.proofs.Common.{refl, subst, sym, ap, ap₂, ◌∙◌}
use Rattle.nr_store.specs.Store.{Stored}
use Rattle.nr_store.specs.Windows.{rest_of}
use Rattle.nr_reading.specs.declared.event.Event.TheVariants as events
use Rattle.nr_input.specs.declared.reader.Reader.{Reader}
use Rattle.nr_input.specs.Limits.{limits_of}
use Rattle.nr_input.specs.Moving.{situation}
use Rattle.fast_input.specs.Runs.{HasRead, PaysMany}
use Rattle.fast_input.proofs.LevelParts.{many_of_all}
use Rattle.fast_input.proofs.levels.read_stretch.Goals as goal

pub returns-in_default-clause-read : goal.returns-in_default-clause-read
returns-in_default-clause-read g c = λ k p supply holds.
    let s = c.read_stretches.new.reader in
    let x = c.read_end.new.store in
    let end = c.read_end.result in
    let pending_act = ap (λ (q : Reader). q.half.reading.pending_act) (c.in_default.ensures.reader refl) ∙ c.requires.pending_act in
    subst (λ (y : Stored _). HasRead end (situation y k c.args.reader.now) events.Nothing x s p supply) (c.in_default.ensures.store refl)
    (subst (λ (y : Reader). HasRead end (situation c.read_stretches.new.store k y) events.Nothing x s p supply) (c.in_default.ensures.reader refl) (c.read_end.ensures.read k p s supply pending_act holds))

pub returns-in_default-clause-pays : goal.returns-in_default-clause-pays
returns-in_default-clause-pays g c = λ p.
    let s = c.read_stretches.new.reader in
    let x = c.read_end.new.store in
    let end = c.read_end.result in
    let pending_act = ap (λ (q : Reader). q.half.reading.pending_act) (c.in_default.ensures.reader refl) ∙ c.requires.pending_act in
    subst (λ (y : Stored _). PaysMany end y p c.args.reader.now events.Nothing x p s) (c.in_default.ensures.store refl)
    (subst (λ (y : Reader). PaysMany end c.read_stretches.new.store p y events.Nothing x p s) (c.in_default.ensures.reader refl) (c.read_end.ensures.pays p s pending_act))

pub returns-in_default-clause-limits : goal.returns-in_default-clause-limits
returns-in_default-clause-limits g c =
    c.read_end.ensures.limits c.read_stretches.new.reader ∙ ap₂ (λ (w : Stored _) (s : Reader). limits_of w s) (c.in_default.ensures.store refl) (c.in_default.ensures.reader refl)

pub returns-in_default-clause-some : goal.returns-in_default-clause-some
returns-in_default-clause-some g c = λ b first pending_act. absurd (c.in_default.ensures.none refl b first)

pub returns-in_default-clause-stops : goal.returns-in_default-clause-stops
returns-in_default-clause-stops g c = λ none less quiet pending_act b first.
    absurd (c.in_default.ensures.none refl b (ap (λ (y : Stored _). slice_get (rest_of y.levels) 0) (sym (c.read_end.ensures.left none ∙ c.in_default.ensures.store refl)) ∙ first))

pub returns-clause-pays : goal.returns-clause-pays
returns-clause-pays g c = λ p.
    let prefix = c.in-Some.prefix in
    many_of_all prefix.moves c.args.store.now c.read_stretches.new.store p p c.args.reader.now c.read_stretches.new.reader prefix.event (c.in-Some.ensures.pays p)
