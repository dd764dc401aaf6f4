use Rattle.std.proofs.Common.{◌≡◌, subst, sym, ◌∙◌}
use Rattle.std.proofs.lemmas.Bool.{false≢true}
use Rattle.nr_reading.specs.declared.event.Event.{Event}
use Rattle.nr_reading.specs.declared.event.Event.TheVariants as events
use Rattle.nr_input.specs.Moving.{situation}
use Rattle.fast_input.specs.Runs.{HasRead, PaysAll}
use Rattle.fast_input.proofs.LevelParts.{read_on, many_then, many_of_all}
use Rattle.fast_input.proofs.levels.read_text.Goals.{in-Nothing, in_default}
use Rattle.fast_input.proofs.levels.read_text.Goals as goal

pub returns-then-not-matches-clause-pays : goal.returns-then-not-matches-clause-pays
returns-then-not-matches-clause-pays g c = λ p.
    let run = c.read_level-run.result in
    many_of_all run.moves c.args.store.now c.read_level-run.new.store p p c.args.reader.now c.read_level-run.new.reader run.event (c.read_level-run.ensures.pays p)

pub returns-clause-read : goal.returns-clause-read
returns-clause-read g c = λ k p supply holds.
    let run = c.read_level-run.result in
    let done = c.do_pending-done.result in
    let v = c.args.store.now in
    let r = c.args.reader.now in
    let w = c.read_level-run.new.store in
    let s = c.read_level-run.new.reader in
    let silent : run.event ≡ events.Nothing = elim c.match-matches.branch [ in-Nothing b ↦ b.in-Nothing.is | in_default b ↦ absurd (false≢true (sym b.matches-is ∙ c.if-not-matches.false)) ] in
    read_on run.moves done.moves v w c.do_pending-done.new.store r s c.do_pending-done.new.reader k p supply done.event
    (subst (λ (e : Event). HasRead run.moves (situation v k r) e w s p supply) silent (c.read_level-run.ensures.read k p supply holds)) (λ d there. c.do_pending-done.ensures.read d p supply there)

pub returns-clause-pays : goal.returns-clause-pays
returns-clause-pays g c = λ p.
    let run = c.read_level-run.result in
    let done = c.do_pending-done.result in
    let v = c.args.store.now in
    let r = c.args.reader.now in
    let w = c.read_level-run.new.store in
    let s = c.read_level-run.new.reader in
    let silent : run.event ≡ events.Nothing = elim c.match-matches.branch [ in-Nothing b ↦ b.in-Nothing.is | in_default b ↦ absurd (false≢true (sym b.matches-is ∙ c.if-not-matches.false)) ] in
    many_then done.moves run.moves v w c.do_pending-done.new.store p p p r s c.do_pending-done.new.reader done.event
    (many_of_all run.moves v w p p r s events.Nothing (subst (λ (e : Event). PaysAll run.moves v p r e w p s) silent (c.read_level-run.ensures.pays p))) (c.do_pending-done.ensures.pays p)
