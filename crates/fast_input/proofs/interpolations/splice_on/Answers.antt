use Rattle.std.proofs.Common.{◌≡◌, subst, sym, ◌∙◌}
use Rattle.std.proofs.lemmas.Bool.{false≢true}
use Rattle.nr_reading.specs.declared.event.Event.{Event}
use Rattle.nr_reading.specs.declared.event.Event.TheVariants as events
use Rattle.nr_input.specs.Moving.{situation}
use Rattle.fast_input.specs.Runs.{HasRead, PaysMany}
use Rattle.fast_input.proofs.LevelParts.{read_on, many_then}
use Rattle.fast_input.proofs.interpolations.splice_on.Goals.{in-Nothing, in_default}
use Rattle.fast_input.proofs.interpolations.splice_on.Goals as goal

pub returns-clause-read : goal.returns-clause-read
returns-clause-read g c = λ k p supply holds.
    let spliced = c.splice_read-spliced.result in
    let stretch = c.read_added-stretch.result in
    let v = c.args.store.now in
    let r = c.args.reader.now in
    let w = c.splice_read-spliced.new.store in
    let s = c.splice_read-spliced.new.reader in
    let silent : spliced.event ≡ events.Nothing = elim c.match-matches.branch [ in-Nothing b ↦ b.in-Nothing.is | in_default b ↦ absurd (false≢true (sym b.matches-is ∙ c.if-not-matches.false)) ] in
    read_on spliced.moves stretch.moves v w c.read_added-stretch.new.store r s c.read_added-stretch.new.reader k p supply stretch.event
    (subst (λ (e : Event). HasRead spliced.moves (situation v k r) e w s p supply) silent (c.splice_read-spliced.ensures.read k p supply holds))
    (λ d there. c.read_added-stretch.ensures.read d p supply there)

pub returns-clause-pays : goal.returns-clause-pays
returns-clause-pays g c = λ p.
    let spliced = c.splice_read-spliced.result in
    let stretch = c.read_added-stretch.result in
    let v = c.args.store.now in
    let r = c.args.reader.now in
    let w = c.splice_read-spliced.new.store in
    let s = c.splice_read-spliced.new.reader in
    let silent : spliced.event ≡ events.Nothing = elim c.match-matches.branch [ in-Nothing b ↦ b.in-Nothing.is | in_default b ↦ absurd (false≢true (sym b.matches-is ∙ c.if-not-matches.false)) ] in
    many_then stretch.moves spliced.moves v w c.read_added-stretch.new.store p p p r s c.read_added-stretch.new.reader stretch.event
    (subst (λ (e : Event). PaysMany spliced.moves v p r e w p s) silent (c.splice_read-spliced.ensures.pays p)) (c.read_added-stretch.ensures.pays p)
