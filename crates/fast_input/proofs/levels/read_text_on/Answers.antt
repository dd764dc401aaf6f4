use Rattle.std.proofs.Common.{◌≡◌, subst, sym, ◌∙◌}
use Rattle.std.proofs.lemmas.Bool.{false≢true}
use Rattle.nr_reading.specs.declared.event.Event.{Event}
use Rattle.nr_reading.specs.declared.event.Event.TheVariants as events
use Rattle.nr_input.specs.Moving.{situation}
use Rattle.fast_input.specs.Runs.{HasRead, PaysMany}
use Rattle.fast_input.proofs.LevelParts.{read_on, many_then}
use Rattle.fast_input.proofs.levels.read_text_on.Goals.{in-Nothing, in_default}
use Rattle.fast_input.proofs.levels.read_text_on.Goals as goal

pub returns-clause-read : goal.returns-clause-read
returns-clause-read g c = λ k p supply holds.
    let text = c.read_text-text.result in
    let lines = c.read_lines-lines.result in
    let v = c.args.store.now in
    let r = c.args.reader.now in
    let w = c.read_text-text.new.store in
    let s = c.read_text-text.new.reader in
    let silent : text.event ≡ events.Nothing = elim c.match-matches.branch [ in-Nothing b ↦ b.in-Nothing.is | in_default b ↦ absurd (false≢true (sym b.matches-is ∙ c.if-not-matches.false)) ] in
    read_on text.moves lines.moves v w c.read_lines-lines.new.store r s c.read_lines-lines.new.reader k p supply lines.event
    (subst (λ (e : Event). HasRead text.moves (situation v k r) e w s p supply) silent (c.read_text-text.ensures.read k p supply holds)) (λ d there. c.read_lines-lines.ensures.read d p supply there)

pub returns-clause-pays : goal.returns-clause-pays
returns-clause-pays g c = λ p.
    let text = c.read_text-text.result in
    let lines = c.read_lines-lines.result in
    let v = c.args.store.now in
    let r = c.args.reader.now in
    let w = c.read_text-text.new.store in
    let s = c.read_text-text.new.reader in
    let silent : text.event ≡ events.Nothing = elim c.match-matches.branch [ in-Nothing b ↦ b.in-Nothing.is | in_default b ↦ absurd (false≢true (sym b.matches-is ∙ c.if-not-matches.false)) ] in
    many_then lines.moves text.moves v w c.read_lines-lines.new.store p p p r s c.read_lines-lines.new.reader lines.event
    (subst (λ (e : Event). PaysMany text.moves v p r e w p s) silent (c.read_text-text.ensures.pays p)) (c.read_lines-lines.ensures.pays p)
