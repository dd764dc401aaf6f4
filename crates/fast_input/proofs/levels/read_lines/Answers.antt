use Rattle.std.proofs.Common.{◌≡◌, ◌+◌, subst, sym, ◌∙◌, arith}
use Rattle.std.proofs.lemmas.Bool.{false≢true}
use Rattle.nr_reading.specs.declared.event.Event.{Event}
use Rattle.nr_reading.specs.declared.event.Event.TheVariants as events
use Rattle.nr_input.specs.Moving.{situation}
use Rattle.fast_input.specs.Runs.{HasRead, PaysMany}
use Rattle.fast_input.proofs.LevelParts.{read_on, many_then}
use Rattle.fast_input.proofs.levels.read_lines.Goals.{in-Nothing, in_default}
use Rattle.fast_input.proofs.levels.read_lines.Goals as goal

pub returns-then-part-eq0-clause-read : goal.returns-then-part-eq0-clause-read
returns-then-part-eq0-clause-read g c = λ k p supply holds.
    let part = c.read_part-part.result in
    read_on c.loop.moves part.moves c.args.store.now c.loop.store c.read_part-part.new.store c.args.reader.now c.loop.reader c.read_part-part.new.reader k p supply part.event
    (c.loop.invariant.read k p supply holds) (λ d there. c.read_part-part.ensures.read d p supply there)

pub returns-then-part-eq0-clause-pays : goal.returns-then-part-eq0-clause-pays
returns-then-part-eq0-clause-pays g c = λ p.
    let part = c.read_part-part.result in
    many_then part.moves c.loop.moves c.args.store.now c.loop.store c.read_part-part.new.store p p p c.args.reader.now c.loop.reader c.read_part-part.new.reader part.event
    (c.loop.invariant.pays p) (c.read_part-part.ensures.pays p)

pub returns-then-is_in_text-clause-read : goal.returns-then-is_in_text-clause-read
returns-then-is_in_text-clause-read g c = λ k p supply holds.
    let part = c.read_part-part.result in
    let v = c.args.store.now in
    let r = c.args.reader.now in
    let w = c.read_part-part.new.store in
    let s = c.read_part-part.new.reader in
    let silent : part.event ≡ events.Nothing = elim c.match-matches.branch [ in-Nothing b ↦ b.in-Nothing.is | in_default b ↦ absurd (false≢true (sym b.matches-is ∙ c.if-not-matches.false)) ] in
    subst (λ (e : Event). HasRead (c.loop.moves + part.moves) (situation v k r) e w s p supply) silent
    (read_on c.loop.moves part.moves v c.loop.store w r c.loop.reader s k p supply part.event
    (c.loop.invariant.read k p supply holds) (λ d there. c.read_part-part.ensures.read d p supply there))

pub returns-then-is_in_text-clause-pays : goal.returns-then-is_in_text-clause-pays
returns-then-is_in_text-clause-pays g c = λ p.
    let part = c.read_part-part.result in
    let v = c.args.store.now in
    let r = c.args.reader.now in
    let w = c.read_part-part.new.store in
    let s = c.read_part-part.new.reader in
    let silent : part.event ≡ events.Nothing = elim c.match-matches.branch [ in-Nothing b ↦ b.in-Nothing.is | in_default b ↦ absurd (false≢true (sym b.matches-is ∙ c.if-not-matches.false)) ] in
    subst (λ (e : Event). PaysMany (c.loop.moves + part.moves) v p r e w p s) silent
    (many_then part.moves c.loop.moves v c.loop.store w p p p r c.loop.reader s part.event (c.loop.invariant.pays p) (c.read_part-part.ensures.pays p))

pub loop-preserved : goal.loop-preserved
loop-preserved g c =
    let part = c.read_part-part.result in
    let v = c.args.store.now in
    let r = c.args.reader.now in
    let w = c.read_part-part.new.store in
    let s = c.read_part-part.new.reader in
    let silent : part.event ≡ events.Nothing = elim c.match-matches.branch [ in-Nothing b ↦ b.in-Nothing.is | in_default b ↦ absurd (false≢true (sym b.matches-is ∙ c.if-not-matches.false)) ] in
    record {
      read = λ k p supply holds.
          subst (λ (e : Event). HasRead (c.loop.moves + part.moves) (situation v k r) e w s p supply) silent
          (read_on c.loop.moves part.moves v c.loop.store w r c.loop.reader s k p supply part.event
          (c.loop.invariant.read k p supply holds) (λ d there. c.read_part-part.ensures.read d p supply there));
      pays = λ p.
          subst (λ (e : Event). PaysMany (c.loop.moves + part.moves) v p r e w p s) silent
          (many_then part.moves c.loop.moves v c.loop.store w p p p r c.loop.reader s part.event (c.loop.invariant.pays p) (c.read_part-part.ensures.pays p));
      limits = c.read_part-part.ensures.limits ∙ c.loop.invariant.limits;
      few = omega (arith, c.if-moves-gt-ENOUGH_MOVES.false);
      many = omega (arith, c.loop.invariant.many, c.if-part-eq0.false);
      first = λ none. absurd (omega (arith, none, c.if-part-eq0.false));
    }
