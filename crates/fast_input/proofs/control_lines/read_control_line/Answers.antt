use Rattle.std.proofs.Common.{◌≡◌, ◌+◌, sym, ◌∙◌, subst, arith}
use Rattle.std.proofs.lemmas.Bool.{false≢true}
use Rattle.nr_reading.specs.declared.event.Event.{Event}
use Rattle.nr_reading.specs.declared.event.Event.TheVariants as events
use Rattle.nr_input.specs.Moving.{situation}
use Rattle.fast_input.specs.Runs.{HasRead, PaysAll}
use Rattle.fast_input.proofs.ControlLines.{pays_then}
use Rattle.fast_input.proofs.Interpolated.{read_then}
use Rattle.fast_input.proofs.control_lines.read_control_line.Goals.{in-Nothing, in_default-matches-2}
use Rattle.fast_input.proofs.control_lines.read_control_line.Goals as goal

pub returns-clause-read : goal.returns-clause-read
returns-clause-read g c = λ k holds.
    let v = c.args.store.now in
    let r = c.args.reader.now in
    let run = c.in-Some.run' in
    let named = c.read_named_line.new in
    let line = c.read_macro_line-line in
    let silent : run.event ≡ events.Nothing = elim c.match-matches-2.branch [ in-Nothing b ↦ b.in-Nothing.is | in_default-matches-2 b ↦ absurd (false≢true (sym b.matches-is ∙ c.if-not-matches-2.false)) ] in
    let first = subst (λ (e : Event). HasRead run.moves (situation v k r) e named.store named.reader named.place (g.R.Source.supply named.source)) silent (c.in-Some.ensures.read k holds) in
    read_then line.result.moves run.moves (situation v k r) line.result.event named.store line.new.store named.reader line.new.reader named.place line.new.place _ _ first (λ d there. line.ensures.read d there)

pub returns-clause-pays : goal.returns-clause-pays
returns-clause-pays g c =
    let v = c.args.store.now in
    let r = c.args.reader.now in
    let p = c.args.place.now in
    let run = c.in-Some.run' in
    let named = c.read_named_line.new in
    let line = c.read_macro_line-line in
    let silent : run.event ≡ events.Nothing = elim c.match-matches-2.branch [ in-Nothing b ↦ b.in-Nothing.is | in_default-matches-2 b ↦ absurd (false≢true (sym b.matches-is ∙ c.if-not-matches-2.false)) ] in
    let first = subst (λ (e : Event). PaysAll run.moves v p r e named.store named.place named.reader) silent c.in-Some.ensures.pays in
    let count : line.result.moves + run.moves ≡ run.moves + line.result.moves = omega arith in
    subst (λ n. PaysAll n v p r line.result.event line.new.store line.new.place line.new.reader) count
    (pays_then line.result.moves run.moves v named.store line.new.store p named.place line.new.place r named.reader line.new.reader line.result.event first line.ensures.pays)
