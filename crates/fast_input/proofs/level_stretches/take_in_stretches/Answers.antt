use Rattle.std.specs.Prelude.{slice_get}
use Rattle.std.proofs.Common.{◌≡◌, ◌+◌, map, refl, subst, sym, ap, ◌∙◌, arith}
use Rattle.std.proofs.lemmas.Bool.{false≢true}
use Rattle.std.proofs.lemmas.List.{length-map}
use Rattle.nr_store.specs.Windows.{rest_of, left_times}
use Rattle.nr_reading.specs.declared.event.Event.{Event}
use Rattle.nr_reading.specs.declared.event.Event.TheVariants as events
use Rattle.nr_reading.specs.Many.Runs.{HasTakenIn, spot}
use Rattle.nr_input.specs.Place.{element_item}
use Rattle.fast_input.specs.LevelStretches.{begun_by}
use Rattle.nr_input.specs.Moving.{situation}
use Rattle.fast_input.specs.Runs.{HasRead, PaysAll, IsLongestInLevel}
use Rattle.fast_input.proofs.ControlLines.{pays_then}
use Rattle.fast_input.proofs.LevelParts.{read_on}
use Rattle.fast_input.proofs.Longest.{level_longest}
use Rattle.fast_input.proofs.StretchesRead.{level_read, level_pays, taken-le}
use Rattle.fast_input.proofs.level_stretches.take_in_stretches.Goals.{in-Nothing, in_default}
use Rattle.fast_input.proofs.level_stretches.take_in_stretches.Goals as goal

pub loop-init : goal.loop-init
loop-init g c =
    let v = c.args.store.now in
    let r = c.args.reader.now in
    let run = c.take_in_first.result in
    let q = spot run c.take_in_first.new.half in
    let taken_in : HasTakenIn run.moves (map element_item (rest_of v.levels)) r.half q = subst (λ fs. HasTakenIn run.moves fs r.half q) c.requires.stretch c.take_in_first.ensures.taken_in in
    let longest : IsLongestInLevel run.moves v r run.event (left_times run.taken v) (record r { half = q.half }) =
    level_longest run.moves v (left_times run.taken v) r (record r { half = q.half }) q taken_in
    (λ quiet pending_act few byte is. c.take_in_first.ensures.longest quiet pending_act few byte (ap (λ fs. slice_get fs run.taken) c.requires.stretch ∙ is)) refl refl in
    record {
      read = λ k p supply holds. level_read v k r p supply run.moves q taken_in holds;
      pays = λ p. level_pays run.moves v (left_times run.taken v) p r q taken_in refl;
      few = omega (arith, c.take_in_first.ensures.few);
      within = omega (arith, taken_in.within, length-map (rest_of v.levels) element_item);
      short = taken-le run.moves _ r.half q taken_in;
      limits = refl;
      some = longest.some;
      stops = λ none few. longest.all (omega (arith, none));
    }

pub loop-preserved : goal.loop-preserved
loop-preserved g c =
    let v = c.args.store.now in
    let r = c.args.reader.now in
    let run = c.loop.taken_in.run in
    let s = c.loop.reader in
    let w = left_times run.taken v in
    let more = c.take_in_named-more.result in
    let t = c.take_in_named-more.new.reader in
    let x = begun_by more.calls (left_times (run.taken + more.run.taken) v) in
    let count : more.run.moves + run.moves ≡ run.moves + more.run.moves = omega arith in
    let silent : run.event ≡ events.Nothing = elim c.match-matches.branch [ in-Nothing b ↦ b.in-Nothing.is | in_default b ↦ absurd (false≢true (sym b.matches-is ∙ c.if-not-matches.false)) ] in
    let some = c.take_in_named-more.ensures.some in
    record {
      read = λ k p supply holds.
          read_on run.moves more.run.moves v w x r s t k p supply more.run.event
          (subst (λ (e : Event). HasRead run.moves (situation v k r) e w s p supply) silent
          (subst (λ b. HasRead run.moves (situation v k r) run.event (begun_by b w) s p supply) c.if-taken_in.false (c.loop.invariant.read k p supply holds)))
          (λ d there. c.take_in_named-more.ensures.read d p supply there);
      pays = λ p.
          subst (λ n. PaysAll n v p r more.run.event x p t) count
          (pays_then more.run.moves run.moves v w x p p p r s t more.run.event
          (subst (λ (e : Event). PaysAll run.moves v p r e w p s) silent (subst (λ b. PaysAll run.moves v p r run.event (begun_by b w) p s) c.if-taken_in.false (c.loop.invariant.pays p)))
          (c.take_in_named-more.ensures.pays p));
      few = omega (arith, c.loop.invariant.few, c.take_in_named-more.ensures.few);
      within = c.take_in_named-more.ensures.within;
      short = omega (arith, c.loop.invariant.short, c.take_in_named-more.ensures.short);
      limits = c.take_in_named-more.ensures.limits ∙ c.loop.invariant.limits;
      some = λ b first pending_act. omega (arith, some);
      stops = λ none. absurd (omega (arith, none, some));
    }
