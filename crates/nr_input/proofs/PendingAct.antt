-- What is pending as a move of the machine, and where a refused move leaves it.
use Rattle.std.proofs.Common.{◌≡◌, false, Option, Ok, Err, refl, ap, sym, subst, ◌∙◌}
use Rattle.std.proofs.lemmas.Bool.{cond-false}
use Rattle.nr_units.specs.Source.{Supply}
use Rattle.nr_store.specs.Store.{Stored}
use Rattle.nr_reading.specs.declared.event.Event.{Event}
use Rattle.nr_input.specs.declared.reader.Reader.{Reader}
use Rattle.nr_input.specs.declared.refusal.Refusal.{Refusal}
use Rattle.nr_input.specs.declared.emitted.Emitted.TheVariants as tells
use Rattle.nr_input.specs.Acting.{Acted, act, is_look}
use Rattle.nr_input.specs.Place.{Coming, Reached, HoldsComing}
use Rattle.nr_input.specs.Moving.{Situation, Move, situation, look, acted_at, move, Stands, GoesBy, RefusesBy, AfterMove}
use Rattle.nr_input.specs.Refusal.{answer, called, acted}
use Rattle.nr_input.proofs.Refusals.{acted-ok, called-err}

module _ {K : Type 0} (v w : Stored K) (r s : Reader) (c : Coming) (p : Reached) (supply : Option Supply) (pending_act : is_look r.half.reading.pending_act ≡ false) (holds : HoldsComing c p supply) where
  abbrev at : Situation K
  at = situation v c r

  -- what is pending is done
  pub acted_moves : (e : Event) → called w s (Ok e) ≡ acted r.half.reading.pending_act v r → AfterMove at (Ok (tells.Event e)) w s p supply
  acted_moves e is =
      let d = r.half.reading.pending_act in
      let done = acted-ok (answer d v r) (act d v r) v w r s e is in
      let there : move at ≡ record { situation = situation w c s; emitted = tells.Event e } =
      cond-false (is_look d) (look at) (acted_at at) pending_act ∙ ap (λ (a : Acted K). record { situation = situation a.stored c a.reader; emitted = tells.Event a.event }) (sym done.1) in
      let stands : Stands (situation w c s) w s p supply = record { stored = refl; reader = refl; coming = holds } in (
        ap (λ (m : Move K). m.emitted) (sym there),
        subst (λ (m : Move K). Stands m.situation w s p supply) (sym there) stands,
        subst (λ l. GoesBy l at) (sym pending_act) done.0,
      )

  -- or is refused
  pub acted_refuses : (e : Refusal) → called w s (Err e) ≡ acted r.half.reading.pending_act v r → AfterMove at (Err e) w s p supply
  acted_refuses e is =
      let d = r.half.reading.pending_act in
      let a = act d v r in
      let stays = called-err (answer d v r) a.stored a.reader a.event v w r s e is in
      (subst (λ l. RefusesBy l at e) (sym pending_act) stays.refused, record { stored = stays.stored; reader = stays.reader; coming = holds })
