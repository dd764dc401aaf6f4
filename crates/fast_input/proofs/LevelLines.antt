-- Moves of the machine that reads after moves that emitted nothing.
use Rattle.std.proofs.Common.{◌≡◌, ℕ, ◌+◌, Option, inl, inr, refl, ap₂, subst, arith}
use Rattle.std.proofs.lemmas.Bool.{cases_lt}
use Rattle.nr_units.specs.Source.{Supply}
use Rattle.nr_store.specs.Store.{Stored}
use Rattle.nr_reading.specs.declared.event.Event.{Event}
use Rattle.nr_reading.specs.declared.event.Event.TheVariants as events
use Rattle.nr_input.specs.declared.reader.Reader.{Reader}
use Rattle.nr_input.specs.declared.emitted.Emitted.TheVariants as tells
use Rattle.nr_input.specs.Place.{Coming, Reached, HoldsComing}
use Rattle.nr_input.specs.Moving.{Situation, situation}
use Rattle.fast_input.specs.Runs.{HasRead, moves, emitted_last}
use Rattle.fast_input.proofs.ControlLines.{then_read}
use Rattle.fast_input.proofs.Putting.{Quietly}

-- as moves that lead somewhere
quietly_read : {K : Type 0} (n : ℕ) (s : Situation K) (v : Stored K) (r : Reader) (p : Reached) (supply : Option Supply) → HasRead n s events.Nothing v r p supply → Quietly n s (moves n s)
quietly_read n s v r p supply read = record {
  goes = read.goes;
  silent = λ k within. elim (cases_lt k n) [
    | inl below ↦ read.quiet k below
    | inr last ↦
        let same : n ≡ k = omega (arith, within, last) in
        subst (λ j. emitted_last j s ≡ tells.Event events.Nothing) same read.tells
  ];
  leads = refl;
}

pub then_reads : {K : Type 0} (m n : ℕ) (s : Situation K) (e : Event) (v w : Stored K) (r t : Reader) (p q : Reached) (supply supply' : Option Supply) → HasRead n s events.Nothing v r p supply
    → ((c : Coming) → HoldsComing c p supply → HasRead m (situation v c r) e w t q supply') → HasRead (m + n) s e w t q supply'
then_reads {K} m n s e v w r t p q supply supply' first more =
    let c = (moves n s).coming in
    let there : situation v c r ≡ moves n s = ap₂ (λ (x : Stored K) (y : Reader). situation x c y) first.stands.stored first.stands.reader in
    then_read m n s (moves n s) e w t q supply' (quietly_read n s v r p supply first) (subst (λ (x : Situation K). HasRead m x e w t q supply') there (more c first.stands.coming))
