-- What was read is acted on by the formatter alone, where it is no cell of a diverted line.
use Rattle.std.proofs.Common.{◌≡◌, ◌≢◌, Result, refl, sym, subst}
use Rattle.nr_vectors.specs.declared.cell.Cell.{Cell}
use Rattle.nr_reading.specs.declared.event.Event.{Event}
use Rattle.nr_reading.specs.declared.event.Event.TheVariants as events
use Rattle.nr_formatter.specs.Moves.{heard}
use Rattle.nr_machine.specs.State.{State, plainly}
use Rattle.nr_machine.specs.Machine.{hear}
use Rattle.nr_machine.specs.Holding.{Shape, at, AfterQuietWork, WorksQuietly}
use Rattle.nr_machine.specs.declared.outcome.Measure.{Measure}

hear-plain : (e : Event) (s : State) → e ≢ events.Nothing → ((x : Cell) → e ≡ events.DivertedCell x → ⊥) → hear e s ≡ plainly (heard e) s
hear-plain events.Nothing s busy other = absurd (busy refl)
hear-plain (events.DivertedCell x) s busy other = absurd (other x refl)
hear-plain e s busy other = refl

pub works_hearing : (e : Event) (a b : Shape) (r : Result (Unit {0}) Measure) → e ≢ events.Nothing → ((x : Cell) → e ≡ events.DivertedCell x → ⊥)
    → WorksQuietly (plainly (heard e)) a b r → WorksQuietly (hear e) a b r
works_hearing e a b r busy other w = record {
  comes = λ supply s h. subst (λ t. AfterQuietWork supply (at a s) t b r) (sym (hear-plain e (at a s) busy other)) (w.comes supply s h);
  lightens = w.lightens;
}
