-- A condition that was emitted is judged: one move.
use Rattle.std.proofs.Common.{◌≡◌, ℕ, false, List, [], None, Some, Option, refl, arith}
use Rattle.std.specs.Prelude.{is_some}
use Rattle.nr_units.specs.Source.{Supply}
use Rattle.nr_reading.specs.declared.event.Event.TheVariants as events
use Rattle.nr_reading.specs.declared.event.Question.{Question}
use Rattle.nr_formatter.specs.Conditions.{answered}
use Rattle.nr_formatter.proofs.HearingFalls.{falls-control}
use Rattle.nr_machine.specs.State.{State, plainly}
use Rattle.nr_machine.specs.Measures.{IsWithin}
use Rattle.nr_machine.specs.Holding.{Made, Shape, Stands, at}
use Rattle.fast_machine.specs.Running.{MakesInPlace}
use Rattle.fast_machine.proofs.Gliding.{glides-by}
use Rattle.fast_machine.proofs.LevelText.{made_glided}
use Rattle.nr_machine.proofs.NextMoves.{kind-hear, step-hear}

pub none_of : {A : Type 0} (o : Option A) → is_some o ≡ false → o ≡ None
none_of None is = refl
none_of (Some x) is = let wrong : ⊥ = cc in absurd wrong

-- with the question answered
abbrev pub judged_shape : Question → Shape → Shape
judged_shape q e = record e { formatter = answered q e.formatter }

module _ (q : Question) (e : Shape) (event : e.formatter.event ≡ events.Judge q) (springs : e.formatter.springs ≡ None) where
  within_judged : (s : State) → IsWithin (at e s) → IsWithin (plainly (answered q) (at e s))
  within_judged s w = record {
    formatter = record { stored = w.formatter.stored; depth = w.formatter.depth; line = w.formatter.line; burst = w.formatter.burst };
    page = w.page;
  }

  made_judged : (supply : Option Supply) (held : Option (List ℕ)) (s : State) → Stands [] supply s e → Made [] (at e s) 1 (judged_shape q e) supply held held
  made_judged supply held s h =
      let works = kind-hear (at e s) (events.Judge q) h.chosen_is springs event (λ is. let wrong : ⊥ = cc in wrong) in
      made_glided 1 e (answered q e.formatter) (answered q e.formatter) supply held s h refl (within_judged s h.within)
      (glides-by (answered q) (at e s) works (step-hear (at e s) (events.Judge q) h.chosen_is springs event) (within_judged s h.within))

  pub makes_judged : MakesInPlace 1 e (judged_shape q e)
  makes_judged =
      let falls = falls-control (events.Judge q) e.formatter event (λ is. let wrong : ⊥ = cc in wrong) in record {
        makes = λ supply. record {
          makes = λ held s h. made_judged supply held s h;
          limit = falls.limit;
          most = falls.most;
          limits = refl;
          spends = let less = falls.falls e.place in omega (arith, less);
        };
        place = refl;
      }
