-- A run that is over stays where it is.
use Rattle.std.proofs.Common.{◌≡◌, ℕ, List, [], ◌∷◌, Option, None, Some, refl}
use Rattle.nr_reading.specs.declared.event.Event.{Event}
use Rattle.nr_reading.specs.declared.event.Event.TheVariants as events
use Rattle.nr_formatter.specs.declared.tasks.Task.{Task}
use Rattle.nr_formatter.specs.declared.tasks.Task.TheVariants as tasks
use Rattle.nr_machine.specs.State.{State, Choice}
use Rattle.nr_machine.specs.Machine.{work, hear, spring_or, choose_or, step}
use Rattle.nr_machine.specs.Run.{Reads, Works, Over, kind, kind_of_task, kind_of_event, kind_of_springs, kind_of}

work-over : (t : Task) (s : State) → kind_of_task t ≡ Over → work t s ≡ s
work-over tasks.Halted s is = refl
work-over tasks.Read s is = absurd (let x : Reads ≡ Over = is in cc)
work-over t s is = absurd (let x : Works ≡ Over = is in cc)

hear-over : (e : Event) (s : State) → kind_of_event e s.formatter.task ≡ Over → hear e s ≡ s
hear-over events.Nothing s is = work-over s.formatter.task s is
hear-over e s is = absurd (let x : Works ≡ Over = is in cc)

spring-over : (n : Option (List ℕ)) (s : State) → kind_of_springs n s.formatter.event s.formatter.task ≡ Over → spring_or n s ≡ s
spring-over None s is = hear-over s.formatter.event s is
spring-over (Some n) s is = absurd (let x : Works ≡ Over = is in cc)

choose-over : (cs : List Choice) (s : State) → kind_of cs s.formatter.springs s.formatter.event s.formatter.task ≡ Over → choose_or cs s ≡ s
choose-over [] s is = spring-over s.formatter.springs s is
choose-over (c ∷ cs) s is = absurd (let x : Works ≡ Over = is in cc)

pub over-step : (s : State) → kind s ≡ Over → step s ≡ s
unfolding step
over-step s is = choose-over s.chosen s is
