-- A move that reads is that of the input's machine.
use Rattle.std.proofs.Common.{◌≡◌, ℕ, List, [], ◌∷◌, Option, None, Some, refl}
use Rattle.nr_reading.specs.declared.event.Event.{Event}
use Rattle.nr_reading.specs.declared.event.Event.TheVariants as events
use Rattle.nr_formatter.specs.declared.tasks.Task.{Task}
use Rattle.nr_formatter.specs.declared.tasks.Task.TheVariants as tasks
use Rattle.nr_machine.specs.State.{State, Choice}
use Rattle.nr_machine.specs.Machine.{read, work, hear, spring_or, choose_or, step}
use Rattle.nr_machine.specs.Run.{Reads, Works, Over, kind, kind_of_task, kind_of_event, kind_of_springs, kind_of}

work-reads : (t : Task) (s : State) → kind_of_task t ≡ Reads → work t s ≡ read s
work-reads tasks.Read s is = refl
work-reads tasks.Halted s is = absurd (let x : Over ≡ Reads = is in cc)
work-reads t s is = absurd (let x : Works ≡ Reads = is in cc)

hear-reads : (e : Event) (s : State) → kind_of_event e s.formatter.task ≡ Reads → hear e s ≡ read s
hear-reads events.Nothing s is = work-reads s.formatter.task s is
hear-reads e s is = absurd (let x : Works ≡ Reads = is in cc)

spring-reads : (n : Option (List ℕ)) (s : State) → kind_of_springs n s.formatter.event s.formatter.task ≡ Reads → spring_or n s ≡ read s
spring-reads None s is = hear-reads s.formatter.event s is
spring-reads (Some n) s is = absurd (let x : Works ≡ Reads = is in cc)

choose-reads : (cs : List Choice) (s : State) → kind_of cs s.formatter.springs s.formatter.event s.formatter.task ≡ Reads → choose_or cs s ≡ read s
choose-reads [] s is = spring-reads s.formatter.springs s is
choose-reads (c ∷ cs) s is = absurd (let x : Works ≡ Reads = is in cc)

pub reads-step : (s : State) → kind s ≡ Reads → step s ≡ read s
unfolding step
reads-step s is = choose-reads s.chosen s is
