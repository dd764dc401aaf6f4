-- The kind of the next move, and where it leads.
use Rattle.std.proofs.Common.{◌≡◌, ◌≢◌, ℕ, List, [], None, Some, refl}
use Rattle.nr_reading.specs.declared.event.Event.{Event}
use Rattle.nr_reading.specs.declared.event.Event.TheVariants as events
use Rattle.nr_formatter.specs.declared.tasks.Task.{Task}
use Rattle.nr_formatter.specs.declared.tasks.Task.TheVariants as tasks
use Rattle.nr_formatter.specs.Springing.{sprung}
use Rattle.nr_machine.specs.State.{State, plainly}
use Rattle.nr_machine.specs.Machine.{step, read, work, hear}
use Rattle.nr_machine.specs.Run.{Reads, Works, kind, kind_of_event, kind_of_task}

-- what the next move does, by what there is to do

pub step-read : (s : State) → s.chosen ≡ [] → s.formatter.springs ≡ None → s.formatter.event ≡ events.Nothing → s.formatter.task ≡ tasks.Read → step s ≡ read s
unfolding step
step-read s chosen springs idle task = rw (chosen, springs, idle, task) refl

pub kind-read : (s : State) → s.chosen ≡ [] → s.formatter.springs ≡ None → s.formatter.event ≡ events.Nothing → s.formatter.task ≡ tasks.Read → kind s ≡ Reads
kind-read s chosen springs idle task = rw (chosen, springs, idle, task) refl

pub step-work : (s : State) (t : Task) → s.chosen ≡ [] → s.formatter.springs ≡ None → s.formatter.event ≡ events.Nothing → s.formatter.task ≡ t → step s ≡ work t s
unfolding step
step-work s t chosen springs idle task = rw (chosen, springs, idle, task) refl

pub kind-work : (s : State) (t : Task) → s.chosen ≡ [] → s.formatter.springs ≡ None → s.formatter.event ≡ events.Nothing → s.formatter.task ≡ t → kind s ≡ kind_of_task t
kind-work s t chosen springs idle task = rw (chosen, springs, idle, task) refl

pub step-hear : (s : State) (e : Event) → s.chosen ≡ [] → s.formatter.springs ≡ None → s.formatter.event ≡ e → step s ≡ hear e s
unfolding step
step-hear s e chosen springs event = rw (chosen, springs, event) refl

pub kind_working : (t : Task) → t ≢ tasks.Read → t ≢ tasks.Halted → kind_of_task t ≡ Works
kind_working tasks.Read reading over = absurd (reading refl)
kind_working tasks.Halted reading over = absurd (over refl)
kind_working t reading over = refl

kind_busy : (e : Event) (t : Task) → e ≢ events.Nothing → kind_of_event e t ≡ Works
kind_busy events.Nothing t busy = absurd (busy refl)
kind_busy e t busy = refl

pub kind-hear : (s : State) (e : Event) → s.chosen ≡ [] → s.formatter.springs ≡ None → s.formatter.event ≡ e → e ≢ events.Nothing → kind s ≡ Works
kind-hear s e chosen springs event busy = rw (chosen, springs, event) (kind_busy e s.formatter.task busy)

pub step-spring : (s : State) (name : List ℕ) → s.chosen ≡ [] → s.formatter.springs ≡ Some name → step s ≡ plainly (sprung name) s
unfolding step
step-spring s name chosen springs = rw (chosen, springs) refl

pub kind-spring : (s : State) (name : List ℕ) → s.chosen ≡ [] → s.formatter.springs ≡ Some name → kind s ≡ Works
kind-spring s name chosen springs = rw (chosen, springs) refl
