-- Moves after which less may still come.
use Rattle.std.proofs.Common.{◌≡◌, ℕ, ◌+◌, refl, arith}
use Rattle.nr_vectors.specs.declared.cell.Cell.{Cell}
use Rattle.nr_reading.specs.declared.event.Event.TheVariants as events
use Rattle.nr_formatter.specs.declared.formatter.Formatter.{Formatter}
use Rattle.nr_formatter.specs.declared.tasks.Ejected.{Ejected}
use Rattle.nr_formatter.specs.declared.tasks.Ejected.TheVariants as ejecteds
use Rattle.nr_formatter.specs.declared.tasks.Task.TheVariants as tasks
use Rattle.nr_formatter.specs.Access.{done}
use Rattle.nr_formatter.specs.Pages.{task_ejected}
use Rattle.nr_formatter.specs.Places.{to_read}
use Rattle.nr_formatter.specs.Weights.{Falls, steps_left, owed, weight_of_agenda, weight_of_task}
use Rattle.nr_formatter.proofs.Falling.{falls-kept}
use Rattle.nr_formatter.proofs.TaskFalls.{falls-task}

-- a cell of a diverted line that is read again was acted on
pub falls-cell : (x : Cell) (f : Formatter) → f.event ≡ events.DivertedCell x → Falls 1 0 f (done f)
unfolding steps_left owed
falls-cell x f is =
    let agenda : weight_of_agenda f.event f.task f.step ≡ 19 + weight_of_task f.task f.step = rw is refl in
    falls-kept 1 0 f (done f) (record { levels = refl; limit = refl; burst = refl; most = refl }) (omega arith) (omega arith)

-- a diverted line goes out
pub falls-line : (height : ℕ) (f : Formatter) → f.event ≡ events.Nothing → f.task ≡ tasks.Line height → Falls 5 0 f (to_read f)
unfolding steps_left owed
falls-line height f none is =
    let agenda : weight_of_agenda f.event f.task f.step ≡ 9 = rw (none, is) refl in
    let left : weight_of_agenda f.event tasks.Read f.step ≡ 4 = rw none refl in
    falls-kept 5 0 f (to_read f) (record { levels = refl; limit = refl; burst = refl; most = refl }) (omega arith) (omega arith)

-- nothing is being ejected
pub falls-unejecting : (e : Ejected) (f : Formatter) → f.event ≡ events.Nothing → f.task ≡ tasks.Eject e → Falls 1 0 f (record f { task = task_ejected e })
falls-unejecting ejecteds.Request f none is =
    let left : weight_of_agenda f.event tasks.Read f.step ≡ 4 = rw none refl in
    falls-task tasks.Read 7 f (rw (none, is) refl) (omega arith) refl
falls-unejecting ejecteds.Finish f none is =
    let left : weight_of_agenda f.event tasks.Halted f.step ≡ 0 = rw none refl in
    falls-task tasks.Halted 7 f (rw (none, is) refl) (omega arith) refl
