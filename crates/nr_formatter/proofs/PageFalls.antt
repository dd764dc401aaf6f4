-- What may still come falls with each move of a page, and little rises.
use Rattle.std.proofs.lemmas.Bool.{lt-ltb}
use Rattle.std.proofs.Common.{◌≡◌, ℕ, ◌+◌, ◌<◌, ◌≤◌, Bool, false, Option, None, Some, refl, ap, arith}
use Rattle.nr_reading.specs.declared.event.Event.TheVariants as events
use Rattle.nr_reading.specs.declared.half.Half.{Half}
use Rattle.nr_formatter.specs.declared.formatter.Formatter.{Formatter}
use Rattle.nr_formatter.specs.declared.paper.Outlet.TheVariants as outlets
use Rattle.nr_formatter.specs.declared.paper.PageState.{PageState}
use Rattle.nr_formatter.specs.declared.paper.PageState.TheVariants as states
use Rattle.nr_formatter.specs.declared.tasks.Ejected.{Ejected}
use Rattle.nr_formatter.specs.declared.tasks.Ejected.TheVariants as ejecteds
use Rattle.nr_formatter.specs.declared.tasks.Step.{Step}
use Rattle.nr_formatter.specs.declared.tasks.Task.{Task}
use Rattle.nr_formatter.specs.declared.tasks.Task.TheVariants as tasks
use Rattle.nr_formatter.specs.Places.{is_open, page_outlet, to_read}
use Rattle.nr_formatter.specs.Pages.{line_placed, page_begun, page_ended, task_begun, task_ejected, task_ended}
use Rattle.nr_formatter.specs.Spacing.{spaced}
use Rattle.nr_formatter.specs.Weights.{Falls, steps_left, owed, owed_by_task, weight_of_agenda, weight_of_outlet, weight_of_task}
use Rattle.nr_formatter.proofs.Falling.{falls-kept, weight_of_agenda-le, weight_of_name-le, weight_of_outlet-le}
use Rattle.nr_formatter.proofs.TaskFalls.{falls-task}

-- ---- what is placed

pub falls-line_placed : (height : ℕ) (f : Formatter) → Falls 0 4 f (line_placed height f)
unfolding steps_left owed
falls-line_placed height f =
    let g = line_placed height f in
    falls-kept 0 4 f g (record { levels = refl; limit = refl; burst = refl; most = refl }) (omega arith)
    (omega (arith, weight_of_name-le g.springs, weight_of_outlet-le (page_outlet g.paper.state g.paper.place g.settings.pages.page_length)))

pub falls-spaced : (n : ℕ) (f : Formatter) → f.event ≡ events.Nothing → f.task ≡ tasks.Space n → Falls 1 0 f (spaced n f)
unfolding steps_left owed
falls-spaced n f none space =
    let g = spaced n f in
    let agenda : weight_of_agenda f.event f.task f.step ≡ 9 = rw (none, space) refl in
    let left : weight_of_agenda g.event g.task g.step ≡ 4 = rw none refl in
    falls-kept 1 0 f g (record { levels = refl; limit = refl; burst = refl; most = refl }) (omega arith)
    (omega (arith, weight_of_name-le g.springs, weight_of_outlet-le (page_outlet g.paper.state g.paper.place g.settings.pages.page_length)))

-- there is no space
pub falls-spaceless : (n : ℕ) (f : Formatter) → f.event ≡ events.Nothing → f.task ≡ tasks.Space n → Falls 1 0 f (to_read f)
falls-spaceless n f none is =
    let left : weight_of_agenda f.event tasks.Read f.step ≡ 4 = rw none refl in
    falls-task tasks.Read 9 f (rw (none, is) refl) (omega arith) refl

-- ---- beginning

task_begun-le : (t : Task) (s : Step) → weight_of_task (task_begun t) s ≤ weight_of_task t s
task_begun-le (tasks.Begin None) s = omega arith
task_begun-le (tasks.Begin (Some given)) s = omega arith
task_begun-le t s = omega arith

task_begun-falls : (given : Option Bool) (s : Step) → weight_of_task (task_begun (tasks.Begin given)) s + 2 ≤ weight_of_task (tasks.Begin given) s
task_begun-falls None s = omega arith
task_begun-falls (Some given) s = omega arith

owed_begun-le : (t : Task) (h : Half) → owed_by_task (task_begun t) h ≤ owed_by_task t h
owed_begun-le (tasks.Begin None) h = omega arith
owed_begun-le (tasks.Begin (Some given)) h = omega arith
owed_begun-le t h = omega arith

closed-weighs : (s : PageState) (place length : ℕ) → is_open s ≡ false → weight_of_outlet (page_outlet s place length) ≡ 2
closed-weighs states.Unbegun place length closed = refl
closed-weighs states.Closed place length closed = refl
closed-weighs states.Open place length closed = cc

begun-weighs : (length : ℕ) → 0 < length → weight_of_outlet (page_outlet states.Open 0 length) ≡ 0
begun-weighs length some = rw (lt-ltb 0 length some) refl

-- where none was open
pub falls-opened : (f : Formatter) → 0 < f.settings.pages.page_length → is_open f.paper.state ≡ false → Falls 1 0 f (page_begun f)
unfolding steps_left owed
falls-opened f some closed =
    let g = page_begun f in
    falls-kept 1 0 f g (record { levels = refl; limit = refl; burst = refl; most = refl }) (omega (arith, owed_begun-le f.task f.reader.half))
    (omega (
      arith,
      weight_of_name-le g.springs,
      begun-weighs f.settings.pages.page_length some,
      closed-weighs f.paper.state f.paper.place f.settings.pages.page_length closed,
      weight_of_agenda-le f.event f.task (task_begun f.task) f.step (task_begun-le f.task f.step),
    ))

-- where one was to begin
pub falls-begun : (given : Option Bool) (f : Formatter) → 0 < f.settings.pages.page_length → f.event ≡ events.Nothing → f.task ≡ tasks.Begin given → Falls 1 0 f (page_begun f)
unfolding steps_left owed
falls-begun given f some none begin =
    let g = page_begun f in
    let agenda : weight_of_agenda f.event f.task f.step ≡ weight_of_task (tasks.Begin given) f.step = rw (none, begin) refl in
    let left : weight_of_agenda g.event g.task g.step ≡ weight_of_task (task_begun (tasks.Begin given)) f.step = rw (none, begin) refl in
    falls-kept 1 0 f g (record { levels = refl; limit = refl; burst = refl; most = refl }) (omega (arith, owed_begun-le f.task f.reader.half))
    (omega (arith, weight_of_name-le g.springs, begun-weighs f.settings.pages.page_length some, task_begun-falls given f.step))

-- ---- ending

task_ended-le : (t : Task) (s : Step) → weight_of_task (task_ended t) s ≤ weight_of_task t s
task_ended-le (tasks.Eject ejecteds.Request) s = omega arith
task_ended-le (tasks.Eject ejecteds.Finish) s = omega arith
task_ended-le t s = omega arith

task_ejected-le : (e : Ejected) (s : Step) → weight_of_task (task_ejected e) s ≤ 4
task_ejected-le ejecteds.Request s = omega arith
task_ejected-le ejecteds.Finish s = omega arith

owed_ended-le : (t : Task) (h : Half) → owed_by_task (task_ended t) h ≤ owed_by_task t h
owed_ended-le (tasks.Eject ejecteds.Request) h = omega arith
owed_ended-le (tasks.Eject ejecteds.Finish) h = omega arith
owed_ended-le t h = omega arith

-- where it was full
pub falls-full_ended : (f : Formatter) → page_outlet f.paper.state f.paper.place f.settings.pages.page_length ≡ outlets.Full → Falls 1 0 f (page_ended f)
unfolding steps_left owed
falls-full_ended f full =
    let g = page_ended f in
    falls-kept 1 0 f g (record { levels = refl; limit = refl; burst = refl; most = refl }) (omega (arith, owed_ended-le f.task f.reader.half))
    (omega (arith, ap weight_of_outlet full, weight_of_agenda-le f.event f.task (task_ended f.task) f.step (task_ended-le f.task f.step)))

-- where it was being ejected
pub falls-ejected : (e : Ejected) (f : Formatter) → f.event ≡ events.Nothing → f.task ≡ tasks.Eject e → Falls 1 0 f (page_ended f)
unfolding steps_left owed
falls-ejected e f none eject =
    let g = page_ended f in
    let agenda : weight_of_agenda f.event f.task f.step ≡ 7 = rw (none, eject) refl in
    let left : weight_of_agenda g.event g.task g.step ≡ weight_of_task (task_ejected e) f.step = rw (none, eject) refl in
    falls-kept 1 0 f g (record { levels = refl; limit = refl; burst = refl; most = refl }) (omega (arith, owed_ended-le f.task f.reader.half))
    (omega (arith, task_ejected-le e f.step))
