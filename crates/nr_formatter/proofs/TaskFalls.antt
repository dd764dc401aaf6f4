-- What may still come falls with what is under way, where it needs neither source, page nor output.
use Rattle.std.specs.Prelude.{◌&&◌, ◌||◌, not}
use Rattle.std.proofs.Common.{◌≡◌, ◌≢◌, ℕ, ◌+◌, ◌≤◌, Bool, true, if◌then◌else◌, Option, Some, None, refl, ap, arith}
use Rattle.nr_store.specs.declared.element.Diversion.{Diversion}
use Rattle.nr_store.specs.declared.request.Request.{Request}
use Rattle.nr_store.specs.Store.{newest_diversion, diversion_ended}
use Rattle.nr_reading.specs.declared.event.Event.TheVariants as events
use Rattle.nr_formatter.specs.declared.formatter.Formatter.{Formatter}
use Rattle.nr_formatter.specs.declared.tasks.Ejected.TheVariants as ejecteds
use Rattle.nr_formatter.specs.declared.tasks.Step.{Step}
use Rattle.nr_formatter.specs.declared.tasks.Step.TheVariants as steps
use Rattle.nr_formatter.specs.declared.tasks.Task.{Task}
use Rattle.nr_formatter.specs.declared.tasks.Task.TheVariants as tasks
use Rattle.nr_formatter.specs.declared.tasks.Then.TheVariants as thens
use Rattle.nr_formatter.specs.Diversions.{measured}
use Rattle.nr_formatter.specs.Ending.{eject_last, finish_at}
use Rattle.nr_formatter.specs.Lines.{count, count_input}
use Rattle.nr_formatter.specs.Moves.{gone_on, works}
use Rattle.nr_formatter.specs.Pages.{turned}
use Rattle.nr_formatter.specs.Places.{is_open, is_diverting}
use Rattle.nr_formatter.specs.Weights.{Falls, steps_left, owed, owed_by_task, weight_of_agenda, weight_of_step}
use Rattle.nr_formatter.proofs.Falling.{falls-kept, weight_of_name-le}
use Rattle.nr_formatter.proofs.RequestFalls.{falls-if}
use Rattle.nr_formatter.proofs.Views.{diversion_ended-keeps, ended-weighs}

-- ---- counting text lines

falls-count : (f : Formatter) → f.event ≡ events.Nothing → f.task ≡ tasks.Count → Falls 1 0 f (count f)
unfolding steps_left owed
falls-count f none is =
    let g = count f in
    let agenda : weight_of_agenda f.event f.task f.step ≡ 7 = rw (none, is) refl in
    let left : weight_of_agenda g.event g.task g.step ≡ 6 = rw none refl in
    falls-kept 1 0 f g (record { levels = refl; limit = refl; burst = refl; most = refl }) (omega arith) (omega arith)

falls-count_input : (f : Formatter) → f.event ≡ events.Nothing → f.task ≡ tasks.InputTrap → Falls 1 0 f (count_input f)
unfolding steps_left owed
falls-count_input f none is =
    let g = count_input f in
    let agenda : weight_of_agenda f.event f.task f.step ≡ 6 = rw (none, is) refl in
    let left : weight_of_agenda g.event g.task g.step ≡ 4 = rw none refl in
    falls-kept 1 0 f g (record { levels = refl; limit = refl; burst = refl; most = refl }) (omega arith) (omega (arith, weight_of_name-le g.springs))

-- ---- turning a page

-- what goes on with another task that weighs less, and owes nothing
pub falls-task : (t : Task) (weighs : ℕ) (f : Formatter) → weight_of_agenda f.event f.task f.step ≡ weighs → weight_of_agenda f.event t f.step + 1 ≤ weighs
    → owed_by_task t f.reader.half ≡ 0 → Falls 1 0 f (record f { task = t })
unfolding steps_left owed
falls-task t weighs f agenda less owes =
    falls-kept 1 0 f (record f { task = t }) (record { levels = refl; limit = refl; burst = refl; most = refl }) (omega arith) (omega arith)

falls-turned : (b : Bool) (f : Formatter) → f.event ≡ events.Nothing → f.task ≡ tasks.Turn b → Falls 1 0 f (turned b f)
unfolding steps_left owed
falls-turned b f none is =
    let agenda : weight_of_agenda f.event f.task f.step ≡ 9 = rw (none, is) refl in
    let eject : weight_of_agenda f.event (tasks.Eject ejecteds.Request) f.step ≡ 7 = rw none refl in
    let read : weight_of_agenda f.event tasks.Read f.step ≡ 4 = rw none refl in
    falls-if (is_open f.paper.state && (b || not f.settings.pages.no_space)) f _ _
    (falls-kept 1 0 f (record f { paper = record f.paper { ejecting = true }; task = tasks.Eject ejecteds.Request }) (record { levels = refl; limit = refl; burst = refl; most = refl }) (omega arith) (omega arith))
    (falls-task tasks.Read 9 f agenda (omega arith) refl)

-- ---- the end

falls-eject_last : (f : Formatter) → f.event ≡ events.Nothing → f.task ≡ tasks.Finish → f.step ≡ steps.Diversions → Falls 1 0 f (eject_last f)
unfolding steps_left owed
falls-eject_last f none is at =
    let g = eject_last f in
    let agenda : weight_of_agenda f.event f.task f.step ≡ 2 = rw (none, is) refl in
    let left : weight_of_agenda g.event g.task g.step ≡ 7 = rw none refl in
    let step = ap weight_of_step at in
    falls-kept 1 0 f g (record { levels = refl; limit = refl; burst = refl; most = refl }) (omega arith) (omega arith)

-- a diversion that is open weighs 1
falls-ended : (d : Diversion) (f : Formatter) → newest_diversion f.store.building ≡ Some d → Falls 1 0 f (measured (Some d) (record f { store = diversion_ended f.store }))
unfolding steps_left owed
falls-ended d f newest =
    let stays = diversion_ended-keeps f.store in
    falls-kept 1 0 f (measured (Some d) (record f { store = diversion_ended f.store })) (record { levels = stays.0; limit = stays.1; burst = refl; most = refl }) (omega arith)
    (omega (arith, ended-weighs d f.store newest))

falls-last_diversion : (d : Option Diversion) (f : Formatter) → newest_diversion f.store.building ≡ d → f.event ≡ events.Nothing → f.task ≡ tasks.Finish → f.step ≡ steps.Diversions
    → Falls 1 0 f (if is_diverting d then measured d (record f { store = diversion_ended f.store }) else eject_last f)
falls-last_diversion None f newest none is at = falls-eject_last f none is at
falls-last_diversion (Some d) f newest none is at = falls-ended d f newest

falls-finish_at : (s : Step) (f : Formatter) → f.event ≡ events.Nothing → f.task ≡ tasks.Finish → f.step ≡ s → Falls 1 0 f (finish_at s f)
unfolding steps_left owed
falls-finish_at steps.NotYet f none is at =
    let g = finish_at steps.NotYet f in
    let agenda : weight_of_agenda f.event f.task f.step ≡ 2 = rw (none, is) refl in
    let left : weight_of_agenda g.event g.task g.step ≡ 1 = rw none refl in
    let step = ap weight_of_step at in
    falls-kept 1 0 f g (record { levels = refl; limit = refl; burst = refl; most = refl }) (omega arith) (omega arith)
falls-finish_at steps.FirstBreak f none is at =
    let agenda : weight_of_agenda f.event f.task f.step ≡ 2 = rw (none, is) refl in
    let left : weight_of_agenda f.event (tasks.Break thens.Finish) f.step ≡ 1 = rw (none, at) refl in
    falls-task (tasks.Break thens.Finish) 2 f agenda (omega arith) refl
falls-finish_at steps.Macro f none is at =
    let g = finish_at steps.Macro f in
    let agenda : weight_of_agenda f.event f.task f.step ≡ 2 = rw (none, is) refl in
    let left : weight_of_agenda g.event g.task g.step ≡ 2 = rw (none, is) refl in
    let step = ap weight_of_step at in
    falls-kept 1 0 f g (record { levels = refl; limit = refl; burst = refl; most = refl }) (omega arith) (omega (arith, weight_of_name-le g.springs))
falls-finish_at steps.SecondBreak f none is at =
    let agenda : weight_of_agenda f.event f.task f.step ≡ 2 = rw (none, is) refl in
    let left : weight_of_agenda f.event (tasks.Break thens.Finish) f.step ≡ 1 = rw (none, at) refl in
    falls-task (tasks.Break thens.Finish) 2 f agenda (omega arith) refl
falls-finish_at steps.Diversions f none is at = falls-last_diversion (newest_diversion f.store.building) f refl none is at
falls-finish_at steps.LastPage f none is at =
    let agenda : weight_of_agenda f.event f.task f.step ≡ 2 = rw (none, is) refl in
    let left : weight_of_agenda f.event tasks.Halted f.step ≡ 0 = rw none refl in
    falls-task tasks.Halted 2 f agenda (omega arith) refl

-- ---- all of it, requests and dashes aside

pub falls-gone_on : (t : Task) (f : Formatter) → t ≢ tasks.Dash → ((r : Request) → t ≢ tasks.Act r) → works t ≡ true → f.event ≡ events.Nothing → f.task ≡ t → Falls 1 0 f (gone_on t f)
falls-gone_on tasks.Count f not_dash not_act at_work none is = falls-count f none is
falls-gone_on tasks.InputTrap f not_dash not_act at_work none is = falls-count_input f none is
falls-gone_on (tasks.Turn b) f not_dash not_act at_work none is = falls-turned b f none is
falls-gone_on tasks.Finish f not_dash not_act at_work none is = falls-finish_at f.step f none is refl
falls-gone_on tasks.Dash f not_dash not_act at_work none is = absurd (not_dash refl)
falls-gone_on (tasks.Act r) f not_dash not_act at_work none is = absurd (not_act r refl)
falls-gone_on t f not_dash not_act at_work none is = cc
