-- What may still come where a text is sprung or given, after its end, and where there is room for what is read.
use Rattle.std.specs.Prelude.{is_some}
use Rattle.std.proofs.Common.{◌≡◌, ℕ, ◌+◌, ◌-◌, ◌≤◌, List, true, Option, None, Some, refl, arith}
use Rattle.nr_store.specs.declared.element.Element.{Element}
use Rattle.nr_symbol_tables.specs.Table.{find}
use Rattle.nr_store.specs.Store.{words}
use Rattle.nr_reading.specs.declared.event.Event.{Event}
use Rattle.nr_reading.specs.declared.event.Event.TheVariants as events
use Rattle.nr_reading.specs.declared.half.Half.{Half}
use Rattle.nr_reading.specs.declared.mode.Mode.TheVariants as modes
use Rattle.nr_reading.specs.declared.mode.Standing.{Standing}
use Rattle.nr_reading.specs.declared.mode.Standing.TheVariants as standings
use Rattle.nr_reading.specs.Conditionals.{in_mode}
use Rattle.nr_reading.specs.Setting as setting
use Rattle.nr_reading.specs.Weights.{weight_of_half, blanks_owed}
use Rattle.nr_input.specs.Weights.{Splices}
use Rattle.nr_input.proofs.Costs.{title_costs, diverting_costs, stand_costs}
use Rattle.nr_formatter.specs.declared.formatter.Formatter.{Formatter}
use Rattle.nr_formatter.specs.declared.tasks.Resume.{Resume}
use Rattle.nr_formatter.specs.declared.tasks.Room.{Room}
use Rattle.nr_formatter.specs.declared.tasks.Room.TheVariants as rooms
use Rattle.nr_formatter.specs.declared.tasks.Step.{Step}
use Rattle.nr_formatter.specs.declared.tasks.Task.{Task}
use Rattle.nr_formatter.specs.declared.tasks.Task.TheVariants as tasks
use Rattle.nr_formatter.specs.declared.tasks.Then.{Then}
use Rattle.nr_formatter.specs.declared.tasks.Then.TheVariants as thens
use Rattle.nr_formatter.specs.Moves.{read_in}
use Rattle.nr_formatter.specs.Springing.{sprung_text, sprung, resumed}
use Rattle.nr_formatter.specs.Places.{page_outlet}
use Rattle.nr_formatter.specs.Weights.{Falls, steps_left, owed, weight, owed_by_event, owed_by_then, owed_by_task, weight_of_agenda}
use Rattle.nr_formatter.proofs.Falling.{falls-kept, falls-costing, falls-spliced, falls-is, falls-less, falls-then, weight_read, weight_of_outlet-le, weight_of_task-le}

-- ---- springing

-- after an event what is read may weigh a little more
agenda_read-le : (e : Event) (t : Task) (s : Step) → weight_of_agenda e tasks.Read s ≤ weight_of_agenda e t s + 4
agenda_read-le events.Nothing t s = omega arith
agenda_read-le events.Over t s = omega arith
agenda_read-le e t s = omega arith

-- a text is sprung; where there is none nothing is paid
falls-sprung_text : (f : Formatter) (name : List ℕ) (text : Option (List Element)) → Splices f.store f.reader (sprung_text name text f).store (sprung_text name text f).reader → Falls 4 0 f (sprung_text name text f)
unfolding steps_left owed weight
falls-sprung_text f name None splices = record { limit = refl; most = refl; falls = λ p. let pays = splices.pays p in omega arith }
falls-sprung_text f name (Some text) splices =
    falls-spliced 4 f (sprung_text name (Some text) f) splices (omega arith) (omega (arith, agenda_read-le f.event f.task f.step))

pub falls-sprung : (name : List ℕ) (f g : Formatter) → g ≡ sprung name f → Splices f.store f.reader g.store g.reader → Falls 4 0 f g
falls-sprung name f g same splices =
    let paid : Splices f.store f.reader (sprung name f).store (sprung name f).reader = rw (← same) splices in
    falls-is 4 0 f g (sprung name f) same (falls-sprung_text f name (words (find name f.store.names)) paid)

-- what has no text is no text's name
pub not_text : {A : Type 0} (text : Option A) → text ≡ None → is_some text ≡ true → ⊥
not_text None none some = cc
not_text (Some x) none some = cc

-- a name without text springs no more
pub falls-unsprung : (name : List ℕ) (f : Formatter) → f.springs ≡ Some name → Falls 1 0 f (record f { springs = None })
unfolding steps_left owed
falls-unsprung name f springs =
    let waiting = springs in
    falls-kept 1 0 f (record f { springs = None }) (record { levels = refl; limit = refl; burst = refl; most = refl }) (omega arith) (rw springs (omega arith))

-- the page goes to a place
falls-placed : (place : ℕ) (f : Formatter) → Falls 0 3 f (record f { paper = record f.paper { place = place } })
unfolding steps_left owed
falls-placed place f =
    falls-kept 0 3 f (record f { paper = record f.paper { place = place } }) (record { levels = refl; limit = refl; burst = refl; most = refl }) (omega arith)
    (omega (arith, weight_of_outlet-le (page_outlet f.paper.state place f.settings.pages.page_length)))

-- and a macro springs there
pub falls-ejected_to : (place : ℕ) (f g : Formatter) → Falls 4 0 (record f { paper = record f.paper { place = place } }) g → Falls 1 0 f g
falls-ejected_to place f g falls =
    let h = record f { paper = record f.paper { place = place } } in
    falls-less 4 3 1 0 f g (falls-then 0 3 4 0 f h g (falls-placed place f) falls) (omega arith)

-- ---- after a sprung text

blanks_stood : (s : Standing) (h : Half) → blanks_owed (setting.resumed s h) ≤ blanks_owed h + 1
blanks_stood standings.Start h = omega arith
blanks_stood standings.Leading h = omega arith
blanks_stood standings.Text h = omega arith
blanks_stood standings.Continued h = omega arith

owed_by_then-le : (t : Then) → owed_by_then t ≤ 23
owed_by_then-le (thens.Act r) = omega arith
owed_by_then-le thens.Diverted = omega arith
owed_by_then-le t = omega arith

resumed-costs : (t : Task) (s : Standing) (line : List ℕ) (h : Half) → let k = setting.with_line line (setting.resumed s h) in weight_read k + owed_by_task t k ≤ weight_read h + 260
resumed-costs (tasks.Act r) s line h = omega (arith, stand_costs s h)
resumed-costs (tasks.Break t) s line h = omega (arith, stand_costs s h, owed_by_then-le t)
resumed-costs (tasks.Room rooms.Line) s line h = omega (arith, stand_costs s h)
resumed-costs (tasks.Room rooms.Title) s line h = omega (arith, stand_costs s h, title_costs h, blanks_stood s h)
resumed-costs t s line h = omega (arith, stand_costs s h)

pub falls-resumed : (r : Resume) (f : Formatter) → f.event ≡ events.Nothing → f.task ≡ tasks.Read → Falls 0 510 f (resumed r f)
unfolding steps_left owed
falls-resumed r f none read =
    let g = resumed r f in
    let agenda : weight_of_agenda f.event f.task f.step ≡ 4 = rw (none, read) refl in
    let owes : owed_by_event f.event + owed_by_task f.task f.reader.half ≡ 0 = rw (none, read) refl in
    falls-less 0 (260 + 190) 0 510 f g
    (falls-costing 260 0 190 f g (record { levels = refl; limit = refl; burst = refl; most = refl })
    (omega (arith, resumed-costs r.task r.standing r.line f.reader.half)) (omega (arith, weight_of_task-le r.task f.step)))
    (omega arith)

-- ---- where there is room

pub falls-read_in : (room : Room) (f : Formatter) → f.event ≡ events.Nothing → f.task ≡ tasks.Room room → Falls 1 0 f (read_in room f)
unfolding steps_left owed
falls-read_in rooms.Title f none room =
    let g = read_in rooms.Title f in
    let agenda : weight_of_agenda f.event f.task f.step ≡ 6 = rw (none, room) refl in
    let left : weight_of_agenda g.event g.task g.step ≡ 4 = rw none refl in
    let owes : owed_by_task f.task f.reader.half ≡ weight_of_half (in_mode modes.TitleBefore f.reader.half) - weight_of_half f.reader.half = rw room refl in
    falls-kept 1 0 f g (record { levels = refl; limit = refl; burst = refl; most = refl }) (omega arith) (omega arith)
falls-read_in rooms.Line f none room =
    let g = read_in rooms.Line f in
    let agenda : weight_of_agenda f.event f.task f.step ≡ 6 = rw (none, room) refl in
    let left : weight_of_agenda g.event g.task g.step ≡ 4 = rw none refl in
    let owes : owed_by_task f.task f.reader.half ≡ 1 = rw room refl in
    falls-kept 1 0 f g (record { levels = refl; limit = refl; burst = refl; most = refl }) (omega (arith, diverting_costs f.reader.half)) (omega arith)
