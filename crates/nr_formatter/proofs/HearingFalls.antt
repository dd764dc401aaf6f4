-- What may still come falls with each event that is acted on, text aside.
use Rattle.std.specs.Prelude.{◌&&◌, not, OnOk}
use Rattle.std.proofs.Common.{◌≡◌, ◌≢◌, ℕ, ◌+◌, ◌≤◌, List, Bool, true, false, if◌then◌else◌, Option, None, Some, Result, Ok, Err, refl, ap, sym, subst, arith}
use Rattle.nr_store.specs.declared.request.Request.{Request}
use Rattle.nr_reading.specs.declared.event.Event.{Event}
use Rattle.nr_reading.specs.declared.event.Event.TheVariants as events
use Rattle.nr_reading.specs.declared.half.Half.{Half}
use Rattle.nr_reading.specs.Conditionals.{judged, part_mode, answer_of}
use Rattle.nr_reading.specs.Weights.{blanks_of_mode}
use Rattle.nr_reading.specs.declared.mode.PendingAct.TheVariants as pending_acts
use Rattle.nr_input.specs.Acting.{next}
use Rattle.nr_input.specs.Weights.{Splices}
use Rattle.nr_input.specs.declared.refusal.Refusal.{Refusal}
use Rattle.nr_input.proofs.Costs.{title_costs, judged_costs}
use Rattle.nr_fill.specs.Piece.{Collected}
use Rattle.nr_fill.specs.Title.{Title}
use Rattle.nr_fill.specs.declared.line.LineCells.{LineCells}
use Rattle.nr_formatter.specs.declared.formatter.Formatter.{Formatter}
use Rattle.nr_formatter.specs.declared.built_in.BuiltInRegister.{BuiltInRegister}
use Rattle.nr_formatter.specs.declared.passed.Passed.{Passed}
use Rattle.nr_formatter.specs.declared.tasks.After.TheVariants as afters
use Rattle.nr_formatter.specs.declared.tasks.Room.TheVariants as rooms
use Rattle.nr_formatter.specs.declared.tasks.Step.{Step}
use Rattle.nr_formatter.specs.declared.tasks.Task.{Task}
use Rattle.nr_formatter.specs.declared.tasks.Task.TheVariants as tasks
use Rattle.nr_formatter.specs.declared.tasks.Then.TheVariants as thens
use Rattle.nr_formatter.specs.Access.{collected, spacing, done}
use Rattle.nr_formatter.specs.Conditions.{answered, holds}
use Rattle.nr_formatter.specs.Moves.{control, heard_for, font_set, task_requested}
use Rattle.nr_formatter.specs.Passed.{line_answer, splice_answer}
use Rattle.nr_formatter.specs.Registers.{spliced, given_text, given_by}
use Rattle.nr_formatter.specs.Requests.{breaks}
use Rattle.nr_formatter.specs.Titles.{title_part, with_delimiter}
use Rattle.nr_formatter.specs.Weights.{Falls, steps_left, owed, owed_by_event, owed_by_task, weight_of_agenda, weight_of_line, weight_of_task}
use Rattle.nr_formatter.proofs.Falling.{weight_read, falls-kept, falls-spliced, falls-is, weight_of_task-le}

-- ---- what was read is acted on by something

pub falls-heard : (e : Event) (t : Task) (f : Formatter) → f.event ≡ e → weight_of_task t f.step + 1 ≤ weight_of_agenda e f.task f.step
    → owed_by_task t f.reader.half ≤ owed_by_event e + owed_by_task f.task f.reader.half → Falls 1 0 f (heard_for t f)
unfolding steps_left owed
falls-heard e t f is less owes =
    let agenda : weight_of_agenda f.event f.task f.step ≡ weight_of_agenda e f.task f.step = rw is refl in
    let event : owed_by_event f.event ≡ owed_by_event e = rw is refl in
    falls-kept 1 0 f (heard_for t f) (record { levels = refl; limit = refl; burst = refl; most = refl }) (omega arith) (omega arith)

requested-le : (b : Bool) (r : Request) (s : Step) → weight_of_task (if b then tasks.Break (thens.Act r) else tasks.Act r) s ≤ 27
requested-le true r s = omega arith
requested-le false r s = omega arith

owed_requested-le : (b : Bool) (r : Request) (h : Half) → owed_by_task (if b then tasks.Break (thens.Act r) else tasks.Act r) h ≤ 23
owed_requested-le true r h = omega arith
owed_requested-le false r h = omega arith

-- a part of a title is no piece of the line
part_weighs : (t : Option Title) (c : Collected) → weight_of_line (with_delimiter t c) ≡ weight_of_line c
part_weighs None c = refl
part_weighs (Some t) c = refl

-- an answer ends what was half read of a condition
part_blanks : (holds : Bool) → blanks_of_mode (part_mode holds) ≡ 0
part_blanks true = refl
part_blanks false = refl

judged_owes : (b : Bool) (t : Task) (h : Half) → weight_read (judged b h) + owed_by_task t (judged b h) ≤ weight_read h + owed_by_task t h + 22
judged_owes b (tasks.Room rooms.Title) h = omega (arith, judged_costs b h, part_blanks (answer_of b h.notes))
judged_owes b (tasks.Room rooms.Line) h = omega (arith, judged_costs b h)
judged_owes b t h = omega (arith, judged_costs b h)

pub falls-control : (e : Event) (f : Formatter) → f.event ≡ e → e ≢ events.Nothing → Falls 1 0 f (control e f)
unfolding steps_left owed
falls-control events.Nothing f is some = absurd (some refl)
falls-control events.Over f is some = falls-heard events.Over tasks.Finish f is (omega arith) (omega arith)
falls-control events.Empty f is some = falls-heard events.Empty (tasks.Break thens.Space) f is (omega arith) (omega arith)
falls-control events.Leading f is some = falls-heard events.Leading (tasks.Break thens.Leading) f is (omega arith) (omega arith)
falls-control events.EndInterrupted f is some = falls-heard events.EndInterrupted (tasks.Flow afters.Interrupted false) f is (omega arith) (omega arith)
falls-control events.Diverted f is some = falls-heard events.Diverted (tasks.Break thens.Diverted) f is (omega arith) (omega arith)
falls-control (events.DivertedEnd None) f is some = falls-heard (events.DivertedEnd None) (tasks.Line (spacing f)) f is (omega arith) (omega arith)
falls-control (events.DivertedEnd (Some height)) f is some = falls-heard (events.DivertedEnd (Some height)) (tasks.Line height) f is (omega arith) (omega arith)
falls-control events.Title f is some = falls-heard events.Title (tasks.Room rooms.Title) f is (omega arith) (omega (arith, title_costs f.reader.half))
falls-control events.TitlePart f is some =
    let g = title_part f in
    let agenda : weight_of_agenda f.event f.task f.step ≡ 19 + weight_of_task f.task f.step = rw is refl in
    falls-kept 1 0 f g (record { levels = refl; limit = refl; burst = refl; most = refl }) (omega arith) (omega (arith, part_weighs (collected f).title (collected f)))
falls-control events.TitleEnd f is some = falls-heard events.TitleEnd tasks.Title f is (omega arith) (omega arith)
falls-control events.Font f is some =
    let g = font_set f in
    let agenda : weight_of_agenda f.event f.task f.step ≡ 19 + weight_of_task f.task f.step = rw is refl in
    falls-kept 1 0 f g (record { levels = refl; limit = refl; burst = refl; most = refl }) (omega arith) (omega arith)
falls-control (events.Judge q) f is some =
    let g = answered q f in
    let agenda : weight_of_agenda f.event f.task f.step ≡ 31 + weight_of_task f.task f.step = rw is refl in
    let event : owed_by_event f.event ≡ 40 = rw is refl in
    falls-kept 1 0 f g (record { levels = refl; limit = refl; burst = refl; most = refl })
    (omega (arith, judged_owes (holds q f) f.task f.reader.half)) (omega arith)
falls-control events.Request f is some =
    let b = breaks f.reader.request && not f.reader.half.reading.no_break in
    falls-heard events.Request (task_requested f) f is (omega (arith, requested-le b f.reader.request f.step)) (omega (arith, owed_requested-le b f.reader.request f.reader.half))
falls-control e f is some = falls-heard e f.task f is (omega arith) (omega arith)

-- ---- what is spliced

-- what is owed for a title rises by no more than that
spliced_owes : (t : Task) (h : Half) → owed_by_task t (next pending_acts.Look h) ≤ owed_by_task t h + 1000
spliced_owes (tasks.Room rooms.Title) h = omega (arith, title_costs (next pending_acts.Look h))
spliced_owes (tasks.Room rooms.Line) h = omega arith
spliced_owes t h = omega arith

falls-spliced_text : (bytes : List ℕ) (f : Formatter) → let g = spliced bytes f in Splices f.store f.reader g.store g.reader → Falls 1 0 f (done g)
unfolding steps_left owed
falls-spliced_text bytes f splices =
    let g = spliced bytes f in
    falls-spliced 1 f (done g) splices (omega (arith, spliced_owes f.task f.reader.half)) (omega (arith, weight_of_task-le f.task f.step))

pub falls-text : (bytes : List ℕ) (f g : Formatter) → g ≡ spliced bytes f → Splices f.store f.reader g.store g.reader → Falls 1 0 f (done g)
falls-text bytes f g same splices =
    let paid : Splices f.store f.reader (spliced bytes f).store (spliced bytes f).reader = subst (λ (h : Formatter). Splices f.store f.reader h.store h.reader) same splices in
    falls-is 1 0 f (done g) (done (spliced bytes f)) (ap done same) (falls-spliced_text bytes f paid)

pub falls-given : (r : BuiltInRegister) (f g : Formatter) → g ≡ given_by (Some r) f → Splices f.store f.reader g.store g.reader → Falls 1 0 f (done g)
falls-given r f g same splices = falls-text (given_text r f) f g same splices

-- ---- an answer of another type says of the same calls that they were made

pub ok_line : (r : Result (Unit {0}) LineCells) (answer : Result (Unit {0}) Passed) (P : Type 0) → answer ≡ line_answer r → OnOk r P → OnOk answer P
ok_line (Ok x) answer P same ok = subst (λ a. OnOk a P) (sym same) ok
ok_line (Err e) answer P same ok = subst (λ a. OnOk a P) (sym same) tt

pub ok_splice : (r : Result (Unit {0}) Refusal) (answer : Result (Unit {0}) Passed) (P : Type 0) → answer ≡ splice_answer r → OnOk r P → OnOk answer P
ok_splice (Ok x) answer P same ok = subst (λ a. OnOk a P) (sym same) ok
ok_splice (Err e) answer P same ok = subst (λ a. OnOk a P) (sym same) tt
