-- What each part of what is half read weighs at most.
use Rattle.std.proofs.Common.{◌≡◌, ℕ, ◌+◌, ◌-◌, ◌*◌, ◌≤◌, Bool, true, false, if◌then◌else◌, arith}
use Rattle.nr_reading.specs.declared.ask.Stage.{Stage}
use Rattle.nr_reading.specs.declared.ask.Stage.TheVariants as stages
use Rattle.nr_reading.specs.declared.event.Event.{Event}
use Rattle.nr_reading.specs.declared.event.Event.TheVariants as events
use Rattle.nr_reading.specs.declared.mode.PendingAct.TheVariants as pending_acts
use Rattle.nr_reading.specs.declared.mode.Escape.{Escape}
use Rattle.nr_reading.specs.declared.mode.Mode.{Mode}
use Rattle.nr_reading.specs.declared.mode.Mode.TheVariants as modes
use Rattle.nr_reading.specs.declared.mode.Reading.{Reading}
use Rattle.nr_reading.specs.Notes.{Note}
use Rattle.nr_reading.specs.Notes as notes
use Rattle.nr_reading.specs.Step.{Step}
use Rattle.nr_reading.specs.Weights.{cost_of_event, paid_by, weight_of_backslash, weight_of_reading, weight_of_stage, weight_of_ask, blanks_of_mode, blanks_of_pending, is_lead}

pub cost_of_event-le : (e : Event) → cost_of_event e ≤ 367
cost_of_event-le events.Nothing = omega arith
cost_of_event-le events.Over = omega arith
cost_of_event-le events.Lead = omega arith
cost_of_event-le (events.Byte b) = omega arith
cost_of_event-le (events.Cell x) = omega arith
cost_of_event-le (events.Plain b) = omega arith
cost_of_event-le events.Fixed = omega arith
cost_of_event-le events.Zero = omega arith
cost_of_event-le events.Tab = omega arith
cost_of_event-le events.Leader = omega arith
cost_of_event-le events.Horizontal = omega arith
cost_of_event-le events.Rule = omega arith
cost_of_event-le events.Special = omega arith
cost_of_event-le events.Request = omega arith
cost_of_event-le (events.Judge q) = omega arith
cost_of_event-le events.Title = omega arith
cost_of_event-le e = omega arith

pub weight_of_stage-le : (s : Stage) → weight_of_stage s ≤ 368
weight_of_stage-le stages.Sign = omega arith
weight_of_stage-le s = omega arith

pub weight_of_stage-ge : (s : Stage) → 367 ≤ weight_of_stage s
weight_of_stage-ge stages.Sign = omega arith
weight_of_stage-ge s = omega arith

pub weight_of_backslash-le : (m : Mode) → weight_of_backslash m ≤ 156
weight_of_backslash-le modes.Text = omega arith
weight_of_backslash-le modes.Interrupted = omega arith
weight_of_backslash-le modes.Continued = omega arith
weight_of_backslash-le (modes.Leading n) = omega arith
weight_of_backslash-le modes.TitleBefore = omega arith
weight_of_backslash-le (modes.Title d n) = omega arith
weight_of_backslash-le modes.Diverted = omega arith
weight_of_backslash-le m = omega arith

pub weight_of_backslash-ge : (m : Mode) → 115 ≤ weight_of_backslash m
weight_of_backslash-ge modes.Text = omega arith
weight_of_backslash-ge modes.Interrupted = omega arith
weight_of_backslash-ge modes.Continued = omega arith
weight_of_backslash-ge (modes.Leading n) = omega arith
weight_of_backslash-ge modes.TitleBefore = omega arith
weight_of_backslash-ge (modes.Title d n) = omega arith
weight_of_backslash-ge modes.Diverted = omega arith
weight_of_backslash-ge m = omega arith

-- an escape that begins with a step
abbrev pub weight_of_note : Note → ℕ
weight_of_note (notes.Begin a) = weight_of_ask a
weight_of_note n = 0

abbrev pub blanks_in : Reading → ℕ
blanks_in r = blanks_of_mode r.mode + blanks_of_pending r.pending_act

-- where an item is looked at
abbrev pub at : Mode → Escape → Bool → Bool → Reading
at m e c n = record { mode = m; escape = e; pending_act = pending_acts.Look; continued = c; no_break = n }

-- a step is paid, at so much for the item
pub record Pays (r : Reading) (worth : ℕ) (s : Step) : Type 0 where
  pub pays : weight_of_reading s.reading + weight_of_note s.note + cost_of_event s.event + 178 * (blanks_in s.reading - blanks_in r) ≤ weight_of_reading r + paid_by s.takes worth
  pub tells : is_lead s.event ≡ false

pub either : {r : Reading} {w : ℕ} (b : Bool) {x y : Step} → Pays r w x → Pays r w y → Pays r w (if b then x else y)
either true p q = p
either false p q = q
