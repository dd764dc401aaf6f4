-- Stretches of items, taken in from a place on in the loops of the modes.
use Rattle.std.specs.Prelude.{◌≡◌, ℕ, ◌<◌, ◌≤◌, not, Bool, true, false, List, slice_get, Some}
use Rattle.nr_reading.specs.declared.event.Event.TheVariants as events
use Rattle.nr_reading.specs.declared.next_item.NextItem.{NextItem}
use Rattle.nr_reading.specs.declared.next_item.NextItem.TheVariants as next_items
use Rattle.nr_reading.specs.declared.half.Half.{Half}
use Rattle.nr_reading.specs.declared.mode.PendingAct.TheVariants as pending_acts
use Rattle.nr_reading.specs.declared.mode.Mode.{Mode}
use Rattle.nr_reading.specs.declared.mode.Mode.TheVariants as modes
use Rattle.nr_reading.specs.declared.notes.Condition.{Condition}
use Rattle.nr_reading.specs.declared.many.runs.Run.{Run}
use Rattle.nr_reading.specs.Many.Passing.{quiet}
use Rattle.nr_reading.specs.Many.Runs.{spot, HasTakenIn}

-- where so many moves led to one place of a stretch, so many lead on to another, and nothing is emitted on the way
pub record LeadsOn (fs : List NextItem) (from made : ℕ) (old : Half) (to moves : ℕ) (new : Half) : Type 0 where
  pub taken_in : (h : Half) → HasTakenIn made fs h (quiet from old) → HasTakenIn moves fs h (quiet to new)

-- Where so many moves led to a place, this run leads on. Bytes are left only where something was emitted, something is pending, or the
-- most moves of a run were made.
pub record TakesInRest (fs : List NextItem) (from made : ℕ) (old : Half) (run : Run) (new : Half) : Type 0 where
  pub taken_in : (h : Half) → HasTakenIn made fs h (quiet from old) → HasTakenIn run.moves fs h (spot run new)
  pub few : run.moves ≤ 65536
  pub longest : run.event ≡ events.Nothing → new.reading.pending_act ≡ pending_acts.Look → run.moves < 65536 → (byte : ℕ)
      → slice_get fs run.taken ≡ Some (next_items.Byte byte) → ⊥

-- In these modes a blank does nothing; before a condition it does nothing where no `!` came.
abbrev pub drops_blank : Mode → Condition → Bool
drops_blank modes.RequestBlanks c = true
drops_blank modes.MacroBlanks c = true
drops_blank modes.StringBefore c = true
drops_blank modes.StringBlanks c = true
drops_blank modes.Accepted c = true
drops_blank modes.Condition c = not c.negated
drops_blank m c = false
