-- Bytes that are taken in many at once.
use Prim.Native.Char.{code}
use Rattle.std.specs.Prelude.{◌≡◌, ℕ, ◌==◌, ◌&&◌, ◌||◌, not, Bool, true, false, List}
use Rattle.nr_reading.specs.declared.event.Event.TheVariants as events
use Rattle.nr_reading.specs.declared.next_item.NextItem.{NextItem}
use Rattle.nr_reading.specs.declared.half.Half.{Half}
use Rattle.nr_reading.specs.declared.mode.Escape.{Escape}
use Rattle.nr_reading.specs.declared.mode.Escape.TheVariants as escapes
use Rattle.nr_reading.specs.declared.mode.Mode.{Mode}
use Rattle.nr_reading.specs.declared.mode.Mode.TheVariants as modes
use Rattle.nr_reading.specs.declared.notes.Defining.{Defining}
use Rattle.nr_reading.specs.Nesting.{is_none}
use Rattle.nr_reading.specs.Many.Runs.{Spot, HasTakenIn}

-- the byte begins no escape, and ends no line
abbrev pub is_plain : ℕ → Bool
is_plain b = not ((b == code "\\") || (b == code "\n"))

-- In these modes such a byte does nothing; in a definition it does nothing where the text is not kept.
abbrev pub drops_plain : Mode → Defining → Bool
drops_plain (modes.Skip n) d = true
drops_plain modes.Drop d = true
drops_plain modes.TitleRest d = true
drops_plain modes.BodyEnd d = true
drops_plain modes.Body d = not d.keeps
drops_plain m d = false

-- In a comment it does nothing in any mode.
abbrev pub passes_by : Escape → Mode → Defining → Bool
passes_by escapes.Plain m d = drops_plain m d
passes_by escapes.Begun m d = false
passes_by escapes.Comment m d = true

-- such bytes do nothing to what is half read
abbrev pub passes_plain : Half → Bool
passes_plain h = is_none h.asks && passes_by h.reading.escape h.reading.mode h.notes.defining

-- where so many items were taken, and nothing was emitted
abbrev pub quiet : ℕ → Half → Spot
quiet taken h = record { taken = taken; half = h; event = events.Nothing }

-- from the first item of a stretch to a place each move takes an item, and tells nothing
pub record GoesOn (fs : List NextItem) (to : ℕ) (old new : Half) : Type 0 where
  pub pending_act : new.reading.pending_act ≡ old.reading.pending_act
  pub taken_in : HasTakenIn to fs old (quiet to new)
