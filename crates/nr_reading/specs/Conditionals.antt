-- Answers of conditions, and what follows them (CSTR 54, 16).
use Rattle.std.specs.Prelude.{not, Bool, true, false, if◌then◌else◌, drop, slice_get, Option, None, Some}
use Rattle.nr_reading.specs.declared.half.Half.{Half}
use Rattle.nr_reading.specs.declared.mode.Mode.{Mode}
use Rattle.nr_reading.specs.declared.mode.Mode.TheVariants as modes
use Rattle.nr_reading.specs.declared.notes.Notes.{Notes}
use Rattle.nr_reading.specs.Noting.{no_condition, remembered}

-- the part that follows is accepted, or rejected
abbrev pub part_mode : Bool → Mode
part_mode true = modes.Accepted
part_mode false = modes.Skip 0

abbrev pub in_mode : Mode → Half → Half
in_mode m h = record h { reading = record h.reading { mode = m } }

-- the condition's answer: what was found, or its opposite after `!`
abbrev pub answer_of : Bool → Notes → Bool
answer_of found n = if n.condition.negated then not found else found

-- The answers of `.ie` are remembered.
abbrev pub remembering : Bool → Half → Half
remembering found h = record h {
  notes =
      record h.notes {
        answers = if h.notes.condition.remembers
            then remembered (answer_of found h.notes) h.notes.answers else h.notes.answers;
      };
}

abbrev pub judged : Bool → Half → Half
judged found h = in_mode (part_mode (answer_of found h.notes)) (remembering found h)

-- a condition begins
abbrev pub conditional : Bool → Half → Half
conditional remembers h =
    in_mode modes.Condition
    (record h { notes = record h.notes { condition = record no_condition { remembers = remembers } } })

-- `.el` takes the newest answer, and accepts where it was false; without one it rejects.
abbrev pub else_mode : Option Bool → Mode
else_mode None = part_mode false
else_mode (Some answer) = part_mode (not answer)

abbrev pub otherwise : Half → Half
otherwise h =
    in_mode (else_mode (slice_get h.notes.answers 0))
    (record h { notes = record h.notes { answers = drop 1 h.notes.answers } })
