-- Definitions of strings, and transparent lines (CSTR 54, 7.1, 10.6).
use Prim.Native.Char.{code}
use Rattle.std.specs.Prelude.{ℕ, ◌==◌, Bool, if◌then◌else◌}
use Rattle.nr_reading.specs.declared.mode.PendingAct.TheVariants as pending_acts
use Rattle.nr_reading.specs.declared.mode.Mode.TheVariants as modes
use Rattle.nr_reading.specs.declared.mode.Reading.{Reading}
use Rattle.nr_reading.specs.declared.spelled.Spelled.{Spelled}
use Rattle.nr_reading.specs.Notes as notes
use Rattle.nr_reading.specs.Step.{Step}
use Rattle.nr_reading.specs.Control.{completes}
use Rattle.nr_reading.specs.Spelled.{is_blank, ends_name, name_of, is_empty}
use Rattle.nr_reading.specs.Step.{to, pending_act, go, leave, noting, leave_noting}

abbrev pub read_string_before : ℕ → Reading → Step
read_string_before b r = if is_blank b then go r else leave_noting notes.NewName (to modes.StringName r)

-- without a name the line does nothing
abbrev pub after_string_name : Spelled → Reading → Reading
after_string_name name r = if is_empty (name_of name) then to modes.Drop r else to modes.StringBlanks r

-- A name that is an argument is read the same way as a control line's.
abbrev pub read_string_name : ℕ → Bool → Spelled → Reading → Step
read_string_name b long name r =
    if ends_name b then leave (after_string_name name r)
    else (if completes long name then noting (notes.Name b) (to modes.StringBlanks r)
    else noting (notes.Name b) r)

-- The text is the rest of the line after blanks; one leading quote is dropped.
abbrev pub read_string_blanks : ℕ → Reading → Step
read_string_blanks b r =
    if is_blank b then go r
    else (if b == code "\"" then go (pending_act pending_acts.Begin (to modes.StringText r))
    else leave (pending_act pending_acts.Begin (to modes.StringText r)))

abbrev pub read_string_text : ℕ → Reading → Step
read_string_text b r =
    if b == code "\n" then go (pending_act pending_acts.Define (to modes.Start r)) else go (pending_act (pending_acts.Add b) r)

-- The line and its newline pass into the diversion.
abbrev pub read_transparent : ℕ → Reading → Step
read_transparent b r =
    if b == code "\n" then go (pending_act (pending_acts.Add (code "\n")) (to modes.Start r)) else go (pending_act (pending_acts.Add b) r)
