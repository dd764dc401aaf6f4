-- Control lines: names, the lines of requests, and the arguments of macros (CSTR 54, 1.1, 7.3).
use Prim.Native.Char.{code}
use Rattle.std.specs.Prelude.{ℕ, ◌==◌, ◌&&◌, not, Bool, if◌then◌else◌, length}
use Rattle.nr_reading.specs.declared.event.Event.TheVariants as events
use Rattle.nr_reading.specs.declared.mode.PendingAct.TheVariants as pending_acts
use Rattle.nr_reading.specs.declared.mode.Mode.TheVariants as modes
use Rattle.nr_reading.specs.declared.mode.Reading.{Reading}
use Rattle.nr_reading.specs.declared.spelled.Spelled.{Spelled}
use Rattle.nr_reading.specs.Notes as notes
use Rattle.nr_reading.specs.Step.{Step}
use Rattle.nr_reading.specs.Spelled.{is_blank, ends_name}
use Rattle.nr_reading.specs.Step.{to, pending_act, go, leave, tell, noting, leave_noting}

-- Blanks may follow the control character.
abbrev pub read_control : ℕ → Reading → Step
read_control b r = if is_blank b then go r else leave (to modes.Name r)

-- the byte is the second of a name of two
abbrev pub completes : Bool → Spelled → Bool
completes long name = not long && (length name.bytes == 1)

-- A name ends before a blank, a newline or another control byte, and after its second byte where names aren't long.
abbrev pub read_name : ℕ → Bool → Spelled → Reading → Step
read_name b long name r =
    if ends_name b then leave (pending_act pending_acts.Seek r)
    else (if completes long name then noting (notes.Name b) (pending_act pending_acts.Seek r) else noting (notes.Name b) r)

-- An empty or unknown name: the line is read in copy mode and dropped.
abbrev pub read_drop : ℕ → Reading → Step
read_drop b r = if b == code "\n" then go (to modes.Start r) else go r

-- ---- requests

abbrev pub read_request_blanks : ℕ → Reading → Step
read_request_blanks b r = if is_blank b then go r else leave_noting notes.NewLine (to modes.RequestLine r)

-- All arguments and the newline are read first.
abbrev pub read_request_line : ℕ → Reading → Step
read_request_line b r =
    if b == code "\n" then tell events.Request (to modes.Start r) else noting (notes.Line b) r

-- ---- macros

abbrev pub read_macro_blanks : ℕ → Reading → Step
read_macro_blanks b r = if is_blank b then go r else leave (to modes.MacroGap r)

-- Arguments are separated by spaces; a quote at the beginning groups.
abbrev pub read_macro_gap : ℕ → Reading → Step
read_macro_gap b r =
    if b == code "\n" then go (pending_act pending_acts.Call (to modes.Start r))
    else (if b == code " " then go r
    else (if b == code "\"" then go (to modes.Quoted r)
    else go (pending_act (pending_acts.Put b) (to modes.Word r))))

-- A newline stays after the argument that it ends.
abbrev pub read_word : ℕ → Reading → Step
read_word b r =
    if b == code "\n" then leave (pending_act pending_acts.EndArgument (to modes.MacroGap r))
    else (if b == code " " then go (pending_act pending_acts.EndArgument (to modes.MacroGap r)) else go (pending_act (pending_acts.Put b) r))

abbrev pub read_quoted : ℕ → Reading → Step
read_quoted b r =
    if b == code "\n" then leave (pending_act pending_acts.EndArgument (to modes.MacroGap r))
    else (if b == code "\"" then go (to modes.Quote r) else go (pending_act (pending_acts.Put b) r))

-- Two quotes are one; a single one ends the argument.
abbrev pub read_quote : ℕ → Reading → Step
read_quote b r =
    if b == code "\"" then go (pending_act (pending_acts.Put (code "\"")) (to modes.Quoted r))
    else leave (pending_act pending_acts.EndArgument (to modes.MacroGap r))
