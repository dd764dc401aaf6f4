-- Definitions of macros (CSTR 54, 7.1; the groff manual, Writing Macros).
use Prim.Native.Char.{code}
use Rattle.std.specs.Prelude.{ℕ, ◌+◌, ◌==◌, ◌&&◌, ◌||◌, not, nat_lt, Bool, if◌then◌else◌, List, [], ◌∷◌, length, slice_index, Option, None, Some}
use Rattle.nr_reading.specs.declared.mode.PendingAct.{PendingAct}
use Rattle.nr_reading.specs.declared.mode.PendingAct.TheVariants as pending_acts
use Rattle.nr_reading.specs.declared.mode.Mode.{Mode}
use Rattle.nr_reading.specs.declared.mode.Mode.TheVariants as modes
use Rattle.nr_reading.specs.declared.mode.Reading.{Reading}
use Rattle.nr_reading.specs.declared.notes.Defining.{Defining}
use Rattle.nr_reading.specs.Step.{Step}
use Rattle.nr_reading.specs.Spelled.{is_blank, is_empty}
use Rattle.nr_reading.specs.Step.{to, pending_act, go, leave}

-- the first bytes of the line that ends the definition: `.` and a name, or two dots
abbrev pub last_line : Defining → List ℕ
last_line d = code "." ∷ (if is_empty d.ending then code "." ∷ [] else d.ending)

-- a blank or the newline has to follow them
abbrev pub ends_whole : Defining → Bool
ends_whole d = d.long && not (is_empty d.ending)

-- a byte of the text, where it is kept
abbrev pub kept_byte : Defining → ℕ → PendingAct
kept_byte d b = if d.keeps then pending_acts.Add b else pending_acts.Look

-- bytes that were held back, and then perhaps another
abbrev pub released : Defining → ℕ → Option ℕ → PendingAct
released d held b = if d.keeps then pending_acts.Release held 0 b else pending_acts.Look

abbrev pub in_body : ℕ → Mode
in_body b = if b == code "\n" then modes.BodyStart 0 else modes.Body

-- the line is not the last: the bytes that were held back belong to the text
abbrev pub not_last : ℕ → Defining → ℕ → Reading → Step
not_last b d held r =
    if held == 0 then go (pending_act (kept_byte d b) (to (in_body b) r))
    else go (pending_act (released d held (Some b)) (to (in_body b) r))

-- one more byte of the last line came
abbrev pub nearer_last : Defining → ℕ → Mode
nearer_last d held = if (held + 1 == length (last_line d)) && not (ends_whole d) then modes.BodyEnd
    else modes.BodyStart (held + 1)

-- The bytes that may begin the last line are held back.
abbrev pub read_body_start : ℕ → Defining → ℕ → Reading → Step
read_body_start b d held r =
    if nat_lt held (length (last_line d)) then
    (if b == slice_index (last_line d) held then go (to (nearer_last d held) r) else not_last b d held r)
    else (if (b == code "\n") || is_blank b then leave (to modes.BodyEnd r) else not_last b d held r)

abbrev pub read_body : ℕ → Defining → Reading → Step
read_body b d r = go (pending_act (kept_byte d b) (to (in_body b) r))

-- The rest of the last line is dropped; then the text takes its name; then the macro that ended it is called.
abbrev pub read_body_end : ℕ → Reading → Step
read_body_end b r = if b == code "\n" then go (pending_act pending_acts.DefineAndCall (to modes.Start r)) else go r

-- A definition that is open at the end of the input is kept as far as it was read.
abbrev pub over_body_start : Defining → ℕ → Reading → Step
over_body_start d held r =
    if held == 0 then leave (pending_act pending_acts.Define (to modes.Start r))
    else (if nat_lt held (length (last_line d)) then leave (pending_act (released d held None) (to modes.Body r))
    else leave (to modes.BodyEnd r))
