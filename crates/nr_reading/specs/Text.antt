-- Text lines (CSTR 54, 1.1, 4, 10).
use Prim.Native.Char.{code}
use Rattle.std.specs.Prelude.{ℕ, ◌+◌, ◌==◌, ◌-◌, ◌^◌, min, Bool, true, false, if◌then◌else◌}
use Rattle.nr_reading.specs.declared.event.Event.{Event}
use Rattle.nr_reading.specs.declared.event.Event.TheVariants as events
use Rattle.nr_reading.specs.declared.next_item.NextItem.{NextItem}
use Rattle.nr_reading.specs.declared.next_item.NextItem.TheVariants as next_items
use Rattle.nr_reading.specs.declared.mode.PendingAct.TheVariants as pending_acts
use Rattle.nr_reading.specs.declared.mode.Escape.TheVariants as escapes
use Rattle.nr_reading.specs.declared.mode.Mode.{Mode}
use Rattle.nr_reading.specs.declared.mode.Mode.TheVariants as modes
use Rattle.nr_reading.specs.declared.mode.Reading.{Reading}
use Rattle.nr_reading.specs.declared.mode.Signs.{Signs}
use Rattle.nr_reading.specs.Notes as notes
use Rattle.nr_reading.specs.Step.{Step}
use Rattle.nr_reading.specs.Step.{to, escaping, pending_act, go, leave, tell, noting, leave_telling}

-- the next text line continues no word, or does
abbrev pub continuing : Bool → Reading → Reading
continuing b r = record r { continued = b }

-- A `\` begins an escape.
abbrev pub begin_escape : Reading → Step
begin_escape r = go (escaping escapes.Begun r)

-- ---- in the text

-- what begins a line's text, or goes on in it
abbrev pub in_text : Event → Reading → Step
in_text e r = tell e (continuing false (to modes.Text r))

-- ---- a line's beginning

-- Blanks at the beginning of a line: the first causes a break, unless the line continues a word. The line has begun then.
abbrev pub start_blank : Reading → Step
start_blank r =
    if r.continued then tell (events.Byte (code " ")) (continuing false (to modes.Continued r))
    else tell events.Leading (to (modes.Leading 1) r)

-- An empty text line; after `\c` it only ends the word.
abbrev pub start_newline : Reading → Step
start_newline r = if r.continued then tell events.EndContinued (continuing false r) else tell events.Empty r

-- A control line begins with the control character, or with the no-break character: then its request makes no break.
abbrev pub start_control : Bool → Reading → Step
start_control no_break r = noting notes.NewName (record r { mode = modes.Control; no_break = no_break })

abbrev pub start_byte : ℕ → Signs → Reading → Step
start_byte b s r =
    if b == s.control then start_control false r
    else (if b == s.no_break then start_control true r
    else (if b == code "\n" then start_newline r
    else (if b == code "\\" then begin_escape r
    else (if b == code " " then start_blank r
    else in_text (events.Byte b) r))))

-- A cell at a line's beginning is a diverted line. A resume mark and the empty list are taken in here alone.
abbrev pub start : NextItem → Signs → Reading → Step
start next_items.Mark s r = go r
start (next_items.Byte b) s r = start_byte b s r
start (next_items.Cell c) s r = leave_telling events.Diverted (to modes.Diverting r)
start (next_items.LineEnd h) s r = leave_telling events.Diverted (to modes.Diverting r)
start next_items.Resume s r = go r
start next_items.Over s r = leave_telling events.Over r

-- ---- after leading blanks

-- a count of leading blanks: each becomes a cell before the next is taken, so that no line has so many
abbrev pub one_blank_more : ℕ → ℕ
one_blank_more n = min (2 ^ 32 - 1) (n + 1)

-- The line isn't blank: its blanks become cells of the first word.
abbrev pub text_after_blanks : ℕ → Reading → Step
text_after_blanks n r = leave (pending_act (pending_acts.Lead n) (to modes.Text r))

abbrev pub leading_byte : ℕ → ℕ → Reading → Step
leading_byte b n r =
    if b == code "\n" then tell events.Empty (to modes.Start r)
    else (if b == code " " then go (to (modes.Leading (one_blank_more n)) r)
    else (if b == code "\\" then begin_escape r else text_after_blanks n r))

abbrev pub leading : NextItem → ℕ → Reading → Step
leading next_items.Mark n r = go r
leading (next_items.Byte b) n r = leading_byte b n r
leading (next_items.Cell c) n r = text_after_blanks n r
leading (next_items.LineEnd h) n r = tell events.Empty (to modes.Start r)
leading next_items.Resume n r = leave_telling events.Empty (to modes.Start r)
leading next_items.Over n r = leave_telling events.Empty (to modes.Start r)

-- ---- after the blanks of a line that continues a word

abbrev pub end_continued : Reading → Reading
end_continued r = continuing false (to modes.Start r)

abbrev pub continued_byte : ℕ → Reading → Step
continued_byte b r =
    if b == code "\n" then tell events.EndContinued (end_continued r)
    else (if b == code " " then tell (events.Byte (code " ")) r
    else (if b == code "\\" then begin_escape r else in_text (events.Byte b) r))

abbrev pub continued : NextItem → Reading → Step
continued next_items.Mark r = go r
continued (next_items.Byte b) r = continued_byte b r
continued (next_items.Cell c) r = in_text (events.Cell c) r
continued (next_items.LineEnd h) r = tell events.EndContinued (end_continued r)
continued next_items.Resume r = leave_telling events.EndContinued (end_continued r)
continued next_items.Over r = leave_telling events.EndContinued (end_continued r)

-- ---- in a text line

abbrev pub is_interrupted : Mode → Bool
is_interrupted modes.Interrupted = true
is_interrupted m = false

-- The line ends. The next continues its word where `\c` came last.
abbrev pub ended : Reading → Reading
ended r = continuing (is_interrupted r.mode) (to modes.Start r)

abbrev pub end_event : Reading → Event
end_event r = if is_interrupted r.mode then events.EndInterrupted else events.EndLine

abbrev pub text_byte : ℕ → Reading → Step
text_byte b r =
    if b == code "\n" then tell (end_event r) (ended r)
    else (if b == code "\\" then begin_escape r else tell (events.Byte b) (to modes.Text r))

-- Cells inside a text line are cells of the word; a line end, a resume mark and the empty list end the line.
abbrev pub text : NextItem → Reading → Step
text next_items.Mark r = go r
text (next_items.Byte b) r = text_byte b r
text (next_items.Cell c) r = tell (events.Cell c) (to modes.Text r)
text (next_items.LineEnd h) r = tell (end_event r) (ended r)
text next_items.Resume r = leave_telling (end_event r) (ended r)
text next_items.Over r = leave_telling (end_event r) (ended r)
