-- Escapes in text (CSTR 54, escape sequences; the groff manual, Escapes).
use Prim.Native.Char.{code}
use Rattle.std.specs.Prelude.{ℕ, ◌==◌, ◌&&◌, ◌||◌, Bool, true, false, if◌then◌else◌, Option, None, Some}
use Rattle.nr_reading.specs.declared.ask.Ask.{Ask}
use Rattle.nr_reading.specs.declared.ask.Kind.{Kind}
use Rattle.nr_reading.specs.declared.ask.Kind.TheVariants as kinds
use Rattle.nr_reading.specs.declared.ask.Sign.TheVariants as signs
use Rattle.nr_reading.specs.declared.event.Event.{Event}
use Rattle.nr_reading.specs.declared.event.Event.TheVariants as events
use Rattle.nr_reading.specs.declared.next_item.NextItem.{NextItem}
use Rattle.nr_reading.specs.declared.next_item.NextItem.TheVariants as next_items
use Rattle.nr_reading.specs.declared.mode.Escape.TheVariants as escapes
use Rattle.nr_reading.specs.declared.mode.Mode.{Mode}
use Rattle.nr_reading.specs.declared.mode.Mode.TheVariants as modes
use Rattle.nr_reading.specs.declared.mode.Reading.{Reading}
use Rattle.nr_reading.specs.Notes as notes
use Rattle.nr_reading.specs.Step.{Step}
use Rattle.nr_reading.specs.Ask.{begun_ask, bracketed_ask}
use Rattle.nr_reading.specs.Step.{to, escaping, go, leave, tell, noting}
use Rattle.nr_reading.specs.Text.{continuing, text_after_blanks}

-- the escape has ended
abbrev pub plain : Reading → Reading
plain r = escaping escapes.Plain r

-- ---- what vanishes or is spliced: it begins no line

-- what is interpolated, by the byte after `\`
abbrev pub interpolated : ℕ → Option Kind
interpolated b =
    if b == code "n" then Some (kinds.Register signs.None)
    else (if b == code "*" then Some kinds.String
    else (if b == code "$" then Some kinds.Argument
    else (if b == code "w" then Some kinds.Width else None)))

-- ---- the other escapes

-- an escape whose argument is still to be read, by the byte after `\`
abbrev pub asked_in_text : ℕ → Bool → Option Ask
asked_in_text b long =
    if b == code "(" then Some (begun_ask kinds.Special)
    else (if (b == code "[") && long then Some bracketed_ask
    else (if b == code "f" then Some (begun_ask kinds.Font)
    else (if b == code "k" then Some (begun_ask kinds.Mark)
    else (if b == code "h" then Some (begun_ask kinds.Horizontal)
    else (if b == code "l" then Some (begun_ask kinds.Rule)
    else (if (b == code "v") || (b == code "x") || (b == code "b") || (b == code "o") || (b == code "L")
    || (b == code "D") then Some (begun_ask kinds.Ignored)
    else (if b == code "s" then Some (begun_ask kinds.Size) else None)))))))

-- `| ^ ! d u r z { } c`: nothing
abbrev pub is_nothing : ℕ → Bool
is_nothing b =
    (b == code "|") || (b == code "^") || (b == code "!") || (b == code "d") || (b == code "u")
    || (b == code "r") || (b == code "z") || (b == code "{") || (b == code "}") || (b == code "c")

-- `- . ' ` and the grave accent: cells of their own
abbrev pub is_plain : ℕ → Bool
is_plain b = (b == code "-") || (b == code ".") || (b == code "'") || (b == code "`")

-- what any other byte after `\` tells: the byte as text; in a title a cell, and no delimiter
abbrev pub other_byte : Bool → ℕ → Event
other_byte titled b =
    if b == code "\t" then events.Tab
    else (if b == 1 then events.Leader
    else (if titled then events.Plain b else events.Byte b))

-- what an escape without an argument tells
abbrev pub event_after : ℕ → Bool → Event
event_after b titled =
    if (b == code "\\") || (b == code "e") then events.Plain (code "\\")
    else (if b == code "&" then events.Zero
    else (if (b == code " ") || (b == code "0") then events.Fixed
    else (if is_nothing b then events.Nothing
    else (if is_plain b then events.Plain b
    else (if b == code "%" then events.Percent
    else (if b == code "p" then events.BreakWord
    else (if b == code "a" then events.Leader
    else (if b == code "t" then events.Tab else other_byte titled b))))))))

abbrev pub is_titled : Mode → Bool
is_titled modes.TitleBefore = true
is_titled (modes.Title d n) = true
is_titled m = false

-- `\c` comes last in a text line
abbrev pub after_escape : ℕ → Mode → Mode
after_escape b modes.Text = if b == code "c" then modes.Interrupted else modes.Text
after_escape b m = m

-- an escape in the text itself
abbrev pub escape_in_text : ℕ → Option Ask → Reading → Step
escape_in_text b (Some a) r = noting (notes.Begin a) (plain r)
escape_in_text b None r = tell (event_after b (is_titled r.mode)) (plain (to (after_escape b r.mode) r))

-- `\!` at the beginning of a line passes the rest of it on.
abbrev pub escape_at_start : ℕ → Reading → Step
escape_at_start b r =
    if b == code "!" then go (plain (to modes.Transparent r)) else leave (continuing false (to modes.Text r))

-- Any other escape begins the line's text, and a `\c` before it isn't the last.
abbrev pub escape_by : ℕ → Bool → Mode → Reading → Step
escape_by b long modes.Start r = escape_at_start b r
escape_by b long modes.Diverting r = escape_at_start b r
escape_by b long (modes.Leading n) r = text_after_blanks n r
escape_by b long modes.Continued r = leave (continuing false (to modes.Text r))
escape_by b long modes.Interrupted r = leave (to modes.Text r)
escape_by b long m r = escape_in_text b (asked_in_text b long) r

abbrev pub spliced_or : ℕ → Option Kind → Bool → Reading → Step
spliced_or b (Some k) long r = noting (notes.Begin (begun_ask k)) (plain r)
spliced_or b None long r =
    if b == code "\n" then go (plain r)
    else (if b == code "\"" then go (escaping escapes.Comment r) else escape_by b long r.mode r)

-- a byte after `\`
abbrev pub escaped_byte : ℕ → Bool → Reading → Step
escaped_byte b long r = spliced_or b (interpolated b) long r

-- A `\` before a cell, a line end, a resume mark or the end of the input is nothing, but the line isn't empty.
abbrev pub lone_escape : Mode → Reading → Step
lone_escape modes.Start r = leave (plain (continuing false (to modes.Text r)))
lone_escape modes.Diverting r = leave (plain (continuing false (to modes.Text r)))
lone_escape (modes.Leading n) r = text_after_blanks n (plain r)
lone_escape modes.Continued r = leave (plain (continuing false (to modes.Text r)))
lone_escape modes.Interrupted r = leave (plain (to modes.Text r))
lone_escape m r = leave (plain r)

-- the item after `\`; an end mark is taken before what is after it is looked at
abbrev pub escaped : NextItem → Bool → Reading → Step
escaped next_items.Mark long r = go r
escaped (next_items.Byte b) long r = escaped_byte b long r
escaped f long r = lone_escape r.mode r
