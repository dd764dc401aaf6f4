-- How the name in an escape is spelled (the groff manual, Identifiers): by one byte, two, or between
-- delimiters.
use Prim.Native.Char.{code}
use Rattle.std.specs.Prelude.{ℕ, ◌-◌, [], ◌∷◌, length, take, Bool, true, false, not, ◌==◌, ◌&&◌, ◌||◌}
use Rattle.std.specs.Prelude.{if◌then◌else◌}
use Rattle.preconv_characters.specs.declared.said.Said.TheVariants as says
use Rattle.preconv_lines.specs.declared.half.Half.{Half}
use Rattle.preconv_lines.specs.declared.half.Escape.TheVariants as escapes
use Rattle.preconv_lines.specs.declared.half.Kind.{Kind}
use Rattle.preconv_lines.specs.declared.half.Kind.TheVariants as kinds
use Rattle.preconv_lines.specs.Half.{Offered, taken, left, without_escape, in_text, abandoned}
use Rattle.preconv_lines.specs.Endings.{keeping, spelling, going_on, ended_size}
use Rattle.preconv_lines.specs.Faces.{font_named}
use Rattle.preconv_lines.specs.Named.{named}

-- a name of one byte; the language has sizes of one digit
abbrev pub named_once : Kind → Half → Offered
named_once kinds.Size h = ended_size h
named_once kind h = named kind h

abbrev pub named_by : Kind → ℕ → Half → Offered
named_by kind b h = named_once kind (spelling b (keeping b h))

abbrev pub has_sign : Kind → Bool
has_sign kinds.Register = true
has_sign kinds.Size = true
has_sign kind = false

abbrev pub is_size : Kind → Bool
is_size kinds.Size = true
is_size kind = false

abbrev pub is_dropped : Kind → Bool
is_dropped kinds.Dropped = true
is_dropped kind = false

-- one of these escapes gives a name where it stands: a string, a register, an argument, or what the line goes
-- on with
abbrev pub gives_name : ℕ → Bool
gives_name b =
    (b == code "*") || (b == code "n") || (b == code "$") || (b == code "\\") || (b == code "\"") || (b == code "#")
    || (b == code "\n")

abbrev pub escaped : Kind → Half → Offered
escaped kinds.Font h = going_on (code "\\") escapes.FontEscape (spelling (code "\\") h)
escaped kind h = abandoned h

-- The name of no font: what comes is text.
abbrev pub font_left : Half → Offered
font_left h = record (font_named h) { takes = false }

abbrev pub font_given : Half → Offered
font_given h =
    left (says.Kept (take (length h.kept - 1) h.kept))
    (record (in_text (without_escape h)) { escape = escapes.Begun; kept = code "\\" ∷ [] })

abbrev pub font_escape : ℕ → Half → Offered
font_escape b h = if gives_name b then font_given h else font_left h

-- One that another escape gives, as `\f\*B`, is left to the formatter; before any other letter the backslash
-- itself is a font's name.
abbrev pub target : Kind → ℕ → Half → Offered
target kind b h =
    if b == code "\n" then abandoned h else
    if (b == code "\\") && not (is_dropped kind) then escaped kind h else
    if b == code "(" then going_on b (escapes.Pair kind) h else
    if b == code "[" then going_on b (escapes.Bracket kind) h else
    if ((b == code "+") || (b == code "-")) && has_sign kind then going_on b (escapes.Target kind) h else
    if (b == code "'") && is_size kind then going_on b (escapes.Delimited kind b) h else named_by kind b h

abbrev pub paired : Kind → Half → Offered
paired kind h = if length h.spelled == 2 then named kind h else taken says.Nothing h

abbrev pub pair : Kind → ℕ → Half → Offered
pair kind b h = if b == code "\n" then abandoned h else paired kind (spelling b (keeping b h))

-- what hangs by an escape in another is read as it stands
abbrev pub is_hang_kind : Kind → Bool
is_hang_kind kinds.Hang = true
is_hang_kind kind = false

abbrev pub spelled_up_to : ℕ → Kind → ℕ → Half → Offered
spelled_up_to end kind b h =
    if b == code "\n" then abandoned h else
    if (b == code "\\") && is_hang_kind kind then abandoned h else
    if b == end then named kind (keeping b h) else taken says.Nothing (spelling b (keeping b h))

abbrev pub delimiter : Kind → ℕ → Half → Offered
delimiter kind b h = if b == code "\n" then abandoned h else going_on b (escapes.Delimited kind b) h

abbrev pub bracketed : Kind → ℕ → Half → Offered
bracketed kind b h =
    if b == code "[" then going_on b (escapes.Nested kind) h else spelled_up_to (code "]") kind b h

abbrev pub nested : Kind → ℕ → Half → Offered
nested kind b h =
    if b == code "\n" then abandoned h else
    if b == code "]" then going_on b (escapes.Bracket kind) h else taken says.Nothing (keeping b h)
