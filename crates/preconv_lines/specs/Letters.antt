-- What an escape is by the byte after its backslash (the groff manual, Escapes; groff(7)).
use Prim.Native.Char.{code}
use Rattle.std.specs.Prelude.{ℕ, Bool, true, false, not, ◌==◌, ◌&&◌, ◌||◌, if◌then◌else◌}
use Rattle.preconv_characters.specs.declared.said.Said.{Said}
use Rattle.preconv_characters.specs.declared.said.Said.TheVariants as says
use Rattle.preconv_lines.specs.declared.half.Half.{Half}
use Rattle.preconv_lines.specs.declared.half.Line.{Line}
use Rattle.preconv_lines.specs.declared.half.Line.TheVariants as lines
use Rattle.preconv_lines.specs.declared.half.Escape.TheVariants as escapes
use Rattle.preconv_characters.specs.declared.marks.Before.TheVariants.{Character}
use Rattle.preconv_characters.specs.declared.marks.Mark.{Mark}
use Rattle.preconv_characters.specs.declared.marks.Mark.TheVariants.{Backslash, Other}
use Rattle.preconv_lines.specs.declared.half.Kind.TheVariants as kinds
use Rattle.preconv_characters.specs.declared.words.Class.TheVariants as classes
use Rattle.preconv_characters.specs.declared.words.Emitted.{Emitted}
use Rattle.preconv_lines.specs.Half.{Offered, taken, left, is_text, is_read, takes_brace, without_escape}
use Rattle.preconv_lines.specs.Hyphens.{placed, begins_after, leaving_hyphens, may_hang}
use Rattle.preconv_characters.specs.Words.{offered_words, begins_word}
use Rattle.preconv_lines.specs.Endings.{with_byte, keeping, going_on, ended, ends_with, dropped, kept_or}
use Rattle.preconv_lines.specs.Skipping.{skip, embed}
use Rattle.preconv_characters.specs.Likeness.{cut}
use Rattle.preconv_lines.specs.Lines.{control}

abbrev pub comment : Said → Half → Offered
comment said h = taken said (record (without_escape h) { before = Character Other; line = lines.Comment })

-- where nothing has begun after a condition, a newline after a backslash is dropped
abbrev pub hidden_by : Line → Said → Said
hidden_by lines.Part said = says.Nothing
hidden_by lines.Condition said = says.Nothing
hidden_by line said = said

abbrev pub newline_hidden : Half → Offered
newline_hidden h = taken (hidden_by h.line (says.Kept (with_byte (code "\n") h.kept))) (without_escape h)

-- after a condition a part begins
abbrev pub brace : Half → Offered
brace h =
    let m = ends_with (code "{") h in
    if takes_brace h.line then record m { half = record m.half { line = lines.Braced } } else m

-- a blank that is no gap: in a control line it must not end a word
abbrev pub blank : Half → Offered
blank h = ended (says.Escape (if is_text h.line then code " " else code "0")) (placed Other h)

-- an escape with a number or a text: \h at the beginning of a line may make it hang
abbrev pub is_measured : ℕ → Bool
is_measured b =
    (b == code "h") || (b == code "v") || (b == code "w") || (b == code "l") || (b == code "L")
    || (b == code "D") || (b == code "b") || (b == code "x")

abbrev pub measured : ℕ → Half → Offered
measured b h =
    if (b == code "h") && may_hang h then going_on b (escapes.Delimiter kinds.Hang) (leaving_hyphens h)
    else ends_with b (leaving_hyphens h)

-- a name that is dropped: colours, families, devices
abbrev pub is_unnamed : ℕ → Bool
is_unnamed b =
    (b == code "m") || (b == code "M") || (b == code "F") || (b == code "O") || (b == code "V")
    || (b == code "Y")

-- a text that is dropped: the height and slant of letters, devices, new registers
abbrev pub is_skipped : ℕ → Bool
is_skipped b = (b == code "H") || (b == code "R") || (b == code "S") || (b == code "X") || (b == code "Z")

-- in a table `\R` and a character is a field, the character repeated (tbl(1))
abbrev pub repeats : ℕ → Half → Bool
repeats b h = (b == code "R") && is_read h.table

-- `\'` is an acute accent (groff_char(7))
abbrev pub acute : Half → Offered
acute h = kept_or (code "´") (keeping (code "'") h)

abbrev pub is_start : Line → Bool
is_start lines.Start = true
is_start line = false

-- copying a macro's word makes one backslash of two
abbrev pub copied_mark : Line → Mark
copied_mark (lines.Words words) = Backslash
copied_mark line = Other

abbrev pub backslash : Half → Offered
backslash h = ended (says.Kept (with_byte (code "\\") h.kept)) (placed (copied_mark h.line) (keeping (code "\\") h))

-- A text line that begins with `\.` is a control line (groff reads it so), but in a definition it may be one
-- within, and in a table it is a row.
abbrev pub dot : Half → Offered
dot h =
    if h.defining || is_read h.table || not (is_start h.line) then ends_with (code ".") h
    else control false (code ".") (without_escape h)

-- By the byte after the backslash. `\:` is a place to cut a word; `\%` is none after an opening bracket or a
-- quote, where it only keeps a word whole.
abbrev pub letter : ℕ → Half → Offered
letter b h =
    if b == code "(" then going_on b (escapes.Pair kinds.Glyph) h else
    if b == code "[" then going_on b (escapes.Bracket kinds.Glyph) h else
    if b == code "f" then going_on b (escapes.Target kinds.Font) h else
    if b == code "n" then going_on b (escapes.Target kinds.Register) h else
    if b == code "*" then going_on b (escapes.Target kinds.Text) h else
    if b == code "s" then going_on b (escapes.Target kinds.Size) h else
    if b == code "N" then going_on b (escapes.Delimiter kinds.Code) h else
    if b == code "C" then going_on b (escapes.Delimiter kinds.Glyph) h else
    if b == code "A" then going_on b (escapes.Delimiter kinds.Identifier) h else
    if b == code "B" then going_on b (escapes.Delimiter kinds.Number) h else
    if b == code "o" then going_on b (escapes.Delimiter kinds.Overstruck) h else
    if b == code "\\" then backslash h else
    if b == code "?" then embed h else
    if b == code ":" then ended (says.Character cut) h else
    if (b == code ",") || (b == code "/") || (b == code ")") then dropped h else
    if (b == code "%") && begins_after h then dropped h else
    if (b == code " ") || (b == code "~") then blank h else
    if b == code "$" then going_on b escapes.Argument h else
    if b == code "{" then brace h else
    if b == code "'" then acute h else
    if b == code "." then dot h else
    if is_unnamed b then going_on b (escapes.Target kinds.Dropped) h else
    if is_skipped b && not (repeats b h) then skip h else
    if is_measured b then measured b h else ends_with b h

-- the line goes on before the escape is read: a word begins, or a condition is a number
abbrev pub waits : Line → Bool
waits (lines.Words words) = begins_word words
waits lines.Condition = true
waits line = false

abbrev pub word_made : Emitted → Half → Offered
word_made emitted h = left emitted.said (record h { line = lines.Words emitted.words })

abbrev pub made_way : Line → Half → Offered
made_way (lines.Words words) h = word_made (offered_words classes.Other says.Nothing words) h
made_way lines.Condition h = left says.Nothing (record h { line = lines.Number })
made_way line h = left says.Nothing h

abbrev pub is_stored : Line → Bool
is_stored lines.Stored = true
is_stored line = false

abbrev pub is_text_line : Line → Bool
is_text_line lines.Text = true
is_text_line lines.Fonts = true
is_text_line line = false

-- In a definition, and in the text of a string, an escape may have several backslashes. In a text line a note
-- hides its newline.
abbrev pub after_backslash : ℕ → Half → Offered
after_backslash b h =
    if b == code "\n" then newline_hidden h else
    if (b == code "\\") && (h.defining || is_stored h.line) then going_on b escapes.Begun h else
    if b == code "\"" then comment (says.Kept (with_byte b h.kept)) h else
    if (b == code "#") && is_text_line h.line then taken says.Nothing (record h { escape = escapes.Note })
    else
    if b == code "#" then comment (says.Comment (is_start h.line)) h else
    if waits h.line then made_way h.line h else letter b h
