-- Hyphens of a manual page: a line may be broken after one only where it stands between two letters
-- (groff(7), `.cflags`). A text line may hang to the left of its paragraph.
use Prim.Native.Char.{code}
use Rattle.std.specs.Prelude.{ℕ, [], ◌∷◌, Bool, true, false, not, ◌==◌, ◌&&◌, ◌||◌, if◌then◌else◌, codes}
use Rattle.preconv_characters.specs.declared.said.Said.TheVariants as says
use Rattle.preconv_lines.specs.declared.half.Half.{Half}
use Rattle.preconv_lines.specs.declared.half.Line.{Line}
use Rattle.preconv_lines.specs.declared.half.Line.TheVariants as lines
use Rattle.preconv_characters.specs.declared.marks.Before.{Before}
use Rattle.preconv_characters.specs.declared.marks.Before.TheVariants.{Character, Argument}
use Rattle.preconv_characters.specs.declared.marks.Mark.{Mark}
use Rattle.preconv_characters.specs.declared.marks.Mark.TheVariants.{Letter, Opening, Quote, Closed}
use Rattle.preconv_characters.specs.declared.marks.Mark.TheVariants.{Backslash, Other}
use Rattle.preconv_lines.specs.declared.half.TablePart.{TablePart}
use Rattle.preconv_lines.specs.declared.half.TablePart.TheVariants as tables
use Rattle.preconv_lines.specs.declared.half.Escape.TheVariants as escapes
use Rattle.preconv_characters.specs.Marks.{is_ascii_letter, mark_of, wide_mark, followed}
use Rattle.preconv_lines.specs.Half.{Offered, taken, left, next_line, is_whole, is_read, is_format}
use Rattle.preconv_lines.specs.Half.{is_separated, table_after, character_said, without_escape, abandoned}
use Rattle.preconv_lines.specs.Translations.{translated}
use Rattle.preconv_characters.specs.Words.{has_hyphens as words_have}

-- ---- what stands before the next character

-- a character is read
abbrev pub placed : Mark → Half → Half
placed mark h = if h.manual then record h { before = followed mark h.before } else h

-- a line ends
abbrev pub line_after : Half → Half
line_after h = record h { before = Character Other; tag = next_line h.tag; table = table_after h.table h.before }

abbrev pub gone_by : ℕ → Half → Half
gone_by b h = if b == code "\n" then line_after h else placed (mark_of b) h

-- a word begins there that no blank stands before
abbrev pub is_begun : Before → Bool
is_begun (Character Opening) = true
is_begun (Character Quote) = true
is_begun before = false

abbrev pub begins_after : Half → Bool
begins_after h = is_begun h.before

-- After an escape with a number or a text hyphens may stand in its argument: up to the end of the line they
-- stay as they are.
abbrev pub leaving_hyphens : Half → Half
leaving_hyphens h = if h.manual then record h { before = Argument } else h

-- ---- hyphens

-- they are read after a title, and in no table whose fields a hyphen separates
abbrev pub turns_hyphens : Half → Bool
turns_hyphens h = h.manual && not (is_separated h.table)

-- text is that of a manual page, and of no table
abbrev pub is_flowing : Half → Bool
is_flowing h = h.manual && not (is_read h.table)

-- After a letter what comes decides, but in a tag or an address; else it goes out as `\-`, after which no
-- line is broken. One that copying a macro's word makes `\-` stays.
abbrev pub hyphen_by : Before → Half → Offered
hyphen_by (Character Letter) h =
    if is_whole h.tag then taken (says.Escape (code "-")) (record h { before = Character Other })
    else taken says.Nothing (record h { before = Character Other; escape = escapes.Hyphen; kept = code "-" ∷ [] })
hyphen_by (Character Backslash) h = taken (says.Byte (code "-")) (record h { before = Character Other })
hyphen_by (Character mark) h = taken (says.Escape (code "-")) (record h { before = Character Other })
hyphen_by Argument h = taken (says.Byte (code "-")) h

-- in a format one stays, and after a bracket, as in `tab(-)`, it separates fields
abbrev pub separated_by : Before → TablePart
separated_by (Character Opening) = tables.Separated
separated_by before = tables.Format

abbrev pub hyphen_at : Bool → Before → Half → Offered
hyphen_at true before h =
    taken (says.Byte (code "-")) (record h { before = Character Other; table = separated_by before })
hyphen_at false before h = hyphen_by before h

abbrev pub has_hyphens : Line → Bool
has_hyphens (lines.Words words) = words_have words
has_hyphens line = true

-- in a number it is a sign
abbrev pub hyphen : Line → Half → Offered
hyphen line h =
    if not (has_hyphens line) then taken (says.Byte (code "-")) (record h { line = line })
    else hyphen_at (is_format h.table) h.before (record h { line = line })

-- between letters it stays, and so does one before an escape, which may be that of a font
abbrev pub after_hyphen : ℕ → Half → Offered
after_hyphen b h =
    if is_ascii_letter b || (b == code "\\") then abandoned h
    else left (says.Escape (code "-")) (without_escape h)

-- ---- text lines

abbrev pub saying : ℕ → Line → Half → Offered
saying b line h = taken (says.Byte b) (record (gone_by b h) { line = line })

-- a character goes out as what it looks like, and the line goes on so
abbrev pub showing : ℕ → Line → Half → Offered
showing c line h = taken (character_said h.line c) (record (placed (wide_mark c) h) { line = line })

-- A carriage return is dropped, and a byte may be translated.
abbrev pub carriage_return : ℕ
carriage_return = 13

abbrev pub is_moved : ℕ → Half → Bool
is_moved b h = (b == carriage_return) || (h.translating && not (translated b h.translations == 0))

abbrev pub moved : ℕ → Half → Offered
moved b h = if b == carriage_return then taken says.Nothing h else showing (translated b h.translations) lines.Text h

-- The language ends a sentence with `.`, `?` or `!` alone, groff also with what closes after it. So the
-- newline waits for what comes: after it a word of the sentence that begins stands two blanks apart where
-- lines are filled (tmac.an, `.1`).
abbrev pub is_closed : Before → Bool
is_closed (Character Closed) = true
is_closed before = false

abbrev pub closes : Half → Bool
closes h = is_flowing h && not h.defining && is_closed h.before

abbrev pub newline_held : Half → Offered
newline_held h =
    taken says.Nothing (record (gone_by (code "\n") h)
    { line = lines.Start; escape = escapes.Sentence; kept = code "\n" ∷ [] })

-- a blank or an empty line breaks
abbrev pub after_sentence : ℕ → Half → Offered
after_sentence b h =
    left (says.Kept (if (b == code " ") || (b == code "\n") then code "\n" ∷ [] else codes "\\*(.\\n(.u\n"))
    (without_escape h)

abbrev pub in_text : ℕ → Half → Offered
in_text b h =
    if is_moved b h then moved b h else
    if b == code "\n" then (if closes h then newline_held h else saying b lines.Start h) else
    if turns_hyphens h && (b == code "-") then hyphen lines.Text h else saying b lines.Text h

-- ---- a text line that hangs

-- only a line that begins in no condition, or after its `\{`, may become two
abbrev pub begins_line : Line → Bool
begins_line lines.Start = true
begins_line lines.Braced = true
begins_line line = false

abbrev pub may_hang : Half → Bool
may_hang h = is_flowing h && begins_line h.line
