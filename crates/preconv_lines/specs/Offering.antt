-- A character is offered to what is half read.
use Prim.Native.Char.{code}
use Rattle.std.specs.Prelude.{ℕ, [], ◌∷◌, Bool, true, false, not, ◌==◌, ◌&&◌, ◌||◌, nat_lt, if◌then◌else◌}
use Rattle.preconv_characters.specs.declared.said.Said.TheVariants.{Nothing}
use Rattle.preconv_lines.specs.declared.half.Half.{Half}
use Rattle.preconv_lines.specs.declared.half.Coming.{Coming}
use Rattle.preconv_lines.specs.declared.half.Coming.TheVariants.{Byte, Wide}
use Rattle.preconv_lines.specs.declared.half.Escape.{Escape}
use Rattle.preconv_lines.specs.declared.half.Escape.TheVariants as escapes
use Rattle.preconv_lines.specs.declared.half.Line.{Line}
use Rattle.preconv_lines.specs.declared.half.Line.TheVariants as lines
use Rattle.preconv_lines.specs.Half.{Offered, taken, abandoned, is_plain, is_open}
use Rattle.preconv_lines.specs.Hyphens.{gone_by, turns_hyphens, carriage_return, closes, after_sentence}
use Rattle.preconv_characters.specs.Words.{is_as_is as word_as_is, taken_as_is as word_taken}
use Rattle.preconv_lines.specs.Spelling.{font_left}
use Rattle.preconv_lines.specs.Escapes.{in_escape}
use Rattle.preconv_lines.specs.Lines.{is_control, follows_tag, begins_apart, in_line, wide_in_line}
use Rattle.preconv_lines.specs.Lines.{takes_escape}

abbrev pub beginning : Half → Offered
beginning h = taken Nothing (record h { escape = escapes.Begun; kept = code "\\" ∷ []; spelled = [] })

-- an ASCII character: it goes on an escape, begins one, or goes on its line
abbrev pub plain_byte : ℕ → Half → Offered
plain_byte b h = if (b == code "\\") && takes_escape h.line then beginning h else in_line b h

abbrev pub offer_byte : ℕ → Half → Offered
offer_byte b h = if is_plain h.escape then plain_byte b h else in_escape b h

-- another character is in the name of no escape
abbrev pub wide_by : Escape → ℕ → Half → Offered
wide_by escapes.Plain c h = wide_in_line c h
wide_by escapes.Skip c h = taken Nothing h
wide_by (escapes.Skipped end) c h = taken Nothing h
wide_by (escapes.Embedded backslash) c h = taken Nothing h
wide_by escapes.Note c h = taken Nothing h
wide_by escapes.FontEscape c h = font_left h
wide_by escapes.Sentence c h = after_sentence (code "?") h
wide_by escape c h = abandoned h

abbrev pub offer_wide : ℕ → Half → Offered
offer_wide c h = wide_by h.escape c h

abbrev pub offer : Coming → Half → Offered
offer (Byte b) h = offer_byte b h
offer (Wide c) h = offer_wide c h

-- ---- an ASCII character that goes out as it is and is taken at once

-- in a text line: no hyphen that is read, and no newline that waits
abbrev pub is_text_as_is : ℕ → Half → Bool
is_text_as_is b h = (not (turns_hyphens h) || not (b == code "-")) && (not (closes h) || not (b == code "\n"))

-- of ASCII, but for a carriage return
abbrev pub may_pass : ℕ → Bool
may_pass b = nat_lt b 127 && not (b == carriage_return)

abbrev pub is_as_is_at : Line → ℕ → Half → Bool
is_as_is_at lines.Request b h = true
is_as_is_at lines.Stored b h = true
is_as_is_at lines.Text b h = is_text_as_is b h
is_as_is_at lines.Fonts b h = not (b == code " ") && is_text_as_is b h
is_as_is_at lines.Start b h = not (is_control b) && is_text_as_is b h && not (follows_tag h && begins_apart b)
is_as_is_at (lines.Words words) b h = word_as_is b words
is_as_is_at line b h = false

abbrev pub is_as_is : ℕ → Half → Bool
is_as_is b h = may_pass b && not (b == code "\\") && is_open h && is_as_is_at h.line b h

abbrev pub line_on : Line → ℕ → Line
line_on lines.Start b = lines.Text
line_on lines.Fonts b = lines.Text
line_on (lines.Words words) b = lines.Words (word_taken b words)
line_on line b = line

abbrev pub line_taken : Line → ℕ → Line
line_taken line b = if b == code "\n" then lines.Start else line_on line b

-- it is taken: its line goes on, or ends
abbrev pub taken_as_is : ℕ → Half → Half
taken_as_is b h = gone_by b (record h { line = line_taken h.line b })

-- ---- comments and ignored lines: bytes pass as they are

abbrev pub is_raw : Line → Bool
is_raw lines.Comment = true
is_raw (lines.Ignored dots) = true
is_raw line = false
