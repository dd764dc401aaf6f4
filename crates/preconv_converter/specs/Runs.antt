-- Runs of bytes that only go on a line.
use Prim.Native.Char.{code}
use Rattle.std.specs.Prelude.{ℕ, suc, List, [], ◌∷◌, get_or, Bool, true, false, not, ◌==◌, ◌&&◌, ◌||◌, nat_lt}
use Rattle.std.specs.Prelude.{if◌then◌else◌, min}
use Rattle.std.specs.List.{prefix_len}
use Rattle.nr_units.specs.Name.{capacity}
use Rattle.preconv_lines.specs.declared.half.Half.{Half}
use Rattle.preconv_lines.specs.declared.half.Line.{Line}
use Rattle.preconv_lines.specs.declared.half.Line.TheVariants as lines
use Rattle.preconv_characters.specs.declared.words.Words.{Words}
use Rattle.preconv_characters.specs.declared.marks.Before.{Before}
use Rattle.preconv_characters.specs.declared.marks.Before.TheVariants.{Character, Argument}
use Rattle.preconv_characters.specs.declared.marks.Mark.{Mark}
use Rattle.preconv_characters.specs.declared.marks.Mark.TheVariants.{Stop, Other}
use Rattle.preconv_lines.specs.Half.{is_plain, is_open, without_escape, in_text, in_fonts}
use Rattle.preconv_characters.specs.Marks.{mark_of, is_stop}
use Rattle.preconv_lines.specs.Hyphens.{placed, gone_by}
use Rattle.preconv_lines.specs.Faces.{faced}
use Rattle.preconv_characters.specs.Numbers.{is_within}
use Rattle.preconv_characters.specs.declared.beginnings.Opens.{Opens}
use Rattle.preconv_lines.specs.Lines.{ends_name, opening}
use Rattle.preconv_lines.specs.Offering.{taken_as_is}
use Rattle.preconv_characters.specs.declared.words.Place.{Place}
use Rattle.preconv_characters.specs.declared.words.Place.TheVariants.{Between}
use Rattle.preconv_characters.specs.Words.{class_of, goes_on_with, begins_word, inside}

-- a printing byte that is neither a hyphen, a backslash nor what closes a sentence
abbrev pub goes_on_text : ℕ → Bool
goes_on_text b =
    is_within (code " ") (code "!") b || is_within (code "#") (code "&") b || (b == code "(")
    || is_within (code "+") (code ",") b || is_within (code ".") (code "[") b
    || is_within (code "^") (code "~") b

abbrev pub goes_on_word : Words → ℕ → Bool
goes_on_word words b = goes_on_text b && goes_on_with (class_of b) words

-- what closes a sentence after a stop
abbrev pub may_close : ℕ → Bool
may_close b = (b == code "\"") || (b == code "'") || (b == code ")") || (b == code "*") || (b == code "]")

-- so it goes on a text line or a request after another byte
abbrev pub goes_on_after : ℕ → ℕ → Bool
goes_on_after a b = goes_on_text b || (may_close b && not (is_stop a))

-- how many bytes come first, after this one, that only go on such a line
abbrev pub run_after : ℕ → List ℕ → ℕ
run_after a [] = 0
run_after a (b ∷ bs) = if goes_on_after a b then suc (run_after b bs) else 0

-- the byte before a place
abbrev pub byte_before : List ℕ → ℕ → ℕ
byte_before bs place = get_or (code "." ∷ bs) place 0

-- where it is not known, a stop may stand before them
abbrev pub text_run : List ℕ → ℕ
text_run bs = run_after (code ".") bs

-- how many bytes come first that only go on a line
abbrev pub run_at : Line → List ℕ → ℕ
run_at lines.Text bs = text_run bs
run_at lines.Request bs = text_run bs
run_at lines.Stored bs = text_run bs
run_at (lines.Words words) bs = prefix_len (goes_on_word words) bs
run_at line bs = 0

abbrev pub run_len : List ℕ → Half → ℕ
run_len bs h = if is_open h then run_at h.line bs else 0

-- the last of them stands before the next character
abbrev pub last_before : Mark → Before → Before
last_before mark Argument = Argument
last_before mark (Character before) = Character mark

abbrev pub after_run : ℕ → Half → Half
after_run b h = if h.manual then record h { before = last_before (mark_of b) h.before } else h

-- ---- comments

abbrev pub goes_on_comment : ℕ → Bool
goes_on_comment b = nat_lt b 127 && not (b == code "\n")

abbrev pub comment_at : Line → List ℕ → ℕ
comment_at lines.Comment bs = prefix_len goes_on_comment bs
comment_at line bs = 0

-- how many bytes come first that only go on a comment
abbrev pub comment_len : List ℕ → Half → ℕ
comment_len bs h = comment_at h.line bs

-- ---- names of control lines

abbrev pub goes_on_name : ℕ → Bool
goes_on_name b = nat_lt b 127 && not (ends_name b)

-- what is said for such a line up to the end of its name
abbrev pub dot : List ℕ
dot = code "." ∷ []

-- how long the name is after a dot, which doesn't begin with one
abbrev pub dotted_len : List ℕ → ℕ
dotted_len [] = 0
dotted_len (a ∷ []) = 0
dotted_len (a ∷ first ∷ bs) =
    if (a == code ".") && not (first == code ".") then min (prefix_len goes_on_name (first ∷ bs)) capacity
    else 0

abbrev pub is_start : Line → Bool
is_start lines.Start = true
is_start line = false

abbrev pub name_len : List ℕ → Half → ℕ
name_len bs h = if is_plain h.escape && is_start h.line then dotted_len bs else 0

-- the dot and the name were read
abbrev pub after_name : List ℕ → Half → Half
after_name name h = record (placed Stop h) { conditional = false; name = name; line = lines.Name }

abbrev pub is_end : ℕ → Bool
is_end b = (b == code " ") || (b == code "\n")

-- the dot, a name that opens so, and what ended it
abbrev pub after_control : Opens → ℕ → Half → Half
after_control o b h = taken_as_is b (opening o b (after_name [] h))

-- ---- comments that begin a line

abbrev pub begins_comment : List ℕ → Bool
begins_comment [] = false
begins_comment (a ∷ []) = false
begins_comment (a ∷ b ∷ []) = false
begins_comment (a ∷ b ∷ c ∷ bs) = (a == code ".") && (b == code "\\") && (c == code "\"")

abbrev pub after_comment : Half → Half
after_comment h = record (without_escape h) {
  name = [];
  conditional = false;
  before = Character Other;
  line = lines.Comment;
}

-- ---- words that begin

abbrev pub is_between : Place → Bool
is_between Between = true
is_between place = false

-- up to the eighth
abbrev pub begins_word_with : Words → ℕ → Bool
begins_word_with w b =
    goes_on_text b && not (b == code " ") && not (b == code "\"") && is_between w.place && nat_lt w.count 8

abbrev pub after_word : Words → ℕ → Half → Half
after_word w b h = record (gone_by b h) { line = lines.Words (inside w) }

-- ---- escapes that go out as they are: those of two bytes, and fonts

-- no word begins with it
abbrev pub takes_plain_at : Line → Bool
takes_plain_at lines.Start = true
takes_plain_at lines.Fonts = true
takes_plain_at lines.Text = true
takes_plain_at lines.Request = true
takes_plain_at (lines.Words words) = not (begins_word words)
takes_plain_at line = false

abbrev pub takes_plain_escape : Half → Bool
takes_plain_escape h = if is_plain h.escape then takes_plain_at h.line else false

-- the minus sign, what prints nothing, a thin blank, what goes on a line, a backslash
abbrev pub is_kept : ℕ → Bool
is_kept b =
    (b == code "-") || (b == code "&") || (b == code "|") || (b == code "c") || (b == code "e")

abbrev pub begins_kept : List ℕ → Bool
begins_kept [] = false
begins_kept (a ∷ []) = false
begins_kept (a ∷ b ∷ bs) = (a == code "\\") && is_kept b

abbrev pub is_font : ℕ → Bool
is_font b = (b == code "B") || (b == code "I") || (b == code "P") || (b == code "R")

abbrev pub begins_font : List ℕ → Bool
begins_font [] = false
begins_font (a ∷ []) = false
begins_font (a ∷ b ∷ []) = false
begins_font (a ∷ b ∷ c ∷ bs) = (a == code "\\") && (b == code "f") && is_font c

-- what is half read then
abbrev pub after_font : ℕ → Half → Half
after_font letter h = in_fonts (without_escape (faced letter h))

abbrev pub after_kept : Half → Half
after_kept h = in_text (without_escape (placed Other h))
