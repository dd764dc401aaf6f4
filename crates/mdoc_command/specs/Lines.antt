-- The lines of a page: what they begin with, and the words of macros (mdoc(7), MACRO SYNTAX; groff(7),
-- control lines). The lines of a definition are not looked at, nor is a page that mdoc_converter lets pass:
-- one without `.Dd` in its first sixty-four lines, besides those that are empty or comments.
use Rattle.std.specs.Prelude.{ℕ, ◌+◌, [], ◌∷◌, ◌++◌, length, Bool, true, false, not, ◌==◌, ◌&&◌, ◌||◌, nat_lt}
use Rattle.std.specs.Prelude.{nat_le, if◌then◌else◌, codes}
use Rattle.std.specs.Str.{bytes_eq}
use Prim.Native.Char.{code}
use Rattle.mdoc_command.specs.declared.lines.Half.{Half}
use Rattle.mdoc_command.specs.declared.lines.Line.{Line}
use Rattle.mdoc_command.specs.declared.lines.Line.TheVariants as lines
use Rattle.mdoc_command.specs.declared.lines.Whole.{Whole}
use Rattle.mdoc_command.specs.declared.lines.Whole.TheVariants as wholes
use Rattle.mdoc_command.specs.Names.{defines, hides, is_parsed, is_request}

-- as much of a name is kept
abbrev pub name_capacity : ℕ
name_capacity = 32

abbrev pub first : Half
first =
    record {
      number = 1;
      looked = 0;
      line = lines.Start;
      dotted = false;
      name = [];
      cut = false;
      calls = false;
      awake = false;
      hidden = false;
    }

abbrev pub with_line : Line → Half → Half
with_line line h = record h { line = line }

abbrev pub ends_word : ℕ → Bool
ends_word b = (b == code " ") || (b == code "\t") || (b == code "\n")

abbrev pub rest_after : ℕ → Line
rest_after b = if b == code "\n" then lines.Start else lines.Rest

abbrev pub body_after : ℕ → Line
body_after b = if b == code "\n" then lines.Body else lines.BodyLine

-- `.\"` and `.\#` begin comments
abbrev pub escape_after : ℕ → Line
escape_after b = if (b == code "\"") || (b == code "#") then lines.Comment else rest_after b

abbrev pub comment_after : ℕ → Line
comment_after b = if b == code "\n" then lines.Start else lines.Comment

abbrev pub words_after : ℕ → Line
words_after b = if b == code "\n" then lines.Start else if b == code "\\" then lines.Escape else lines.Between

-- ---- names

abbrev pub starts : ℕ → Half → Half
starts b h =
    record h {
      line = if (b == code ".") || (b == code "'") then lines.Control else rest_after b;
      dotted = b == code ".";
    }

abbrev pub begins : Line → ℕ → Half → Half
begins line b h = record h { line = line; name = b ∷ []; cut = false }

abbrev pub after_control : ℕ → Half → Half
after_control b h =
    if (b == code " ") || (b == code "\t") then record h { line = lines.Apart; dotted = false } else
    if b == code "\n" then with_line lines.Start h else
    if b == code "\\" then with_line lines.ControlEscape h else begins lines.Name b h

abbrev pub apart : ℕ → Half → Half
apart b h =
    if (b == code " ") || (b == code "\t") then h else
    if b == code "\n" then with_line lines.Start h else
    if b == code "\\" then with_line lines.Rest h else begins lines.Name b h

abbrev pub grows : ℕ → Half → Half
grows b h =
    if length h.name == name_capacity then record h { cut = true } else record h { name = h.name ++ b ∷ [] }

-- the name of a request or a macro is whole
abbrev pub after_name : ℕ → Half → Half × Whole
after_name b h =
    let g = record h { hidden = h.hidden || hides h.name } in
    if defines h.name then (with_line (body_after b) g, wholes.Nothing) else
    if is_request h.name then (with_line (rest_after b) g, wholes.Nothing) else
    (record g { line = words_after b; calls = is_parsed h.name }, wholes.Macro)

abbrev pub is_date : Half → Bool
is_date h = h.dotted && nat_lt h.looked 64 && bytes_eq h.name (codes "Dd")

-- `.Dd` tells that a page is one of mdoc
abbrev pub wakes : ℕ → Half → Half
wakes b h = record h { awake = is_date h && ends_word b }

abbrev pub in_name : ℕ → Half → Half × Whole
in_name b h =
    if not (ends_word b) && not (b == code "\\") then (grows b h, wholes.Nothing) else
    if not h.awake then (with_line (rest_after b) (wakes b h), wholes.Nothing) else after_name b h

-- ---- words

abbrev pub begins_escaped : Half → Half
begins_escaped h = record h { line = lines.Escape; name = [] }

abbrev pub between : ℕ → Half → Half
between b h =
    if (b == code " ") || (b == code "\t") then with_line lines.Between h else
    if b == code "\n" then with_line lines.Start h else
    if b == code "\"" then with_line (lines.Quoted false) h else
    if b == code "\\" then begins_escaped h else begins lines.Word b h

abbrev pub in_word : ℕ → Half → Half × Whole
in_word b h =
    if ends_word b then (with_line (words_after b) h, wholes.Word) else
    if b == code "\\" then (with_line lines.Escape h, wholes.Nothing) else (grows b h, wholes.Nothing)

-- a line whose last byte is a backslash goes on with the next, also in a word
abbrev pub continued : Half → Half
continued h = with_line (if length h.name == 0 then lines.Between else lines.Word) h

-- `\"` begins a comment; a word with another escape is no name
abbrev pub in_escape : ℕ → Half → Half × Whole
in_escape b h =
    if b == code "\"" then (with_line lines.Rest h, wholes.Word) else
    if b == code "\n" then (continued h, wholes.Nothing) else (with_line (lines.Text false) h, wholes.Nothing)

abbrev pub text_after : ℕ → Line
text_after b =
    if (b == code " ") || (b == code "\t") then lines.Between else
    if b == code "\n" then lines.Start else lines.Text (b == code "\\")

abbrev pub in_text : Bool → ℕ → Half → Half
in_text escaped b h =
    with_line (if not escaped then text_after b else if b == code "\"" then lines.Rest
    else lines.Text false) h

abbrev pub quotes_after : ℕ → Line
quotes_after b =
    if b == code "\"" then lines.Closed else if b == code "\n" then lines.Start
    else lines.Quoted (b == code "\\")

abbrev pub in_quotes : Bool → ℕ → Half → Half
in_quotes escaped b h =
    with_line (if not escaped then quotes_after b else if b == code "\"" then lines.Rest
    else lines.Quoted false) h

-- two quotes within quotes are one
abbrev pub closed : ℕ → Half → Half
closed b h = if b == code "\"" then with_line (lines.Quoted false) h else between b h

-- ---- definitions, which two dots end

abbrev pub in_body : ℕ → Half → Half
in_body b h = with_line (if b == code "." then lines.Dot else body_after b) h

abbrev pub after_dot : ℕ → Half → Half
after_dot b h = with_line (if b == code "." then lines.Rest else body_after b) h

-- ---- by where the line is read

abbrev pub passed_at : Line → ℕ → Half → Half
passed_at lines.Start b h = starts b h
passed_at lines.Control b h = after_control b h
passed_at lines.Apart b h = apart b h
passed_at lines.Between b h = between b h
passed_at (lines.Text escaped) b h = in_text escaped b h
passed_at (lines.Quoted escaped) b h = in_quotes escaped b h
passed_at lines.Closed b h = closed b h
passed_at lines.Body b h = in_body b h
passed_at lines.Dot b h = after_dot b h
passed_at lines.BodyLine b h = with_line (body_after b) h
passed_at lines.ControlEscape b h = with_line (escape_after b) h
passed_at lines.Comment b h = with_line (comment_after b) h
passed_at line b h = with_line (rest_after b) h

abbrev pub passed : ℕ → Half → Half
passed b h = passed_at h.line b h

abbrev pub taken_in_at : Line → ℕ → Half → Half × Whole
taken_in_at lines.Name b h = in_name b h
taken_in_at lines.Word b h = in_word b h
taken_in_at lines.Escape b h = in_escape b h
taken_in_at line b h = (passed b h, wholes.Nothing)

-- empty lines and comments are not counted among the first
abbrev pub is_looked_at : Line → Bool
is_looked_at lines.Start = false
is_looked_at lines.Comment = false
is_looked_at line = true

abbrev pub looked_at : Line → ℕ → Half → Half
looked_at line b h =
    if (b == code "\n") && is_looked_at line && nat_lt h.looked 64
    then record h { looked = h.looked + 1 } else h

-- no line that may have `.Dd` is left: the page is none of mdoc
abbrev pub is_unwatched : Half → Bool
is_unwatched h = not h.awake && nat_le 64 h.looked

abbrev pub is_passed : Line → Bool
is_passed lines.Rest = true
is_passed lines.Comment = true
is_passed line = false

-- a byte that changes nothing
abbrev pub is_unread : ℕ → Half → Bool
is_unread b h = is_unwatched h || (not (b == code "\n") && is_passed h.line)

-- the line takes in a byte: what is whole with it
abbrev pub taken_in : ℕ → Half → Half × Whole
taken_in b h = let m = taken_in_at h.line b h in (looked_at h.line b m.0, m.1)

abbrev pub counted : ℕ → Half → Half
counted b h =
    if (b == code "\n") && nat_lt h.number 18446744073709551615 then record h { number = h.number + 1 } else h
