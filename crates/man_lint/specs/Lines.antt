-- The lines of a page: text, or after a control character what they call, which may stand after conditions.
use Rattle.std.specs.Prelude.{ℕ, Bool, true, false, ◌==◌, ◌||◌, if◌then◌else◌}
use Prim.Native.Char.{code}
use Rattle.man_lint.specs.Calls.{added, no_call, with_escape, with_word}
use Rattle.man_lint.specs.Names.{is_condition}
use Rattle.man_lint.specs.declared.lines.Half.{Half}
use Rattle.man_lint.specs.declared.lines.Line.{Line}
use Rattle.man_lint.specs.declared.lines.Line.TheVariants as lines

abbrev pub is_blank : ℕ → Bool
is_blank b = (b == code " ") || (b == 9)

abbrev pub first : Half
first = record { line = lines.Start; call = no_call false }

abbrev pub is_comment : Line → Bool
is_comment lines.Comment = true
is_comment line = false

abbrev pub at : Line → Half → Half
at line h = record h { line = line }

abbrev pub adding : ℕ → Half → Half
adding b h = record h { call = added b h.call }

-- ---- a byte that no escape has

abbrev pub started : ℕ → Half → Half
started b h = if (b == code ".") || (b == code "'") then at lines.Control h else at lines.Text h

abbrev pub after_control : ℕ → Half → Half
after_control b h = if is_blank b then h else adding b (at lines.Name h)

-- after the name of a condition another call may come
abbrev pub name_ended : Half → Half
name_ended h =
    if is_condition h.call.name then record { line = lines.Condition; call = no_call true } else at lines.Between h

abbrev pub in_name : ℕ → Half → Half
in_name b h = if is_blank b then name_ended h else adding b h

abbrev pub with_word_in : Half → Half
with_word_in h = record { line = lines.Word; call = with_word h.call }

abbrev pub between : ℕ → Half → Half
between b h = if is_blank b then h else adding b (with_word_in h)

abbrev pub in_word : ℕ → Half → Half
in_word b h = if is_blank b then at lines.Between h else adding b h

-- what a condition calls begins with a dot, before which a blank or a brace stands
abbrev pub before_condition : ℕ → Half → Half
before_condition b h =
    if b == code "." then at lines.Control h else if is_blank b then h else at lines.Within h

abbrev pub in_condition : ℕ → Half → Half
in_condition b h = if is_blank b then at lines.Condition h else h

abbrev pub taken_at : Line → ℕ → Half → Half
taken_at lines.Start b h = started b h
taken_at lines.Control b h = after_control b h
taken_at lines.Name b h = in_name b h
taken_at lines.Between b h = between b h
taken_at lines.Word b h = in_word b h
taken_at lines.Condition b h = before_condition b h
taken_at lines.Within b h = in_condition b h
taken_at lines.Text b h = h
taken_at lines.Comment b h = h

abbrev pub taken : ℕ → Half → Half
taken b h = if b == code "\n" then at lines.Start h else taken_at h.line b h

-- ---- a byte after a backslash

abbrev pub escaped_word : Half → Half
escaped_word h = record { line = lines.Word; call = with_escape (with_word h.call) }

abbrev pub escaped_condition : ℕ → Half → Half
escaped_condition b h = if b == code "{" then at lines.Condition h else at lines.Within h

abbrev pub escaped_at : Line → ℕ → Half → Half
escaped_at lines.Start b h = at lines.Text h
escaped_at lines.Control b h = at lines.Text h
escaped_at lines.Between b h = escaped_word h
escaped_at lines.Word b h = record h { call = with_escape h.call }
escaped_at lines.Condition b h = escaped_condition b h
escaped_at lines.Within b h = escaped_condition b h
escaped_at line b h = h

abbrev pub is_name : Line → Bool
is_name lines.Name = true
is_name line = false

abbrev pub named : Half → Half
named h = if is_name h.line then name_ended h else h

abbrev pub escaped : ℕ → Half → Half
escaped b h = escaped_at (named h).line b (named h)

-- a newline there doesn't end the line, and two letters begin comments
abbrev pub taken_escaped : ℕ → Half → Half
taken_escaped b h =
    if b == code "\n" then h else
    if (b == code "\"") || (b == code "#") then at lines.Comment h else escaped b h
