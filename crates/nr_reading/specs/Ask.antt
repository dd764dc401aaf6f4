-- What an escape still has to read (CSTR 54, escape sequences; the groff manual, Identifiers).
use Prim.Native.Char.{code}
use Rattle.std.specs.Prelude.{ℕ, ◌-◌, ◌==◌, ◌&&◌, ◌||◌, not, nat_le, Bool, true, false, if◌then◌else◌, List, [], ◌∷◌}
use Rattle.nr_reading.specs.declared.ask.Sign.TheVariants as signs
use Rattle.nr_reading.specs.declared.ask.Kind.{Kind}
use Rattle.nr_reading.specs.declared.ask.Kind.TheVariants as kinds
use Rattle.nr_reading.specs.declared.ask.Stage.{Stage}
use Rattle.nr_reading.specs.declared.ask.Stage.TheVariants as stages
use Rattle.nr_reading.specs.declared.ask.Ask.{Ask}
use Rattle.nr_reading.specs.declared.ask.Answer.{Answer}
use Rattle.nr_reading.specs.declared.ask.Answer.TheVariants as answers
use Rattle.nr_reading.specs.Spelled.{is_blank, nothing_spelled, spelled, is_empty}

-- names and widths count as names in which interpolations nest
abbrev pub counts : Kind → Bool
counts kinds.Horizontal = false
counts kinds.Rule = false
counts kinds.Ignored = false
counts kinds.Size = false
counts k = true

-- its text is kept
abbrev pub has_text : Kind → Bool
has_text kinds.Width = true
has_text kinds.Horizontal = true
has_text kinds.Rule = true
has_text k = false

-- a text between delimiters is read in argument mode
abbrev pub reads_argument : Kind → Bool
reads_argument kinds.Width = true
reads_argument kinds.Horizontal = true
reads_argument kinds.Rule = true
reads_argument kinds.Ignored = true
reads_argument k = false

-- the sign and the digits of `\s` are read as they stand
abbrev pub is_size : Kind → Bool
is_size kinds.Size = true
is_size k = false

abbrev pub is_argument : Kind → Bool
is_argument kinds.Argument = true
is_argument k = false

-- a register without a sign
abbrev pub is_unsigned : Kind → Bool
is_unsigned (kinds.Register signs.None) = true
is_unsigned k = false

abbrev pub is_digit : ℕ → Bool
is_digit b = nat_le (code "0") b && nat_le b (code "9")

-- ---- what is read of an escape

abbrev pub first_stage : Kind → Stage
first_stage kinds.Width = stages.Delimiter
first_stage kinds.Horizontal = stages.Delimiter
first_stage kinds.Rule = stages.Delimiter
first_stage kinds.Ignored = stages.Delimiter
first_stage kinds.Size = stages.Sign
first_stage kinds.Special = stages.Two
first_stage k = stages.First

-- nothing of it was read
abbrev pub begun_ask : Kind → Ask
begun_ask k = record { kind = k; stage = first_stage k; name = nothing_spelled }

-- a special character's name in brackets
abbrev pub bracketed_ask : Ask
bracketed_ask = record { kind = kinds.Special; stage = stages.Bracket; name = nothing_spelled }

abbrev pub at_stage : Stage → Ask → Ask
at_stage s a = record a { stage = s }

abbrev pub of_kind : Kind → Ask → Ask
of_kind k a = record a { kind = k }

abbrev pub with_byte : ℕ → Ask → Ask
with_byte b a = record a { name = spelled b a.name }

-- a name that has no `]`, or a blank in its brackets, is bad
abbrev pub spoiled : Ask → Ask
spoiled a = record a { name = record a.name { bad = true } }

-- ---- a byte comes

-- the number of an argument is 1 to 9; another byte gives nothing
abbrev pub argument_asked : ℕ → Ask → Answer
argument_asked b a =
    if nat_le (code "1") b && nat_le b (code "9") then answers.Argument (b - code "1") else answers.Ends a

-- a name is one byte, or `(` and two, or in brackets where names may be long; a register's may have a sign before it
abbrev pub answer_first : ℕ → Bool → Ask → Answer
answer_first b long a =
    if b == code "(" then answers.Goes (at_stage stages.Two a)
    else (if (b == code "[") && long then answers.Goes (at_stage stages.Bracket a)
    else (if (b == code "+") && is_unsigned a.kind then answers.Goes (of_kind (kinds.Register signs.Plus) a)
    else (if (b == code "-") && is_unsigned a.kind then answers.Goes (of_kind (kinds.Register signs.Minus) a)
    else answers.Ends (with_byte b a))))

abbrev pub answer_two : ℕ → Ask → Answer
answer_two b a = if is_empty a.name.bytes then answers.Goes (with_byte b a) else answers.Ends (with_byte b a)

abbrev pub answer_bracket : ℕ → Ask → Answer
answer_bracket b a =
    if b == code "]" then answers.Ends a
    else (if is_blank b then answers.Goes (spoiled a) else answers.Goes (with_byte b a))

-- `\sN`: one digit, and another after an unsigned 1, 2 or 3
abbrev pub answer_digit : ℕ → Bool → Ask → Answer
answer_digit b signed a =
    if not (is_digit b) then answers.Stops a
    else (if not signed && nat_le (code "1") b && nat_le b (code "3")
    then answers.Goes (at_stage stages.Second a) else answers.Ends a)

-- a byte that is no newline
abbrev pub answer_byte : ℕ → Bool → Stage → Ask → Answer
answer_byte b long stages.First a = if is_argument a.kind then argument_asked b a else answer_first b long a
answer_byte b long stages.Two a = answer_two b a
answer_byte b long stages.Bracket a = answer_bracket b a
answer_byte b long stages.Delimiter a = answers.Goes (at_stage (stages.Inside b) a)
answer_byte b long (stages.Inside d) a = if b == d then answers.Ends a else answers.Keeps b
answer_byte b long stages.Sign a =
    if (b == code "+") || (b == code "-") then answers.Goes (at_stage (stages.Digit true) a)
    else answers.Turns (at_stage (stages.Digit false) a)
answer_byte b long (stages.Digit signed) a = answer_digit b signed a
answer_byte b long stages.Second a = if is_digit b then answers.Ends a else answers.Stops a

-- a newline ends what is read, and stays
abbrev pub cut : Stage → Ask → Ask
cut stages.Bracket a = spoiled a
cut s a = a

-- an element comes
abbrev pub answer : ℕ → Bool → Ask → Answer
answer b long a = if b == code "\n" then answers.Stops (cut a.stage a) else answer_byte b long a.stage a

-- The formatter gives the values of `%`, `nl`, `dn`, `dl`, and of all registers whose names begin with `.`.
abbrev pub is_given : List ℕ → Bool
is_given [] = false
is_given (b ∷ []) = (b == code ".") || (b == code "%")
is_given (b ∷ c ∷ []) =
    (b == code ".") || ((b == code "n") && (c == code "l"))
    || ((b == code "d") && ((c == code "n") || (c == code "l")))
is_given (b ∷ c ∷ d ∷ bs) = b == code "."
