-- What requests between rows change (tbl(1), "Table data"): a line of a request begins with a control character; blanks may stand before its name. A name is letters, digits and `_`.
use Rattle.std.specs.Prelude.{ℕ, ◌+◌, ◌-◌, ◌*◌, min, Bool, false, ◌==◌, ◌&&◌, ◌||◌, not, nat_le, List, [], ◌∷◌, length, Option, None, Some, if◌then◌else◌}
use Prim.Native.Char.{code}
use Rattle.tbl_blocks.specs.Words.{after_blanks, is_request, name_of, request_in, request_name}

abbrev pub is_empty : List ℕ → Bool
is_empty text = length text == 0

-- a name of two letters
abbrev pub is_one : List ℕ → ℕ → ℕ → Bool
is_one (a ∷ b ∷ []) first second = (a == first) && (b == second)
is_one name first second = false

-- .ds .as .nr .rr .rm .af
abbrev pub is_definition : List ℕ → Bool
is_definition name =
    is_one name (code "d") (code "s") || is_one name (code "a") (code "s")
    || is_one name (code "n") (code "r")
    || is_one name (code "r") (code "r") || is_one name (code "r") (code "m")
    || is_one name (code "a") (code "f")

abbrev pub defines : List ℕ → Bool
defines line = is_request line && is_definition (request_name line)

-- sp br ft ps vs ds nr as rr rm ne ns rs af
abbrev pub is_harmless_pair : ℕ → ℕ → Bool
is_harmless_pair a b =
    ((a == code "s") && (b == code "p")) || ((a == code "b") && (b == code "r"))
    || ((a == code "f") && (b == code "t"))
    || ((a == code "p") && (b == code "s")) || ((a == code "v") && (b == code "s"))
    || ((a == code "d") && (b == code "s"))
    || ((a == code "n") && (b == code "r")) || ((a == code "a") && (b == code "s"))
    || ((a == code "r") && (b == code "r"))
    || ((a == code "r") && (b == code "m")) || ((a == code "n") && (b == code "e"))
    || ((a == code "n") && (b == code "s"))
    || ((a == code "r") && (b == code "s")) || ((a == code "a") && (b == code "f"))

-- a comment where no name stands; a name that begins with such two letters
abbrev pub is_comment : List ℕ → Bool
is_comment (a ∷ b ∷ bs) = (a == code "\\") && (b == code "\"")
is_comment text = false

abbrev pub is_harmless_name : List ℕ → List ℕ → Bool
is_harmless_name [] text = is_comment text
is_harmless_name (a ∷ []) text = (a == code "B") || (a == code "I")
is_harmless_name (a ∷ b ∷ bs) text = is_harmless_pair a b

abbrev pub leaves_filling : List ℕ → Bool
leaves_filling text = is_empty text || is_harmless_name (name_of text) text

-- a request that leaves filling and indent
abbrev pub is_harmless : List ℕ → Bool
is_harmless line = is_request line && leaves_filling (request_in line)

-- ---- .sp with a number of lines, or without one: `v` may stand after it, and a fraction, of which half a line and more is one

abbrev pub is_digit : ℕ → Bool
is_digit b = nat_le (code "0") b && nat_le b (code "9")

abbrev pub if_blank : ℕ → List ℕ → Option ℕ
if_blank lines text = if is_empty (after_blanks text) then Some lines else None

abbrev pub after_v : List ℕ → List ℕ
after_v [] = []
after_v (b ∷ bs) = if b == code "v" then bs else b ∷ bs

abbrev pub after_digits : List ℕ → List ℕ
after_digits [] = []
after_digits (b ∷ bs) = if is_digit b then after_digits bs else b ∷ bs

abbrev pub is_half : List ℕ → Bool
is_half [] = false
is_half (b ∷ bs) = is_digit b && nat_le (code "5") b

abbrev pub rounded : ℕ → List ℕ → Option ℕ
rounded lines text =
    if_blank (if is_half text then min (lines + 1) 10000 else lines) (after_v (after_digits text))

-- 10,000 at most
abbrev pub lines_from : ℕ → List ℕ → Option ℕ
lines_from lines [] = Some lines
lines_from lines (b ∷ bs) =
    if is_digit b then lines_from (min (lines * 10 + (b - code "0")) 10000) bs else
    if b == code "." then rounded lines bs else if_blank lines (after_v (b ∷ bs))

abbrev pub lines_in : List ℕ → Option ℕ
lines_in text = lines_from 0 text

abbrev pub lines_asked : List ℕ → Option ℕ
lines_asked text = if is_empty text then Some 1 else lines_in text

abbrev pub space_in : List ℕ → Option ℕ
space_in (a ∷ b ∷ bs) = if (a == code "s") && (b == code "p") then lines_asked (after_blanks bs) else None
space_in text = None

abbrev pub space_asked : List ℕ → Option ℕ
space_asked line = if is_request line then space_in (request_in line) else None

-- a condition that always holds
abbrev pub after_n : List ℕ → List ℕ
after_n [] = []
after_n (b ∷ bs) = if b == code "n" then after_blanks bs else []

abbrev pub after_if : List ℕ → List ℕ
after_if (a ∷ b ∷ bs) =
    if (a == code "i") && (b == code "f") then after_n (after_blanks bs) else []
after_if text = []

-- the request that `.if n` asks for, or the line itself
abbrev pub line_asked : List ℕ → List ℕ
line_asked line =
    if is_request (after_if (request_in line)) then after_if (request_in line) else line

-- how many lines a request of space asks for
abbrev pub space_of : List ℕ → Option ℕ
space_of line = if is_request line then space_asked (line_asked line) else None

-- ---- a condition over several lines: a request opens one by `\{`, and one by `\}` ends it

abbrev pub begins_with : ℕ → List ℕ → Bool
begins_with byte [] = false
begins_with byte (b ∷ bs) = b == byte

-- a backslash and this byte stand there
abbrev pub has_brace : ℕ → List ℕ → Bool
has_brace brace [] = false
has_brace brace (b ∷ bs) = ((b == code "\\") && begins_with brace bs) || has_brace brace bs

abbrev pub always_holds : List ℕ → Bool
always_holds line = not (is_empty (after_if (request_in line)))

-- one that always holds, and stands in no other, is none
abbrev pub one_opened : List ℕ → ℕ → ℕ
one_opened line before = if (before == 0) && always_holds line then 0 else min (before + 1) 10000

-- how many are open after a request
abbrev pub open_after : List ℕ → ℕ → ℕ
open_after line before =
    if has_brace (code "{") line then (if has_brace (code "}") line then before else one_opened line before) else
    if has_brace (code "}") line then before - 1 else before
