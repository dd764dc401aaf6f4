-- The arguments of a request outside of tables: words with blanks between them.
use Rattle.std.specs.Prelude.{ℕ, zero, suc, ◌+◌, ◌-◌, ◌*◌, min, Bool, false, ◌==◌, ◌&&◌, ◌||◌, nat_le, List, [], ◌∷◌, take, drop, Option, None, Some, codes, if◌then◌else◌}
use Prim.Native.Char.{code}
use Rattle.std.specs.Str.{bytes_eq}
use Rattle.tbl_blocks.specs.Words.{arguments_of, name_of, request_in}

-- how long the argument is that a text begins with
abbrev pub argument_len : List ℕ → ℕ
argument_len [] = 0
argument_len (b ∷ bs) = if b == code " " then 0 else argument_len bs + 1

abbrev pub after_blanks : List ℕ → List ℕ
after_blanks [] = []
after_blanks (b ∷ bs) = if b == code " " then after_blanks bs else b ∷ bs

abbrev pub after_one : List ℕ → List ℕ
after_one text = drop (argument_len (after_blanks text)) (after_blanks text)

-- after so many arguments
abbrev pub passed : ℕ → List ℕ → List ℕ
passed zero text = text
passed (suc n) text = after_one (passed n text)

abbrev pub after_arguments : List ℕ → ℕ → List ℕ
after_arguments request n = after_blanks (passed n (arguments_of request))

abbrev pub first_argument : List ℕ → List ℕ
first_argument text = take (argument_len text) text

abbrev pub argument : List ℕ → ℕ → List ℕ
argument request n = first_argument (after_arguments request n)

-- the request after `.if n`, which holds here, or the request itself
abbrev pub accepted : List ℕ → List ℕ
accepted request =
    if bytes_eq (name_of request) (codes "if") && bytes_eq (argument request 0) (codes "n")
    then request_in (after_arguments request 1) else request

-- ---- the number that digits write, 999 at most

abbrev pub is_digit : ℕ → Bool
is_digit b = nat_le (code "0") b && nat_le b (code "9")

-- so many digits were read, that write a number
abbrev pub number_read : ℕ → ℕ → Option ℕ
number_read zero number = None
number_read (suc n) number = Some number

abbrev pub number_from : ℕ → ℕ → List ℕ → Option ℕ
number_from n number [] = number_read n number
number_from n number (b ∷ bs) =
    if is_digit b then number_from (n + 1) (min (number * 10 + (b - code "0")) 999) bs else number_read n number

abbrev pub number_of : List ℕ → Option ℕ
number_of text = number_from 0 0 text

-- ---- where stands what follows the name `ds` of a line that defines a string, after a condition or not

abbrev pub begins_definition : List ℕ → Bool
begins_definition (d ∷ s ∷ b ∷ bs) = (d == code "d") && ((s == code "s") && (b == code " "))
begins_definition text = false

abbrev pub defines_here : ℕ → List ℕ → Bool
defines_here before text = ((before == code ".") || (before == code " ")) && begins_definition text

abbrev pub definition_from : ℕ → List ℕ → Option ℕ
definition_from at [] = None
definition_from at (b ∷ bs) = if defines_here b bs then Some (at + 4) else definition_from (at + 1) bs

abbrev pub definition_at : List ℕ → Option ℕ
definition_at line = definition_from 0 line
