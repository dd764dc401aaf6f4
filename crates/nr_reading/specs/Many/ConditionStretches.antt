-- Conditions in a stretch of items (CSTR 54, 16).
use Prim.Native.Char.{code}
use Rattle.std.specs.Prelude.{ℕ, nat_le, ◌==◌, ◌&&◌, ◌||◌, not, Bool}
use Rattle.nr_reading.specs.Many.Passing.{is_plain}
use Rattle.nr_reading.specs.Spelled.{is_blank}

-- the byte comes first in a condition, begins no number, and delimits two strings
abbrev pub delimits : ℕ → Bool
delimits b =
    is_plain b && not (is_blank b || (b == code "!") || (b == code "o") || (b == code "e") || (b == code "t")
    || (b == code "n"))

-- a number ends before the byte, where so many parentheses are open
abbrev pub ends_number : ℕ → ℕ → Bool
ends_number b depth = (b == code "\n") || ((depth == 0) && (is_blank b || (b == code "\\")))

-- a digit, or one of `:;<=>`: in a number it changes nothing but what is noted
abbrev pub is_digit_or_relation : ℕ → Bool
is_digit_or_relation b = nat_le (code "0") b && nat_le b (code ">")
