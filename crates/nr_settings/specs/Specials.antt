-- Special characters (groff, special characters; `zb` and `zj` are an addition): what a terminal prints for them.
use Prim.Native.Char.{code}
use Rattle.std.specs.Prelude.{ℕ, ◌&&◌, List, [], ◌∷◌, ◌==◌, Option, Some, None, if◌then◌else◌}
use Rattle.nr_settings.specs.declared.specials.Special.{Special}
use Rattle.nr_settings.specs.declared.specials.Special.TheVariants.{Hyphen, Dash, Bullet, Apostrophe, Quote, Backslash, Point, Joint}

-- by two letters: hy em bu aq dq rs zb zj; any other is none
abbrev pub special_by : ℕ → ℕ → Option Special
special_by a b =
    if a == code "h" && b == code "y" then Some Hyphen
    else if a == code "e" && b == code "m" then Some Dash
    else if a == code "b" && b == code "u" then Some Bullet
    else if a == code "a" && b == code "q" then Some Apostrophe
    else if a == code "d" && b == code "q" then Some Quote
    else if a == code "r" && b == code "s" then Some Backslash
    else if a == code "z" && b == code "b" then Some Point
    else if a == code "z" && b == code "j" then Some Joint
    else None

abbrev pub special_of : List ℕ → Option Special
special_of [] = None
special_of (a ∷ []) = None
special_of (a ∷ b ∷ []) = special_by a b
special_of (a ∷ b ∷ c ∷ more) = None

-- the byte that is printed, and how often: - -- o ' " \; a break point prints nothing
abbrev pub byte_of : Special → ℕ
byte_of Hyphen = code "-"
byte_of Dash = code "-"
byte_of Bullet = code "o"
byte_of Apostrophe = code "'"
byte_of Quote = code "\""
byte_of Backslash = code "\\"
byte_of Point = code " "
byte_of Joint = code " "

abbrev pub cells_of : Special → ℕ
cells_of Hyphen = 1
cells_of Dash = 2
cells_of Bullet = 1
cells_of Apostrophe = 1
cells_of Quote = 1
cells_of Backslash = 1
cells_of Point = 0
cells_of Joint = 0
