-- What names and numbers of widths say (mdoc(7), Bl -width and -offset).
use Rattle.std.specs.Prelude.{ℕ, ◌+◌, ◌-◌, ◌*◌, List, [], ◌∷◌, Bool, ◌==◌, ◌&&◌, ◌||◌, nat_lt, nat_le, if◌then◌else◌, codes, Option, None, Some}
use Rattle.std.specs.Str.{bytes_eq}
use Prim.Native.Char.{code}
use Rattle.mdoc_layout.specs.declared.lengths.TheConstants.{WIDTHS}
use Rattle.mdoc_layout.specs.Lookup.{named_in}

abbrev pub digit : ℕ → Option ℕ
digit b = if nat_le (code "0") b && nat_le b (code "9") then Some (b - code "0") else None

abbrev pub tens : Option ℕ → Option ℕ → Option ℕ
tens None b = None
tens (Some a) None = None
tens (Some a) (Some b) = if nat_lt a 10 && nat_lt b 10 then Some (10 * a + b) else None

abbrev pub two_digits : ℕ → ℕ → Option ℕ
two_digits a b = tens (digit a) (digit b)

abbrev pub is_unit : ℕ → Bool
is_unit b = (b == code "n") || (b == code "m")

-- a number below a hundred, of characters: digits alone are a text
abbrev pub number_said : List ℕ → Option ℕ
number_said [] = None
number_said (a ∷ []) = None
number_said (a ∷ b ∷ []) = if is_unit b then digit a else None
number_said (a ∷ b ∷ c ∷ []) = if is_unit c then two_digits a b else None
number_said (a ∷ b ∷ c ∷ d ∷ rest) = None

unfoldable pub width_named : List ℕ → Option ℕ
width_named word = named_in WIDTHS word

-- displays have two more names for an indent
abbrev pub offset_named : List ℕ → Option ℕ
offset_named word =
    if bytes_eq word (codes "left") then Some 0 else
    if bytes_eq word (codes "indent-two") then Some 12 else None

abbrev pub at_most : ℕ → ℕ → ℕ
at_most most width = if nat_lt width most then width else most
