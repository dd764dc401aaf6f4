-- Numbers in the names of characters.
use Prim.Native.Char.{code}
use Rattle.std.specs.Prelude.{ℕ, ◌+◌, ◌-◌, ◌*◌, List, [], ◌∷◌, Bool, false, ◌==◌, ◌&&◌, ◌||◌, nat_le, nat_lt}
use Rattle.std.specs.Prelude.{if◌then◌else◌, Option, None, Some}

abbrev pub is_within : ℕ → ℕ → ℕ → Bool
is_within first last b = nat_le first b && nat_le b last

-- a digit, a sign, a dot, a parenthesis or a place begins a number
abbrev pub begins_number : ℕ → Bool
begins_number b =
    is_within (code "0") (code "9") b || (b == code "(") || (b == code "+") || (b == code "-")
    || (b == code ".") || (b == code "|")

abbrev pub is_number : List ℕ → Bool
is_number [] = false
is_number (b ∷ bs) = begins_number b

-- a number, if it is one of the base's digits
abbrev pub digit_below : ℕ → ℕ → Option ℕ
digit_below base d = if nat_lt d base then Some d else None

-- the value of a digit
abbrev pub digit : ℕ → ℕ → Option ℕ
digit base b =
    if is_within (code "0") (code "9") b then digit_below base (b - code "0") else
    if is_within (code "A") (code "F") b then digit_below base (b - code "A" + 10) else
    if is_within (code "a") (code "f") b then digit_below base (b - code "a" + 10) else None

-- The number that digits go on with, up to a `_`, after which marks stand, or the end. One more digit is too
-- many where the number is no character's code.
abbrev pub number_from : ℕ → ℕ → List ℕ → Option ℕ
number_from base n [] = Some n
number_from base n (b ∷ bs) =
    if b == code "_" then Some n else
    if nat_le 1114112 n then None else
    elim (digit base b) [ None ↦ None | Some d ↦ number_from base (n * base + d) bs ]
