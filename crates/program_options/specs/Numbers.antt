-- Numbers as words write them.
use Prim.Native.Char.{code}
use Rattle.std.specs.Prelude.{ℕ, ◌+◌, ◌-◌, ◌*◌, List, [], ◌∷◌, length, take, slice_index, Bool, ◌==◌, ◌&&◌, ◌||◌, nat_le, fold, Option, None, Some, if◌then◌else◌}

-- one digit more; none where it is no digit, or the number would be above 2^32
abbrev pub with_digit : Option ℕ → ℕ → Option ℕ
with_digit None byte = None
with_digit (Some n) byte =
    if nat_le (code "0") byte && nat_le byte (code "9") && nat_le (n * 10 + (byte - code "0")) 4294967296
    then Some (n * 10 + (byte - code "0")) else None

-- the number that decimal digits write, one or more of them, at most 2^32
abbrev pub number : List ℕ → Option ℕ
number [] = None
number (byte ∷ bytes) = fold with_digit (Some 0) (byte ∷ bytes)

-- if it lies between the two
abbrev pub if_between : ℕ → ℕ → Option ℕ → Option ℕ
if_between least most None = None
if_between least most (Some n) = if nat_le least n && nat_le n most then Some n else None

abbrev pub number_between : ℕ → ℕ → List ℕ → Option ℕ
number_between least most text = if_between least most (number text)

-- without the scale letter `n` or `m` at the end: both are a cell
abbrev pub is_cell : ℕ → Bool
is_cell byte = byte == code "n" || byte == code "m"

abbrev pub without_scale : List ℕ → List ℕ
without_scale text =
    if is_cell (slice_index text (length text - 1)) then take (length text - 1) text else text
