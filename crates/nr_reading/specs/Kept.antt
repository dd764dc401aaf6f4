-- Texts of which the first bytes count.
use Rattle.std.specs.Prelude.{ℕ, nat_lt, ◌==◌, Bool, true, false, if◌then◌else◌, List, [], ◌∷◌, ◌++◌, length, Option, None, Some, slice_get}

-- with one byte more: of one line, and of one argument, 256 bytes count, and the rest is dropped
abbrev pub kept : ℕ → List ℕ → List ℕ
kept b bytes = if nat_lt (length bytes) 256 then bytes ++ b ∷ [] else bytes

abbrev pub is_byte : ℕ → Option ℕ → Bool
is_byte b None = false
is_byte b (Some c) = c == b

-- a text has this byte at this place, or the place is after those that count
abbrev pub fits_at : ℕ → ℕ → List ℕ → Bool
fits_at place b bytes = if nat_lt place 256 then is_byte b (slice_get bytes place) else true
