-- Characters of a text in UTF-8.
use lib.Utf8.{scalar}
use Rattle.std.specs.Prelude.{◌≡◌, ℕ, ◌+◌, ◌-◌, ◌*◌, ◌%◌, List, [], ◌∷◌, ◌++◌, Bool, true, ◌==◌, nat_lt, if◌then◌else◌, Option, None, Some, encode_utf8_all}
use Rattle.std.specs.Str.{all_scalars}
use Rattle.utf8_own_characters.specs.declared.decoding.Part.{Part}
use Rattle.utf8_own_characters.specs.declared.decoding.Decoded.{Decoded}

abbrev pub none : Part
none = record { bits = 0; left = 0 }

-- a character of several bytes goes on
abbrev pub going : ℕ → ℕ → Decoded
going bits left = record { part = record { bits = bits; left = left }; character = None }

-- half of a pair of UTF-16 is no character
abbrev pub character_of : ℕ → Option ℕ
character_of c = if scalar c then Some c else None

abbrev pub ends : ℕ → Decoded
ends c = record { part = none; character = character_of c }

-- the bits so far, and six more
abbrev pub with_six : Part → ℕ → ℕ
with_six p b = p.bits % 65536 * 64 + b % 64

abbrev pub more : Part → ℕ → Decoded
more p b =
    if p.left == 0 then going 0 0 else
    if p.left == 1 then ends (with_six p b) else going (with_six p b) (p.left - 1)

-- by the first bits of a byte
abbrev pub decoded : Part → ℕ → Decoded
decoded p b =
    if nat_lt b 128 then record { part = none; character = Some b } else
    if nat_lt b 192 then more p b else
    if nat_lt b 224 then going (b % 32) 1 else
    if nat_lt b 240 then going (b % 16) 2 else
    if nat_lt b 248 then going (b % 8) 3 else going 0 0

abbrev pub listed : Option ℕ → List ℕ
listed None = []
listed (Some c) = c ∷ []

abbrev pub characters_from : Part → List ℕ → List ℕ
characters_from p [] = []
characters_from p (b ∷ bs) = listed (decoded p b).character ++ characters_from (decoded p b).part bs

-- a text in UTF-8 has these characters
abbrev pub ReadsText : Type 0
ReadsText = (cs : List ℕ) → all_scalars cs ≡ true → characters_from none (encode_utf8_all cs) ≡ cs
