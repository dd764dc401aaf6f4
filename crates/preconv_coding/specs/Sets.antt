-- Sets of eight bits: bytes of ASCII are its characters, and a table has those of the others.
use Rattle.std.specs.Prelude.{ℕ, ◌-◌, List, [], ◌∷◌, get_or, nat_lt, if◌then◌else◌}
use Rattle.preconv_coding.specs.declared.sets.Set.{Set}
use Rattle.preconv_coding.specs.declared.sets.Set.TheVariants.{Latin1, Latin2, Cyrillic, Greek, Latin5, Latin7, Latin9, Koi8R, Koi8U, Windows1250, Windows1251, Windows1252, Windows1253, Windows1254, Windows1257}
use Rattle.preconv_coding.specs.declared.tables.TheConstants.{LATIN_1, LATIN_2, CYRILLIC, GREEK, LATIN_5, LATIN_7, LATIN_9, KOI8_R, KOI8_U, WINDOWS_1250, WINDOWS_1251, WINDOWS_1252, WINDOWS_1253, WINDOWS_1254, WINDOWS_1257}

-- its characters, by their bytes from 128 on; U+FFFD stands where there is none
unfoldable pub characters : Set → List ℕ
characters Latin1 = LATIN_1
characters Latin2 = LATIN_2
characters Cyrillic = CYRILLIC
characters Greek = GREEK
characters Latin5 = LATIN_5
characters Latin7 = LATIN_7
characters Latin9 = LATIN_9
characters Koi8R = KOI8_R
characters Koi8U = KOI8_U
characters Windows1250 = WINDOWS_1250
characters Windows1251 = WINDOWS_1251
characters Windows1252 = WINDOWS_1252
characters Windows1253 = WINDOWS_1253
characters Windows1254 = WINDOWS_1254
characters Windows1257 = WINDOWS_1257

-- the character of a byte
abbrev pub character_of : Set → ℕ → ℕ
character_of set b = if nat_lt b 128 then b else get_or (characters set) (b - 128) 0

-- the characters of a text
abbrev pub characters_of : Set → List ℕ → List ℕ
characters_of set [] = []
characters_of set (b ∷ bs) = character_of set b ∷ characters_of set bs
