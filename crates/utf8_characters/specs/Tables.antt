-- The tables: which byte from 128 on stands for which character.
use Rattle.std.specs.Prelude.{ℕ, ◌+◌, ◌-◌, List, [], ◌∷◌, ◌==◌, nat_lt, if◌then◌else◌, Option, None, Some, codes, slice_get}
use Rattle.std.specs.Str.{bytes_eq}
use Rattle.utf8_characters.specs.declared.table.FixedTable.{FixedTable}
use Rattle.utf8_characters.specs.declared.table.FixedTable.TheVariants.{English, Latin, Cyrillic, Greek, Latin1}
use Rattle.utf8_characters.specs.declared.tables.TheConstants.{ENGLISH, LATIN, CYRILLIC, GREEK, LATIN_1}

-- the table of a name
abbrev pub table_named : List ℕ → Option FixedTable
table_named name =
    if bytes_eq name (codes "english") then Some English else
    if bytes_eq name (codes "latin") then Some Latin else
    if bytes_eq name (codes "cyrillic") then Some Cyrillic else
    if bytes_eq name (codes "greek") then Some Greek else
    if bytes_eq name (codes "latin1") then Some Latin1 else None

abbrev pub name_of : FixedTable → List ℕ
name_of English = codes "english"
name_of Latin = codes "latin"
name_of Cyrillic = codes "cyrillic"
name_of Greek = codes "greek"
name_of Latin1 = codes "latin1"

-- its characters, by their bytes from 128 on; NUL stands where there is none
unfoldable pub characters : FixedTable → List ℕ
characters English = ENGLISH
characters Latin = LATIN
characters Cyrillic = CYRILLIC
characters Greek = GREEK
characters Latin1 = LATIN_1

abbrev pub no_nul : ℕ → Option ℕ
no_nul c = if c == 0 then None else Some c

abbrev pub if_any : Option ℕ → Option ℕ
if_any None = None
if_any (Some c) = no_nul c

-- the character of a byte
abbrev pub character_of : FixedTable → ℕ → Option ℕ
character_of table byte = if nat_lt byte 128 then None else if_any (slice_get (characters table) (byte - 128))

-- the byte of a character among these, of which the first has this byte
abbrev pub byte_in : ℕ → List ℕ → ℕ → Option ℕ
byte_in byte [] c = None
byte_in byte (x ∷ xs) c = if x == c then Some byte else byte_in (byte + 1) xs c

-- the byte of a character
abbrev pub byte_of : FixedTable → ℕ → Option ℕ
byte_of table c = if c == 0 then None else byte_in 128 (characters table) c
