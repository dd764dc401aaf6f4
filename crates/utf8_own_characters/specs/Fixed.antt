-- The five fixed tables are tables like those of a page.
use Rattle.std.specs.Prelude.{◌≡◌, ℕ, ◌<◌, ◌≤◌, List, [], ◌∷◌, map, Option, None, Some}
use Rattle.utf8_characters.specs.declared.table.FixedTable.{FixedTable}
use Rattle.utf8_characters.specs.Tables.{characters, character_of, byte_of}
use Rattle.utf8_own_characters.specs.declared.cluster.Cluster.{Cluster}
use Rattle.utf8_own_characters.specs.declared.table.Code.{Code}
use Rattle.utf8_own_characters.specs.declared.table.Code.TheVariants.{One, Two}
use Rattle.utf8_own_characters.specs.Cluster.{single, blank}
use Rattle.utf8_own_characters.specs.Table.{Characters, code}
use Rattle.utf8_own_characters.specs.Reading.{decode}

-- their characters are clusters without marks, and no byte is a half of a pair
abbrev pub fixed_cells : FixedTable → List Cluster
fixed_cells table = map single (characters table)

abbrev pub fixed : FixedTable → Characters
fixed table = record { narrow = fixed_cells table; wide = []; halves = 0 }

abbrev pub one : Option ℕ → Option Code
one None = None
one (Some b) = Some (One b)

-- each character has the byte that it has there
abbrev pub SameBytes : Type 0
SameBytes = (table : FixedTable) (c : ℕ) → 128 ≤ c → code (fixed table) (single c) ≡ one (byte_of table c)

abbrev pub shown : Option ℕ → List Cluster
shown None = blank ∷ []
shown (Some c) = single c ∷ []

-- and each byte the character
abbrev pub SameCharacters : Type 0
SameCharacters = (table : FixedTable) (b : ℕ) → 128 ≤ b → b < 256 → decode (fixed table) (b ∷ []) ≡ shown (character_of table b)
