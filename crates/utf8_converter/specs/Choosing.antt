-- Which table a page takes: the one that has most of its characters, and so leaves the fewest out.
use Prim.Native.Char.{code}
use Rattle.std.specs.Prelude.{◌≡◌, ℕ, zero, suc, ◌+◌, ◌*◌, ◌%◌, ◌<◌, ◌≤◌, List, [], ◌∷◌, ◌++◌, length, take}
use Rattle.std.specs.Prelude.{get_or, Bool, ◌==◌, ◌&&◌, nat_lt, if◌then◌else◌, Option, None, Some, Result, Ok}
use Rattle.std.specs.Prelude.{Err, ⊤, ◌⊎◌}
use Rattle.std.specs.List.{sum_by}
use Rattle.nr_units.specs.Source.{Supply}
use Rattle.document_stages.specs.Running.{Ends}
use Rattle.utf8_characters.specs.declared.table.FixedTable.{FixedTable}
use Rattle.utf8_characters.specs.declared.table.FixedTable.TheVariants.{English, Latin, Cyrillic, Greek}
use Rattle.utf8_characters.specs.declared.table.FixedTable.TheVariants.{Latin1}
use Rattle.utf8_characters.specs.OneCell.{is_within}
use Rattle.utf8_characters.specs.Tables.{characters}
use Rattle.utf8_converter.specs.declared.names.TheConstants.{NAMES}

-- ---- the characters of a page (RFC 3629): those of tables have two bytes or three

abbrev pub is_tail : ℕ → Bool
is_tail b = is_within 0x80 0xBF b

-- three bytes are a character only where two are too few
abbrev pub if_long : ℕ → ℕ
if_long c = if nat_lt c 0x800 then 0 else c

-- the character that three bytes begin with, or 0
abbrev pub character_of_bytes : ℕ → ℕ → ℕ → ℕ
character_of_bytes a b c =
    if is_within 0xC2 0xDF a && is_tail b then (a % 32) * 64 + b % 64 else
    if is_within 0xE0 0xEF a && (is_tail b && is_tail c)
    then if_long ((a % 16) * 4096 + (b % 64) * 64 + c % 64) else 0

-- The character of a name of two bytes that only some tables have (the groff manual, "Using Symbols"), or 0.
abbrev pub character_named : List (ℕ × ℕ × ℕ) → ℕ → ℕ → ℕ
character_named [] a b = 0
character_named (n ∷ ns) a b = if (n.0 == a) && (n.1 == b) then n.2 else character_named ns a b

-- the character that is named after a backslash: `\'`, `\(xx` or `\[xx]`
abbrev pub named_at : List (ℕ × ℕ × ℕ) → List ℕ → ℕ → ℕ
named_at names page at =
    if get_or page at 0 == code "'" then 0xB4 else
    if get_or page at 0 == code "("
    then character_named names (get_or page (at + 1) 0) (get_or page (at + 2) 0) else
    if (get_or page at 0 == code "[") && (get_or page (at + 3) 0 == code "]")
    then character_named names (get_or page (at + 1) 0) (get_or page (at + 2) 0) else 0

-- the character that begins at a place of a page, or is named there, or 0
abbrev pub character_at : List ℕ → ℕ → ℕ
character_at page at =
    if get_or page at 0 == code "\\" then named_at NAMES page (at + 1) else
    character_of_bytes (get_or page at 0) (get_or page (at + 1) 0) (get_or page (at + 2) 0)

abbrev pub one_if : Bool → ℕ
one_if same = if same then 1 else 0

-- at how many of the first n places a character begins
abbrev pub occurrences : List ℕ → ℕ → ℕ → ℕ
occurrences page zero c = 0
occurrences page (suc n) c = occurrences page n c + one_if (character_at page n == c)

-- ---- the table

-- how many of a page's characters a table has
abbrev pub covered : List ℕ → FixedTable → ℕ
covered page table = sum_by (λ (c : ℕ). occurrences page (length page) c) (characters table)

-- the second where it has more, and else the first
abbrev pub better : List ℕ → FixedTable → FixedTable → FixedTable
better page first second = if nat_lt (covered page first) (covered page second) then second else first

-- a page of ASCII may name signs, of which `english` has most
abbrev pub if_any : ℕ → FixedTable → FixedTable
if_any count table = if count == 0 then English else table

-- The one that has most; where several have as many, the first of these: `english` draws boxes and `latin`
-- does not.
abbrev pub fullest : List ℕ → FixedTable
fullest page = better page (better page (better page English Latin) Cyrillic) Greek

abbrev pub chosen : List ℕ → FixedTable
chosen page = if_any (covered page (fullest page)) (fullest page)

-- one of those to choose from
abbrev pub IsChoice : FixedTable → Type 0
IsChoice English = Unit {0}
IsChoice Latin = Unit {0}
IsChoice Cyrillic = Unit {0}
IsChoice Greek = Unit {0}
IsChoice Latin1 = ⊥

-- none has more of the page's characters
abbrev pub IsBest : List ℕ → FixedTable → Type 0
IsBest page table = (other : FixedTable) → IsChoice other → covered page other ≤ covered page table

-- so many bytes of a text count
abbrev pub looked_at : ℕ
looked_at = 65536

-- what is emitted of a source with these bytes to come
abbrev pub Chooses : {E : Type 0} → Option Supply → Result FixedTable E → Type 0
Chooses None result = ⊤
Chooses (Some q) (Ok table) =
    (table ≡ chosen (take looked_at q.bytes)) × IsBest (take looked_at q.bytes) table
Chooses (Some q) (Err e) = Unit {0}

-- ---- how it is counted

-- so often each character below that number begins at the first n places
abbrev pub Counts : List ℕ → ℕ → List ℕ → Type 0
Counts page n counts = (c : ℕ) → c < length counts → get_or counts c 0 ≡ occurrences page n c

abbrev pub covered_by : List ℕ → FixedTable → ℕ
covered_by counts table = sum_by (λ (c : ℕ). get_or counts c 0) (characters table)

abbrev pub better_by : List ℕ → FixedTable → FixedTable → FixedTable
better_by counts first second =
    if nat_lt (covered_by counts first) (covered_by counts second) then second else first

abbrev pub fullest_by : List ℕ → FixedTable
fullest_by counts = better_by counts (better_by counts (better_by counts English Latin) Cyrillic) Greek

abbrev pub chosen_by : List ℕ → FixedTable
chosen_by counts = if_any (covered_by counts (fullest_by counts)) (fullest_by counts)

-- these bytes came
abbrev pub Comes : Option Supply → List ℕ → Option Supply → Type 0
Comes None bytes new = ⊤
Comes (Some q) bytes None = ⊥
Comes (Some q) bytes (Some t) = q.bytes ≡ bytes ++ t.bytes

-- some bytes came after these
pub record ComesAfter (old new : Option Supply) (before items : List ℕ) : Type 0 where
  pub bytes : List ℕ
  pub came : Comes old bytes new
  pub all : items ≡ before ++ bytes

-- these bytes came first, as many as there is room for, or all
pub record IsPrefix (old new : Option Supply) (capacity : ℕ) (items : List ℕ) : Type 0 where
  pub came : Comes old items new
  pub whole : (length items ≡ capacity) ⊎ Ends old new
