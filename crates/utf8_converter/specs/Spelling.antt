-- What goes out of bytes that stand together in whole cells.
use Rattle.std.specs.Prelude.{◌≡◌, ℕ, ◌+◌, ◌-◌, ◌*◌, ◌/◌, ◌<◌, ◌≤◌, List, [], ◌∷◌, ◌++◌, length, take, drop}
use Rattle.std.specs.Prelude.{get_or, Bool, true, false, not, ◌==◌, ◌&&◌, ◌||◌, nat_lt, if◌then◌else◌, Option}
use Rattle.std.specs.Prelude.{None, Some}
use Rattle.nr_vectors.specs.declared.cell.Look.TheVariants.{Plain}
use Rattle.utf8_characters.specs.declared.table.FixedTable.{FixedTable}
use Rattle.utf8_converter.specs.declared.reader.Half.{Half}
use Rattle.utf8_converter.specs.declared.reader.Half.TheVariants.{Nothing, Byte, Backspaced}
use Rattle.utf8_converter.specs.declared.reader.Way.{Way}
use Rattle.utf8_converter.specs.declared.reader.Way.TheVariants.{Backspaces, Escapes}
use Rattle.utf8_converter.specs.declared.reader.Reader.{Reader}
use Rattle.utf8_converter.specs.declared.spelling.Spelling.{Spelling}
use Rattle.utf8_converter.specs.Cells.{goes_out, is_same, shows, text, turning}
use Rattle.utf8_converter.specs.Reading.{Emitted, fed, put_alone, then_emitted, emitted, with_half}
use Rattle.utf8_converter.specs.Shapes.{is_shaped, may_stand}

-- What goes out of a byte in a cell that is whole: its text, and the backspace of a struck cell.
abbrev pub byte_of : FixedTable → ℕ → List ℕ
byte_of table b = if b == 8 then 8 ∷ [] else text table b

abbrev pub bytes_of : FixedTable → List ℕ → List ℕ
bytes_of table [] = []
bytes_of table (b ∷ bs) = byte_of table b ++ bytes_of table bs

abbrev pub AreLow : ℕ → List ℕ → Type 0
AreLow n bytes = (k : ℕ) → k < n → nat_lt (get_or bytes k 0) 128 ≡ true

-- of ASCII, and none is DEL
abbrev pub AllLow : List ℕ → Type 0
AllLow bytes = (k : ℕ) → k < length bytes → nat_lt (get_or bytes k 0) 127 ≡ true

-- ---- what is kept of a table

-- The bytes of a character are four here: those that go out at their beginning, and 64 times the number of
-- these.
abbrev pub count_of : List ℕ → ℕ
count_of s = get_or s 3 0 / 64

-- these go out of a byte
pub record IsSpelled (table : FixedTable) (b : ℕ) (s : List ℕ) : Type 0 where
  pub prefix : take (count_of s) s ≡ byte_of table b
  pub count : length (byte_of table b) ≡ count_of s
  pub four : length s ≡ 4
  pub few : count_of s ≤ 3

-- of the first n bytes there are
pub record Spells (table : FixedTable) (n : ℕ) (all : List (List ℕ)) (whole : Bool) : Type 0 where
  pub each : (b : ℕ) → b < n → IsSpelled table b (get_or all b [])
  -- each beyond ASCII has a character
  pub beyond : whole ≡ true → (b : ℕ) → b < n → 128 ≤ b → 0 < count_of (get_or all b [])

-- it is that of the reader's table
abbrev pub Serves : Spelling → Reader → Type 0
Serves s r = Spells r.table 256 s.all s.whole

-- something goes out of each of these bytes
abbrev pub AllSpelled : List (List ℕ) → List ℕ → Type 0
AllSpelled all bytes = (k : ℕ) → k < length bytes → 0 < count_of (get_or all (get_or bytes k 0) [])

-- ---- what is put into a room

-- these bytes stand there after what stood at its beginning
abbrev pub Puts : List ℕ → ℕ → List ℕ → ℕ → List ℕ → Type 0
Puts old from new end bytes = take end new ≡ take from old ++ bytes

-- ---- cells that are whole

-- no look is open
abbrev pub is_shut : Way → Bool
is_shut Backspaces = true
is_shut (Escapes look) = is_same look Plain

abbrev pub keeps_backspaces : Way → Bool
keeps_backspaces Backspaces = true
keeps_backspaces (Escapes look) = false

-- how many bytes are owed to end a look
abbrev pub owed : Way → ℕ
owed way = length (turning way Plain)

-- nothing is half read, or a byte, where no look is open
abbrev pub rests_by : Half → Way → Bool
rests_by Nothing way = true
rests_by (Byte b) way = is_shut way
rests_by (Backspaced b) way = false

abbrev pub rests : Reader → Bool
rests r = rests_by r.half r.way

-- a byte that is half read goes out
abbrev pub let_go_by : Half → Emitted → Emitted
let_go_by Nothing t = t
let_go_by (Byte b) t = then_emitted t (λ r. put_alone b (with_half Nothing r))
let_go_by (Backspaced b) t = t

abbrev pub let_go : Emitted → Emitted
let_go t = let_go_by t.reader.half t

-- These come of bytes that are whole cells: a byte that is half read after them is none with what comes.
pub record Makes (r s : Reader) (bytes out : List ℕ) : Type 0 where
  pub all : let_go (fed r bytes) ≡ emitted s out 0
  pub rested : rests (fed r bytes).reader ≡ true
  pub few : length out + owed s.way ≤ 4 * length bytes + owed r.way

-- whether a cell begins with this byte: what is half read is whole then, if anything is
abbrev pub begins_by : FixedTable → Half → ℕ → Bool
begins_by table Nothing b = true
begins_by table (Byte a) b = not (b == 8) && goes_out table a
begins_by table (Backspaced a) b = false

abbrev pub begins : Reader → ℕ → Bool
begins r b = begins_by r.table r.half b

-- nothing is half read or open
pub record IsFresh (r : Reader) : Type 0 where
  pub half : r.half ≡ Nothing
  pub shut : is_shut r.way ≡ true

-- what is half read after cells: their last byte, if it may still be struck over
abbrev pub half_after : FixedTable → List ℕ → Half
half_after table bytes =
    if ((get_or bytes (length bytes - 2) 0 == 8) && nat_lt 1 (length bytes))
    || not (shows table (get_or bytes (length bytes - 1) 0))
    then Nothing else Byte (get_or bytes (length bytes - 1) 0)

-- what goes out of it
abbrev pub half_text : FixedTable → Half → List ℕ
half_text table Nothing = []
half_text table (Byte b) = byte_of table b
half_text table (Backspaced b) = []

-- So many of these bytes were taken, and what they come to was put there.
pub record Goes (r s : Reader) (bytes : List ℕ) (taken : ℕ) (old : List ℕ) (from : ℕ) (new : List ℕ)
    (end : ℕ) : Type 0 where
  pub out : List ℕ
  pub makes : Makes r s (take taken bytes) out
  pub put : Puts old from new end out
  pub within : taken ≤ length bytes
  pub few : end + owed s.way ≤ from + 4 * taken + owed r.way

-- so many bytes were read, and what they come to stands at the beginning of a room
pub record Reads (r s : Reader) (bytes : List ℕ) (taken : ℕ) (room : List ℕ) (end : ℕ) : Type 0 where
  pub all : fed r (take taken bytes) ≡ emitted s (take end room) 0
  pub within : taken ≤ length bytes

-- what stands at the beginning of a room is what was emitted
pub record Fills (t : Emitted) (s : Reader) (old : List ℕ) (from : ℕ) (new : List ℕ) (end strays : ℕ) : Type 0 where
  pub reader : s ≡ t.reader
  pub put : Puts old from new end t.bytes
  pub made : strays ≡ t.strays

-- the first 32 were, or none
abbrev pub GoesOrStays : Reader → List ℕ → List ℕ → ℕ → List ℕ → Option ℕ → Type 0
GoesOrStays r bytes old from new None = new ≡ old
GoesOrStays r bytes old from new (Some end) = Goes r r bytes 32 old from new end

-- ---- what stands together

-- Each of these goes out in a cell that is whole: each stands where it may, and the last alone.
pub record IsShaped (r : Reader) (bytes : List ℕ) : Type 0 where
  pub first : 0 < length bytes → may_stand (get_or bytes 0 0) ≡ true
  pub each : (k : ℕ) → k + 2 < length bytes
      → is_shaped (get_or bytes k 0) (get_or bytes (k + 1) 0) (get_or bytes (k + 2) 0) ≡ true
  pub last : (k : ℕ) → k + 1 ≡ length bytes → may_stand (get_or bytes k 0) ≡ true
  pub way : (k : ℕ) → k < length bytes → get_or bytes k 0 ≡ 8 → r.way ≡ Backspaces
  pub some : (k : ℕ) → k < length bytes → 0 < length (byte_of r.table (get_or bytes k 0))

-- of the first 32: each stands where it may, and something goes out of it
pub record IsChunk (s : Spelling) (r : Reader) (bytes : List ℕ) : Type 0 where
  pub first : may_stand (get_or bytes 0 0) ≡ true
  pub each : (k : ℕ) → k + 1 < 32
      → is_shaped (get_or bytes k 0) (get_or bytes (k + 1) 0) (get_or bytes (k + 2) 0) ≡ true
  pub way : (k : ℕ) → k < 32 → get_or bytes k 0 ≡ 8 → r.way ≡ Backspaces
  pub some : AllSpelled s.all (take 32 bytes)

-- a prefix of a chunk that was put up to here: it ends in a whole cell, and what is left of the chunk is
-- taken out
pub record Cuts (table : FixedTable) (bytes : List ℕ) (to taken end : ℕ) : Type 0 where
  pub few : taken ≤ 32
  pub last : (k : ℕ) → k + 1 ≡ taken → (get_or bytes k 0 == 8) ≡ false
  pub left : end + length (bytes_of table (drop taken (take 32 bytes))) ≡ to
