-- What the bytes of a page's own table show: they are read into cells, these into letters with their marks,
-- and those are printed.
use Prim.Native.Char.{code}
use Rattle.std.specs.Prelude.{ℕ, List, [], ◌∷◌, ◌++◌, Bool, true, false, not, ◌==◌, ◌&&◌, ◌||◌, nat_le}
use Rattle.std.specs.Prelude.{nat_lt, if◌then◌else◌, Option, None, Some}
use Rattle.nr_vectors.specs.Cell.{is_under}
use Rattle.nr_vectors.specs.declared.cell.Look.{Look}
use Rattle.nr_vectors.specs.declared.cell.Look.TheVariants.{Plain, Under, Bold}
use Rattle.utf8_own_characters.specs.Cluster.{blank, single}
use Rattle.utf8_own_characters.specs.Reading.{after_blank, read, shows}
use Rattle.utf8_own_characters.specs.Table.{Characters}
use Rattle.utf8_own_characters.specs.declared.cluster.Cluster.{Cluster}
use Rattle.utf8_own_characters.specs.declared.reading.Read.{Read}
use Rattle.utf8_own_sink.specs.Letters.{Letter, first_way, letter, printed}
use Rattle.utf8_own_sink.specs.declared.cells.Cell.{Cell}
use Rattle.utf8_own_sink.specs.declared.cells.Half.{Half}
use Rattle.utf8_own_sink.specs.declared.cells.Half.TheVariants.{Nothing, Byte, Backspaced}

-- ---- bytes are read into cells, each a byte and how it looks

abbrev pub plain : ℕ → Cell
plain b = record { byte = b; look = Plain }

-- a byte is struck over itself, or over `_`
abbrev pub strikes : ℕ → ℕ → Bool
strikes a b = (a == b) || (a == code "_")

-- over itself it is bold, but `_` after what is underlined; over `_` it is underlined
abbrev pub struck : Look → ℕ → ℕ → Cell
struck before a b = record { byte = b; look = if (a == b) && not ((b == code "_") && is_under before) then Bold else Under }

-- what is half read at the end
abbrev pub left : Half → List Cell
left Nothing = []
left (Byte a) = plain a ∷ []
left (Backspaced a) = plain a ∷ []

-- a blank and a control character are cells at once, and another byte waits for what may be struck over it
abbrev pub begun : ℕ → List Cell → List Cell → List Cell
begun b more waits = if nat_le b (code " ") then plain b ∷ more else waits

-- the cells of these bytes, where a cell is half read and the one before it looks so
abbrev pub cells : Half → Look → List ℕ → List Cell
cells half before [] = left half
cells Nothing before (b ∷ bs) = begun b (cells Nothing Plain bs) (cells (Byte b) before bs)
cells (Byte a) before (b ∷ bs) =
    if b == 8 then cells (Backspaced a) before bs
    else plain a ∷ begun b (cells Nothing Plain bs) (cells (Byte b) Plain bs)
cells (Backspaced a) before (b ∷ bs) =
    if strikes a b then struck before a b ∷ cells Nothing (struck before a b).look bs
    else plain a ∷ begun b (cells Nothing Plain bs) (cells (Byte b) Plain bs)

-- ---- cells are read into letters

-- a blank for what is no character
abbrev pub one_blank : Letter
one_blank = letter blank Plain

-- two at most
abbrev pub blanks : ℕ → List Letter
blanks n = if n == 0 then [] else one_blank ∷ (if n == 1 then [] else one_blank ∷ [])

abbrev pub byte_of : Option Cell → Option ℕ
byte_of None = None
byte_of (Some c) = Some c.byte

-- a byte of ASCII is its character, whatever the table; before it a first half that waits is a blank
abbrev pub ascii : Option ℕ → ℕ → Read
ascii None b = shows (single b)
ascii (Some lead) b = after_blank (shows (single b))

abbrev pub read_byte : Characters → Option ℕ → ℕ → Read
read_byte t lead b = if nat_lt b 128 then ascii lead b else read t lead b

-- a pair looks as its first half
abbrev pub look_of : Option Cell → ℕ → Look → Look
look_of None n look = look
look_of (Some lead) n look = if n == 0 then lead.look else look

abbrev pub lettered : Option Cluster → Look → List Letter
lettered None look = []
lettered (Some c) look = letter c look ∷ []

-- what comes of a cell that looks so and was read so, where a first half may wait
abbrev pub come : Option Cell → Look → Read → List Letter
come lead look r = blanks r.blanks ++ lettered r.cluster (look_of lead r.blanks look)

abbrev pub waiting : Cell → Option ℕ → Option Cell
waiting c None = None
waiting c (Some b) = Some (record { byte = b; look = c.look })

abbrev pub letters_of : Characters → Option Cell → Cell → List Letter
letters_of t lead c = come lead c.look (read_byte t (byte_of lead) c.byte)

abbrev pub lead_after : Characters → Option Cell → Cell → Option Cell
lead_after t lead c = waiting c (read_byte t (byte_of lead) c.byte).held

-- a first half without the other is a blank
abbrev pub alone : Option Cell → List Letter
alone None = []
alone (Some c) = one_blank ∷ []

abbrev pub letters : Characters → Option Cell → List Cell → List Letter
letters t lead [] = alone lead
letters t lead (c ∷ cs) = letters_of t lead c ++ letters t (lead_after t lead c) cs

-- ---- the definition: what comes of all bytes of an input

abbrev pub converted : Characters → Bool → List ℕ → List ℕ
converted t escapes bytes = printed (first_way escapes) (letters t None (cells Nothing Plain bytes))
