-- What goes out byte by byte.
use Prim.Native.Char.{code}
use Rattle.std.specs.Prelude.{◌≡◌, ◌≢◌, ◌<◌, ◌≤◌, ℕ, List, [], ◌∷◌, ◌++◌, Bool, true, false, not, ◌==◌, ◌&&◌, ◌||◌}
use Rattle.std.specs.Prelude.{nat_le, nat_lt, is_some, if◌then◌else◌, Option, None, Some}
use Rattle.nr_vectors.specs.declared.cell.Look.{Look}
use Rattle.nr_vectors.specs.declared.cell.Look.TheVariants.{Plain}
use Rattle.utf8_converter.specs.Cells.{is_same}
use Rattle.utf8_own_characters.specs.Cluster.{single}
use Rattle.utf8_own_characters.specs.Reading.{read}
use Rattle.utf8_own_characters.specs.Table.{Characters, is_lead}
use Rattle.utf8_own_characters.specs.declared.cluster.Cluster.{Cluster}
use Rattle.utf8_own_characters.specs.declared.reading.Read.{Read}
use Rattle.utf8_own_sink.specs.Cells.{alone, cells, lead_after, letters, letters_of, look_of, plain, strikes, struck}
use Rattle.utf8_own_sink.specs.Letters.{Letter, drawn, first_way, is_plain, printed, way_past}
use Rattle.utf8_own_sink.specs.declared.cells.Cell.{Cell}
use Rattle.utf8_own_sink.specs.declared.cells.Half.{Half}
use Rattle.utf8_own_sink.specs.declared.cells.Half.TheVariants.{Nothing, Byte, Backspaced}
use Rattle.utf8_own_sink.specs.declared.cells.Reader.{Reader}
use Rattle.utf8_own_sink.specs.declared.letters.Way.{Way}

-- ---- letters

abbrev pub drawn_all : Way → List Letter → List ℕ
drawn_all way [] = []
drawn_all way (l ∷ ls) = drawn way l ++ drawn_all (way_past way l) ls

abbrev pub ways_past : Way → List Letter → Way
ways_past way [] = way
ways_past way (l ∷ ls) = ways_past (way_past way l) ls

-- ---- a cell goes out

abbrev pub cell_said : Characters → Cell → Reader → List ℕ
cell_said t c r = drawn_all r.way (letters_of t r.lead c)

abbrev pub cell_after : Characters → Cell → Reader → Reader
cell_after t c r = record r { before = c.look; lead = lead_after t r.lead c; way = ways_past r.way (letters_of t r.lead c) }

-- what is shown of ASCII
abbrev pub is_as_is : ℕ → Bool
is_as_is b = (b == 10) || (nat_le 32 b && nat_lt b 127)

-- a plain one goes out as its byte, where no first half waits and no look is open
abbrev pub passes : Reader → Cell → Bool
passes r c = is_as_is c.byte && is_same c.look Plain && not (is_some r.lead) && is_plain r.way

-- the first half of a pair waits for the other one
abbrev pub holds : Characters → Reader → Cell → Bool
holds t r c = nat_le 128 c.byte && not (is_some r.lead) && is_lead t c.byte

-- a letter goes out without what stands before it: it is plain, no look is open, and nothing else comes
abbrev pub goes_plain : Reader → Cell → Read → Bool
goes_plain r c read =
    (read.blanks == 0) && not (is_some read.held) && is_same (look_of r.lead read.blanks c.look) Plain && is_plain r.way

-- a cluster is a letter without marks, neither a blank nor a control character
pub record IsBareLetter (c : Cluster) (letter : ℕ) : Type 0 where
  pub alone : c ≡ single letter
  pub beyond_blank : 32 < letter
  pub no_delete : letter ≢ 127

-- such a letter was read of a cell, and goes out so
pub record IsBare (r : Reader) (c : Cell) (read : Read) (letter : ℕ) : Type 0 where
  pub plain : goes_plain r c read ≡ true
  pub is_read : read.cluster ≡ Some (single letter)
  pub beyond_blank : 32 < letter
  pub no_delete : letter ≢ 127

-- ---- a byte comes, where nothing of a cell is read

abbrev pub with_half : Half → Reader → Reader
with_half half r = record r { half = half }

abbrev pub begun_said : Characters → ℕ → Reader → List ℕ
begun_said t b r = if nat_le b (code " ") then cell_said t (plain b) r else []

abbrev pub begun_after : Characters → ℕ → Reader → Reader
begun_after t b r =
    if nat_le b (code " ") then with_half Nothing (cell_after t (plain b) r) else with_half (Byte b) r

-- the same where a byte was read: it goes out first
abbrev pub next_said : Characters → ℕ → ℕ → Reader → List ℕ
next_said t a b r = cell_said t (plain a) r ++ begun_said t b (cell_after t (plain a) r)

abbrev pub next_after : Characters → ℕ → ℕ → Reader → Reader
next_after t a b r = begun_after t b (cell_after t (plain a) r)

-- ---- where so much of a cell is read

abbrev pub said : Characters → Half → ℕ → Reader → List ℕ
said t Nothing b r = begun_said t b r
said t (Byte a) b r = if b == 8 then [] else next_said t a b r
said t (Backspaced a) b r = if strikes a b then cell_said t (struck r.before a b) r else next_said t a b r

abbrev pub after : Characters → Half → ℕ → Reader → Reader
after t Nothing b r = begun_after t b r
after t (Byte a) b r = if b == 8 then with_half (Backspaced a) r else next_after t a b r
after t (Backspaced a) b r =
    if strikes a b then with_half Nothing (cell_after t (struck r.before a b) r) else next_after t a b r

-- ---- all bytes

abbrev pub first : Bool → Reader
first escapes = record { half = Nothing; before = Plain; lead = None; way = first_way escapes }

-- where the reader stands after bytes, and what went out
pub record Emitted : Type 0 where
  pub reader : Reader
  pub bytes : List ℕ

abbrev pub preceded : List ℕ → Emitted → Emitted
preceded bytes t = record { reader = t.reader; bytes = bytes ++ t.bytes }

abbrev pub fed : Characters → Reader → List ℕ → Emitted
fed t r [] = record { reader = r; bytes = [] }
fed t r (b ∷ bs) = preceded (said t r.half b r) (fed t (after t r.half b r) bs)

-- ---- the end comes

abbrev pub released : Characters → Half → Reader → Reader
released t Nothing r = r
released t (Byte a) r = cell_after t (plain a) r
released t (Backspaced a) r = cell_after t (plain a) r

abbrev pub released_said : Characters → Half → Reader → List ℕ
released_said t Nothing r = []
released_said t (Byte a) r = cell_said t (plain a) r
released_said t (Backspaced a) r = cell_said t (plain a) r

abbrev pub ended : Characters → Reader → List ℕ
ended t r =
    let s = released t r.half r in
    released_said t r.half r ++ drawn_all s.way (alone s.lead) ++ printed (ways_past s.way (alone s.lead)) []

-- ---- what comes of bytes and the end

abbrev pub rest : Characters → Reader → List ℕ → List ℕ
rest t r bytes = printed r.way (letters t r.lead (cells r.half r.before bytes))

-- of a text that is to come, and of its end, if it comes
abbrev pub decoding : Characters → Reader → Bool → List ℕ → List ℕ
decoding t r true bytes = rest t r bytes
decoding t r false bytes = (fed t r bytes).bytes

-- ---- several bytes at once

-- nothing is half read, and the cell before is plain
abbrev pub resting : Way → Reader
resting way = record { half = Nothing; before = Plain; lead = None; way = way }

pub record IsResting (r : Reader) : Type 0 where
  pub is : r ≡ resting r.way
  pub way : is_plain r.way ≡ true

-- Bytes came where the reader stood at r and some text waited, and some of them were read: it stands at s, and what is left and
-- what the rest comes to is what waited and what all come to.
pub record Moves (t : Characters) (r s : Reader) (waited left bytes rest : List ℕ) : Type 0 where
  pub end : (fed t s rest).reader ≡ (fed t r bytes).reader
  pub text : left ++ (fed t s rest).bytes ≡ waited ++ (fed t r bytes).bytes

-- a letter was read and nothing else comes: it is neither a blank nor a control character
pub record IsLetterRead (read : Read) (letter : ℕ) : Type 0 where
  pub blanks : read.blanks ≡ 0
  pub held : read.held ≡ None
  pub is_read : read.cluster ≡ Some (single letter)
  pub beyond_blank : 32 < letter
  pub no_delete : letter ≢ 127

-- two bytes are a lead and a trail of a letter
pub record IsPair (t : Characters) (lead trail letter : ℕ) : Type 0 where
  pub is_lead : is_lead t lead ≡ true
  pub high : 128 ≤ lead
  pub high_trail : 128 ≤ trail
  pub reads : IsLetterRead (read t (Some lead) trail) letter

-- a byte alone is a letter
pub record IsNarrow (t : Characters) (byte letter : ℕ) : Type 0 where
  pub high : 128 ≤ byte
  pub reads : IsLetterRead (read t None byte) letter

-- what is half read goes out, and nothing is
abbrev pub let_go : Characters → ℕ → Reader → Reader
let_go t a r = with_half Nothing (cell_after t (plain a) r)
