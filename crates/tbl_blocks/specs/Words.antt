-- The words of a block (Lesk, "Tbl", text blocks; CSTR 54 4.1): its lines of text, and those of requests, as parts. Bytes that have no part are blanks,
-- escapes and requests.
use Rattle.std.specs.Prelude.{ℕ, zero, suc, ◌+◌, ◌-◌, Bool, true, false, not, ◌==◌, ◌&&◌, ◌||◌, nat_le, nat_lt, List, [], ◌∷◌, ◌++◌, length, drop, take, slice_index, slice_range, Option, None, Some, if◌then◌else◌}
use Prim.Native.Char.{code}
use Rattle.tbl_blocks.specs.declared.arguments.Argument.{Argument}
use Rattle.tbl_blocks.specs.declared.blocks.Blocks.{Blocks}
use Rattle.tbl_blocks.specs.declared.parts.Font.{Font}
use Rattle.tbl_blocks.specs.declared.parts.Font.TheVariants as fonts
use Rattle.tbl_blocks.specs.declared.reading.Manner.{Manner}
use Rattle.tbl_blocks.specs.declared.reading.Reading.{Reading}
use Rattle.tbl_blocks.specs.declared.requests.Request.{Request}
use Rattle.tbl_blocks.specs.declared.requests.Request.TheVariants as requests
use Rattle.tbl_blocks.specs.declared.units.Unit.{Unit}
use Rattle.tbl_blocks.specs.declared.parts.Part.{Part}
use Rattle.tbl_blocks.specs.Addresses.{address_put, address_read}
use Rattle.tbl_blocks.specs.Arguments.{argument, blanks_len, first_argument, number_or, request_len, spaces_len}
use Rattle.tbl_blocks.specs.Parts.{blanks, sum}
use Rattle.tbl_blocks.specs.Lists.{added}
use Rattle.tbl_blocks.specs.Reading.{after_part, breaks, ends_in_space, face_of, faced, indented, line_ends, once_left, once_set, paragraph, part_to, parts_before, skipped, space_part, tagged, taken, waits_for, word_at, word_begun}
use Rattle.tbl_blocks.specs.Reading.{obeyed as reading_obeyed}
use Rattle.tbl_blocks.specs.Requests.{is_set, request_of}
use Rattle.tbl_blocks.specs.Units.{unit_of}

abbrev pub with_reading : Reading → Blocks → Blocks
with_reading r s = record s { reading = r }

-- ---- words

-- the part under way ends before a place, if it has a byte
abbrev pub part_ended : ℕ → Blocks → Blocks
part_ended place s =
    if nat_lt s.reading.word.from place
    then record s { parts = added (part_to place s.reading) s.parts; reading = after_part place s.reading } else s

abbrev pub parted : Unit → ℕ → Blocks → Blocks
parted u place s = if parts_before u s.reading then part_ended place s else s

abbrev pub with_unit : Unit → ℕ → Blocks → Blocks
with_unit u place s = with_reading (taken u place (parted u place s).reading) (parted u place s)

abbrev pub unit_taken : ℕ → List ℕ → ℕ → Blocks → Blocks
unit_taken b text place s = with_unit (unit_of b text s.strings.items) place s

abbrev pub byte_taken : ℕ → List ℕ → ℕ → Blocks → Blocks
byte_taken b text place s =
    if nat_lt 0 s.reading.word.more then with_reading (skipped s.reading) s else unit_taken b text place s

abbrev pub words_from : ℕ → List ℕ → Blocks → Blocks
words_from place [] s = part_ended place s
words_from place (b ∷ bs) s = words_from (place + 1) bs (byte_taken b bs place s)

abbrev pub word_at_place : ℕ → Blocks → Blocks
word_at_place place s = with_reading (record s.reading { word = word_at place }) s

abbrev pub words_read : List ℕ → ℕ → Blocks → Blocks
words_read text place s = words_from place text (word_at_place place s)

-- ---- lines of text

-- a line that ends with \c is joined with the next one
abbrev pub goes_on : List ℕ → Bool
goes_on line =
    nat_le 2 (length line) && slice_index line (length line - 2) == code "\\"
    && slice_index line (length line - 1) == code "c"

abbrev pub joined_read : List ℕ → ℕ → Blocks → Blocks
joined_read text place s =
    let t = words_read (take (length text - 2) text) place s in
    with_reading (once_left t.reading) t

abbrev pub whole_read : List ℕ → ℕ → Blocks → Blocks
whole_read text place s =
    let t = words_read text place s in
    with_reading (line_ends (once_left t.reading)) t

abbrev pub words_of_line : List ℕ → ℕ → Blocks → Blocks
words_of_line text place s = if goes_on text then joined_read text place s else whole_read text place s

-- blanks alone are an empty line
abbrev pub text_read : List ℕ → ℕ → Blocks → Blocks
text_read line place s =
    if spaces_len line == length line then with_reading (breaks 1 s.reading) s
    else words_of_line (drop (spaces_len line) line) (place + spaces_len line)
    (with_reading (once_set (indented (spaces_len line) s.reading)) s)

-- ---- lines of requests

abbrev pub argument_read : Argument → List ℕ → ℕ → ℕ → Manner → Blocks → Blocks
argument_read a text place n m s =
    words_read (slice_range text a.start a.«end») (place + a.start)
    (with_reading (word_begun n m s.reading) s)

-- words in turn, at most so many, after so many others
abbrev pub arguments_from : ℕ → ℕ → List ℕ → ℕ → Manner → Blocks → Blocks
arguments_from zero n text place m s = s
arguments_from (suc most) n text place m s = elim (argument text) [
  | None ↦ s
  | Some a ↦ arguments_from most (n + 1) (drop a.next text) (place + a.next) m (argument_read a text place n m s)
]

abbrev pub arguments_read : List ℕ → ℕ → Manner → Blocks → Blocks
arguments_read text place m s = arguments_from (length text) 0 text place m s

abbrev pub faces_read : List ℕ → ℕ → Manner → Blocks → Blocks
faces_read text place m s =
    let t = arguments_read text place m s in
    with_reading (line_ends (faced (face_of fonts.Roman) t.reading)) t

abbrev pub is_none : Option Argument → Bool
is_none None = true
is_none (Some a) = false

-- in one font; without words the next line is
abbrev pub face_read : List ℕ → ℕ → Font → Blocks → Blocks
face_read text place f s =
    if is_none (argument text) then with_reading (waits_for f s.reading) s
    else faces_read text place (record { first = f; second = f; joined = false }) s

-- of one that is not known the words are printed
abbrev pub unknown_read : List ℕ → ℕ → Blocks → Blocks
unknown_read text place s =
    let f = s.reading.face.font in
    let t = arguments_read text place (record { first = f; second = f; joined = false }) s in
    with_reading (line_ends (faced s.reading.face t.reading)) t

-- ---- tags: the first word of `.IP`, whose second says what text after it is indented, or the next line of `.TP` that prints

abbrev pub cells_after : ℕ → List Part → ℕ
cells_after n [] = n
cells_after n (p ∷ ps) = cells_after (sum n (sum (blanks p.join) p.cells)) ps

abbrev pub cells_of : List Part → ℕ
cells_of ps = cells_after 0 ps

abbrev pub cells_from : ℕ → Blocks → ℕ
cells_from first s = cells_of (drop first s.parts.items)

abbrev pub tag_ended : ℕ → ℕ → Blocks → Blocks
tag_ended first by s = with_reading (tagged (cells_from first s) by s.reading) s

abbrev pub item_from : ℕ → List ℕ → ℕ → Blocks → Blocks
item_from first text place s = elim (argument text) [
  | None ↦ tag_ended first s.reading.margins.by s
  | Some a ↦ tag_ended first (number_or s.reading.margins.by (first_argument (drop a.next text)))
      (words_read (slice_range text a.start a.«end») (place + a.start) s)
]

abbrev pub item_read : List ℕ → ℕ → Blocks → Blocks
item_read text place s = item_from (length s.parts.items) text place (with_reading (paragraph s.reading) s)

abbrev pub tag_taken : Option ℕ → ℕ → Blocks → Blocks
tag_taken None first s = s
tag_taken (Some by) first s = if nat_lt 0 (cells_from first s) then tag_ended first by s else s

abbrev pub obeyed : Request → List ℕ → ℕ → Blocks → Blocks
obeyed (requests.Face f) text place s = face_read text place f s
obeyed (requests.Faces f g) text place s =
    faces_read text place (record { first = f; second = g; joined = true }) s
obeyed requests.Item text place s = item_read text place s
obeyed requests.Address text place s = address_read text place s
obeyed requests.AddressEnd text place s = unknown_read text place (address_put s)
obeyed requests.Unknown text place s = unknown_read text place s
obeyed request text place s = with_reading (reading_obeyed request (first_argument text) s.reading) s

-- a name after blanks and tabs, and its arguments
abbrev pub after_blanks : List ℕ → List ℕ
after_blanks text = drop (blanks_len text) text

abbrev pub name_of : List ℕ → List ℕ
name_of request = take (request_len request) request

abbrev pub arguments_of : List ℕ → List ℕ
arguments_of request = drop (request_len request) request

abbrev pub named_read : List ℕ → ℕ → Blocks → Blocks
named_read text place s = obeyed (request_of (name_of text)) (arguments_of text) (place + request_len text) s

abbrev pub request_read : List ℕ → ℕ → Blocks → Blocks
request_read line place s = named_read (after_blanks line) (place + blanks_len line) s

-- ---- lines

abbrev pub is_request : List ℕ → Bool
is_request [] = false
is_request (b ∷ bs) = (b == code ".") || (b == code "'")

-- the request of a line, after its control character, and its name
abbrev pub request_in : List ℕ → List ℕ
request_in line = after_blanks (drop 1 line)

abbrev pub request_name : List ℕ → List ℕ
request_name line = name_of (request_in line)

-- A line is that of a request that isn't set here.
abbrev pub is_unset : List ℕ → Bool
is_unset line = is_request line && not (is_set (request_of (request_name line)))

abbrev pub line_as : Bool → List ℕ → ℕ → Blocks → Blocks
line_as request line place s =
    if request then request_read (drop 1 line) (place + 1) s else text_read line place s

abbrev pub line_read : List ℕ → ℕ → Blocks → Blocks
line_read line place s =
    tag_taken s.reading.tag (length s.parts.items) (line_as (is_request line) line place s)

-- a line so far, which begins at a place, and what follows it
abbrev pub lines_from : List ℕ → ℕ → List ℕ → Blocks → Blocks
lines_from line place [] s = if length line == 0 then s else line_read line place s
lines_from line place (b ∷ bs) s =
    if b == code "\n" then lines_from [] (place + length line + 1) bs (line_read line place s)
    else lines_from (line ++ b ∷ []) place bs s

abbrev pub lines_read : List ℕ → ℕ → Blocks → Blocks
lines_read text place s = lines_from [] place text s

-- empty lines at the end of a block are a line without text
abbrev pub space_ended : ℕ → Blocks → Blocks
space_ended place s =
    if ends_in_space s.reading then record s { parts = added (space_part place s.reading) s.parts } else s

abbrev pub block_ended : ℕ → Blocks → Blocks
block_ended place s = space_ended place (address_put s)
