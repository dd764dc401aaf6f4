-- What is read and filled keeps its rooms.
use Rattle.std.proofs.Common.{◌≡◌, ◌==◌, ℕ, zero, suc, ◌+◌, ◌-◌, Bool, true, false, nat_lt, List, [], ◌∷◌, ◌++◌, length, drop, take, slice_range, refl, ap, ◌∙◌, Option, Some, None, if◌then◌else◌}
use Prim.Native.Char.{code}
use Rattle.nr_vectors.specs.Items.{Items}
use Rattle.tbl_blocks.specs.declared.addresses.Address.{Address}
use Rattle.tbl_blocks.specs.declared.arguments.Argument.{Argument}
use Rattle.tbl_blocks.specs.declared.blocks.Blocks.{Blocks}
use Rattle.tbl_blocks.specs.declared.parts.Font.{Font}
use Rattle.tbl_blocks.specs.declared.parts.Font.TheVariants as fonts
use Rattle.tbl_blocks.specs.declared.reading.Manner.{Manner}
use Rattle.tbl_blocks.specs.declared.requests.Request.{Request}
use Rattle.tbl_blocks.specs.declared.requests.Request.TheVariants as requests
use Rattle.tbl_blocks.specs.declared.units.Unit.{Unit}
use Rattle.tbl_blocks.specs.Addresses.{address_part, address_put, address_put_in, address_read}
use Rattle.tbl_blocks.specs.Arguments.{argument, blanks_len, first_argument, number_or, request_len, spaces_len}
use Rattle.tbl_blocks.specs.Blocks.{block_read, emptied, field_read, filled, none_of, some_parts}
use Rattle.tbl_blocks.specs.Filling.{lines_of}
use Rattle.tbl_blocks.specs.Lists.{added, added_all}
use Rattle.tbl_blocks.specs.Reading.{after_part, breaks, ends_in_space, indented, once_set, paragraph, part_to, skipped, parts_before, reading_of, space_part, waits_for, word_begun}
use Rattle.tbl_blocks.specs.Requests.{request_of}
use Rattle.tbl_blocks.specs.Units.{unit_of}
use Rattle.tbl_blocks.specs.Words.{argument_read, arguments_from, arguments_read, block_ended, byte_taken, cells_from, face_read, faces_read, goes_on, is_none, is_request, item_read, joined_read, line_as, line_read, lines_from, lines_read, obeyed, part_ended, request_read, space_ended, tag_ended, tag_taken, text_read, unit_taken, unknown_read, whole_read, with_reading, with_unit, word_at_place, words_from, words_of_line, words_read}

-- where both of a choice keep them
either : (b : Bool) (x y s : Blocks) → emptied x ≡ emptied s → emptied y ≡ emptied s → emptied (if b then x else y) ≡ emptied s
either true x y s h k = h
either false x y s h k = k

-- ---- words

part_ended_room : (place : ℕ) (s : Blocks) → emptied (part_ended place s) ≡ emptied s
part_ended_room place s =
    either (nat_lt s.reading.word.from place) (record s { parts = added (part_to place s.reading) s.parts; reading = after_part place s.reading }) s s refl refl

unit_room : (u : Unit) (place : ℕ) (s : Blocks) → emptied (with_unit u place s) ≡ emptied s
unit_room u place s = either (parts_before u s.reading) (part_ended place s) s s (part_ended_room place s) refl

byte_room : (b : ℕ) (text : List ℕ) (place : ℕ) (s : Blocks) → emptied (byte_taken b text place s) ≡ emptied s
byte_room b text place s =
    either (nat_lt 0 s.reading.word.more) (with_reading (skipped s.reading) s) (unit_taken b text place s) s refl (unit_room (unit_of b text s.strings.items) place s)

words_from_room : (place : ℕ) (text : List ℕ) (s : Blocks) → emptied (words_from place text s) ≡ emptied s
words_from_room place [] s = part_ended_room place s
words_from_room place (b ∷ bs) s = words_from_room (place + 1) bs (byte_taken b bs place s) ∙ byte_room b bs place s

words_room : (text : List ℕ) (place : ℕ) (s : Blocks) → emptied (words_read text place s) ≡ emptied s
words_room text place s = words_from_room place text (word_at_place place s)

-- ---- requests

arguments_from_room : (most n : ℕ) (text : List ℕ) (place : ℕ) (m : Manner) (s : Blocks) → emptied (arguments_from most n text place m s) ≡ emptied s
arguments_from_room zero n text place m s = refl
arguments_from_room (suc most) n text place m s =
    found (λ (a : Argument). arguments_from_room most (n + 1) (drop a.next text) (place + a.next) m (argument_read a text place n m s)) (argument text)
  where
    found : ((a : Argument) → emptied (arguments_from most (n + 1) (drop a.next text) (place + a.next) m (argument_read a text place n m s)) ≡ emptied (argument_read a text place n m s))
        → (o : Option Argument)
        → emptied (elim o [
          | None ↦ s
          | Some a ↦ arguments_from most (n + 1) (drop a.next text) (place + a.next) m (argument_read a text place n m s)
        ]) ≡ emptied s
    found later None = refl
    found later (Some a) = later a ∙ words_room (slice_range text a.start a.«end») (place + a.start) (with_reading (word_begun n m s.reading) s)

arguments_room : (text : List ℕ) (place : ℕ) (m : Manner) (s : Blocks) → emptied (arguments_read text place m s) ≡ emptied s
arguments_room text place m s = arguments_from_room (length text) 0 text place m s

face_room : (text : List ℕ) (place : ℕ) (f : Font) (s : Blocks) → emptied (face_read text place f s) ≡ emptied s
face_room text place f s =
    either (is_none (argument text)) (with_reading (waits_for f s.reading) s) (faces_read text place (record { first = f; second = f; joined = false }) s) s refl
    (arguments_room text place (record { first = f; second = f; joined = false }) s)

unknown_room : (text : List ℕ) (place : ℕ) (s : Blocks) → emptied (unknown_read text place s) ≡ emptied s
unknown_room text place s =
    arguments_room text place (record { first = s.reading.face.font; second = s.reading.face.font; joined = false }) s

-- ---- tags

item_room : (text : List ℕ) (place : ℕ) (s : Blocks) → emptied (item_read text place s) ≡ emptied s
item_room text place s =
    found (argument text)
  where
    found : (o : Option Argument)
        → emptied (elim o [
          | None ↦ tag_ended (length s.parts.items) (with_reading (paragraph s.reading) s).reading.margins.by (with_reading (paragraph s.reading) s)
          | Some a ↦ tag_ended (length s.parts.items)
              (number_or (with_reading (paragraph s.reading) s).reading.margins.by (first_argument (drop a.next text)))
              (words_read (slice_range text a.start a.«end») (place + a.start) (with_reading (paragraph s.reading) s))
        ]) ≡ emptied s
    found None = refl
    found (Some a) = words_room (slice_range text a.start a.«end») (place + a.start) (with_reading (paragraph s.reading) s)

tag_room : (tag : Option ℕ) (first : ℕ) (s : Blocks) → emptied (tag_taken tag first s) ≡ emptied s
tag_room None first s = refl
tag_room (Some by) first s = either (nat_lt 0 (cells_from first s)) (tag_ended first by s) s s refl refl

-- ---- addresses

address_put_room : (address : Option Address) (s : Blocks) → emptied (address_put_in address s) ≡ emptied s
address_put_room None s = refl
address_put_room (Some a) s = refl

address_room : (text : List ℕ) (place : ℕ) (s : Blocks) → emptied (address_read text place s) ≡ emptied s
address_room text place s = address_put_room s.reading.address s

obeyed_room : (request : Request) (text : List ℕ) (place : ℕ) (s : Blocks) → emptied (obeyed request text place s) ≡ emptied s
obeyed_room (requests.Face f) text place s = face_room text place f s
obeyed_room (requests.Faces f g) text place s = arguments_room text place (record { first = f; second = g; joined = true }) s
obeyed_room requests.Address text place s = address_room text place s
obeyed_room requests.AddressEnd text place s = unknown_room text place (address_put s) ∙ address_put_room s.reading.address s
obeyed_room requests.Unknown text place s = unknown_room text place s
obeyed_room requests.Item text place s = item_room text place s
obeyed_room requests.Tagged text place s = refl
obeyed_room requests.Hanging text place s = refl
obeyed_room requests.Break text place s = refl
obeyed_room requests.Space text place s = refl
obeyed_room requests.Ragged text place s = refl
obeyed_room requests.Adjust text place s = refl
obeyed_room requests.Font text place s = refl
obeyed_room requests.Keep text place s = refl
obeyed_room requests.Fill text place s = refl
obeyed_room requests.Paragraph text place s = refl
obeyed_room requests.Indent text place s = refl
obeyed_room requests.Deeper text place s = refl
obeyed_room requests.Back text place s = refl
obeyed_room requests.Defines text place s = refl
obeyed_room requests.Nothing text place s = refl
obeyed_room requests.Unset text place s = refl

request_room : (line : List ℕ) (place : ℕ) (s : Blocks) → emptied (request_read line place s) ≡ emptied s
request_room line place s =
    let text : List ℕ = drop (blanks_len line) line in
    obeyed_room (request_of (take (request_len text) text)) (drop (request_len text) text) (place + blanks_len line + request_len text) s

-- ---- lines

words_of_line_room : (text : List ℕ) (place : ℕ) (s : Blocks) → emptied (words_of_line text place s) ≡ emptied s
words_of_line_room text place s =
    either (goes_on text) (joined_read text place s) (whole_read text place s) s (words_room (take (length text - 2) text) place s) (words_room text place s)

text_room : (line : List ℕ) (place : ℕ) (s : Blocks) → emptied (text_read line place s) ≡ emptied s
text_room line place s =
    let t : Blocks = with_reading (once_set (indented (spaces_len line) s.reading)) s in
    either (spaces_len line == length line) (with_reading (breaks 1 s.reading) s)
    (words_of_line (drop (spaces_len line) line) (place + spaces_len line) t) s refl
    (words_of_line_room (drop (spaces_len line) line) (place + spaces_len line) t)

line_room : (line : List ℕ) (place : ℕ) (s : Blocks) → emptied (line_read line place s) ≡ emptied s
line_room line place s =
    tag_room s.reading.tag (length s.parts.items) (line_as (is_request line) line place s)
    ∙ either (is_request line) (request_read (drop 1 line) (place + 1) s) (text_read line place s) s (request_room (drop 1 line) (place + 1) s) (text_room line place s)

lines_from_room : (line : List ℕ) (place : ℕ) (text : List ℕ) (s : Blocks) → emptied (lines_from line place text s) ≡ emptied s
lines_from_room line place [] s = either (length line == 0) s (line_read line place s) s refl (line_room line place s)
lines_from_room line place (b ∷ bs) s =
    either (b == code "\n") (lines_from [] (place + length line + 1) bs (line_read line place s)) (lines_from (line ++ b ∷ []) place bs s) s
    (lines_from_room [] (place + length line + 1) bs (line_read line place s) ∙ line_room line place s)
    (lines_from_room (line ++ b ∷ []) place bs s)

space_ended_room : (place : ℕ) (s : Blocks) → emptied (space_ended place s) ≡ emptied s
space_ended_room place s = either (ends_in_space s.reading) (record s { parts = added (space_part place s.reading) s.parts }) s s refl refl

block_ended_room : (place : ℕ) (s : Blocks) → emptied (block_ended place s) ≡ emptied s
block_ended_room place s = space_ended_room place (address_put s) ∙ address_put_room s.reading.address s

pub block_room : (text : List ℕ) (place : ℕ) (f : Font) (spread : Bool) (s : Blocks) → emptied (block_read text place f spread s) ≡ emptied s
block_room text place f spread s =
    let t : Blocks = with_reading (reading_of f spread) s in
    block_ended_room (place + length text) (lines_read text place t) ∙ lines_from_room [] place text t

pub field_room : (text : List ℕ) (place : ℕ) (f : Font) (s : Blocks) → emptied (field_read text place f s) ≡ emptied s
field_room text place f s = words_room text place (with_reading (reading_of f false) s)

-- ---- filling

all_room : {T : Type 0} → (ys : List T) (xs : Items T) → none_of (added_all ys xs) ≡ none_of xs
all_room [] xs = refl
all_room (y ∷ ys) xs = all_room ys (added y xs)

pub filled_room : (first end width : ℕ) (spread : Bool) (s : Blocks) → emptied (filled first end width spread s) ≡ emptied s
filled_room first end width spread s =
    ap (λ q. record { parts = none_of s.parts; lines = q; strings = none_of s.strings; reading = reading_of fonts.Roman false })
    (all_room (lines_of first (record { width = width; spread = spread }) (some_parts first end s)) s.lines)
