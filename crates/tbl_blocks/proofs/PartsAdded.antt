-- What is read of a text is added to the parts of others; no part of a field is indented.
use Rattle.std.proofs.Common.{◌≡◌, ◌==◌, ℕ, zero, suc, ◌+◌, ◌-◌, Bool, true, false, nat_lt, List, [], ◌∷◌, ◌++◌, length, drop, take, slice_range, refl, sym, ap, ◌∙◌, append_assoc, Option, Some, None, if◌then◌else◌}
use Rattle.std.proofs.lemmas.List.{append-nil}
use Prim.Native.Char.{code}
use Rattle.nr_vectors.specs.Items.{Items}
use Rattle.tbl_blocks.specs.declared.addresses.Address.{Address}
use Rattle.tbl_blocks.specs.declared.arguments.Argument.{Argument}
use Rattle.tbl_blocks.specs.declared.blocks.Blocks.{Blocks}
use Rattle.tbl_blocks.specs.declared.parts.Font.{Font}
use Rattle.tbl_blocks.specs.declared.parts.Part.{Part}
use Rattle.tbl_blocks.specs.declared.reading.Manner.{Manner}
use Rattle.tbl_blocks.specs.declared.reading.Reading.{Reading}
use Rattle.tbl_blocks.specs.declared.requests.Request.{Request}
use Rattle.tbl_blocks.specs.declared.requests.Request.TheVariants as requests
use Rattle.tbl_blocks.specs.declared.units.Does.{Does}
use Rattle.tbl_blocks.specs.declared.units.Does.TheVariants as does
use Rattle.tbl_blocks.specs.declared.units.Unit.{Unit}
use Rattle.tbl_blocks.specs.Addresses.{address_part, address_put, address_put_in, address_read}
use Rattle.tbl_blocks.specs.Arguments.{argument, blanks_len, first_argument, number_or, request_len, spaces_len}
use Rattle.tbl_blocks.specs.Blocks.{field_read}
use Rattle.tbl_blocks.specs.Laws.{BlocksAreAdded, FieldsAreAdded, HasNoIndents}
use Rattle.tbl_blocks.specs.Lists.{added}
use Rattle.tbl_blocks.specs.Reading.{after_part, breaks, ends_in_space, indented, once_set, paragraph, part_to, parts_before, read_as, reading_of, skipped, space_part, taken, waits_for, word_begun}
use Rattle.tbl_blocks.specs.Requests.{request_of}
use Rattle.tbl_blocks.specs.Units.{unit_of}
use Rattle.tbl_blocks.specs.Words.{argument_read, arguments_from, arguments_read, block_ended, byte_taken, cells_from, face_read, faces_read, goes_on, is_none, is_request, item_read, joined_read, line_as, line_read, lines_from, lines_read, obeyed, part_ended, parted, request_read, space_ended, tag_ended, tag_taken, text_read, unit_taken, unknown_read, whole_read, with_reading, with_unit, word_at_place, words_from, words_of_line, words_read}

abbrev Grows : Blocks → Blocks → Type 0
Grows s t = (new : List Part) × (t.parts.items ≡ s.parts.items ++ new)

none_new : (s : Blocks) → Grows s s
none_new s = ([], sym (append-nil s.parts.items))

then_new : (a b c : Blocks) → Grows a b → Grows b c → Grows a c
then_new a b c (p, e) (q, f) =
    (p ++ q, f ∙ ap (λ (ps : List Part). ps ++ q) e ∙ append_assoc a.parts.items p q)

-- where both of a choice do
either : (b : Bool) (x y s : Blocks) → Grows s x → Grows s y → Grows s (if b then x else y)
either true x y s h k = h
either false x y s h k = k

-- one more, if there is room
one_new : (p : Part) (xs : Items Part) → (new : List Part) × ((added p xs).items ≡ xs.items ++ new)
one_new p xs = choose (nat_lt (length xs.items) xs.capacity)
  where
    choose : (b : Bool) → (new : List Part) × ((if b then xs.items ++ p ∷ [] else xs.items) ≡ xs.items ++ new)
    choose true = (p ∷ [], refl)
    choose false = ([], sym (append-nil xs.items))

-- ---- words

part_ended_new : (place : ℕ) (s : Blocks) → Grows s (part_ended place s)
part_ended_new place s =
    either (nat_lt s.reading.word.from place) (record s { parts = added (part_to place s.reading) s.parts; reading = after_part place s.reading }) s s
    (one_new (part_to place s.reading) s.parts) (none_new s)

unit_new : (u : Unit) (place : ℕ) (s : Blocks) → Grows s (with_unit u place s)
unit_new u place s = either (parts_before u s.reading) (part_ended place s) s s (part_ended_new place s) (none_new s)

byte_new : (b : ℕ) (text : List ℕ) (place : ℕ) (s : Blocks) → Grows s (byte_taken b text place s)
byte_new b text place s =
    either (nat_lt 0 s.reading.word.more) (with_reading (skipped s.reading) s) (unit_taken b text place s) s (none_new s)
    (unit_new (unit_of b text s.strings.items) place s)

words_from_new : (place : ℕ) (text : List ℕ) (s : Blocks) → Grows s (words_from place text s)
words_from_new place [] s = part_ended_new place s
words_from_new place (b ∷ bs) s =
    then_new s (byte_taken b bs place s) (words_from (place + 1) bs (byte_taken b bs place s)) (byte_new b bs place s)
    (words_from_new (place + 1) bs (byte_taken b bs place s))

words_new : (text : List ℕ) (place : ℕ) (s : Blocks) → Grows s (words_read text place s)
words_new text place s = words_from_new place text (word_at_place place s)

-- ---- requests

arguments_from_new : (most n : ℕ) (text : List ℕ) (place : ℕ) (m : Manner) (s : Blocks) → Grows s (arguments_from most n text place m s)
arguments_from_new zero n text place m s = none_new s
arguments_from_new (suc most) n text place m s =
    found (λ (a : Argument). arguments_from_new most (n + 1) (drop a.next text) (place + a.next) m (argument_read a text place n m s)) (argument text)
  where
    found : ((a : Argument) → Grows (argument_read a text place n m s) (arguments_from most (n + 1) (drop a.next text) (place + a.next) m (argument_read a text place n m s)))
        → (o : Option Argument)
        → Grows s (elim o [
          | None ↦ s
          | Some a ↦ arguments_from most (n + 1) (drop a.next text) (place + a.next) m (argument_read a text place n m s)
        ])
    found later None = none_new s
    found later (Some a) =
        then_new s (argument_read a text place n m s)
        (arguments_from most (n + 1) (drop a.next text) (place + a.next) m (argument_read a text place n m s))
        (words_new (slice_range text a.start a.«end») (place + a.start) (with_reading (word_begun n m s.reading) s)) (later a)

arguments_new : (text : List ℕ) (place : ℕ) (m : Manner) (s : Blocks) → Grows s (arguments_read text place m s)
arguments_new text place m s = arguments_from_new (length text) 0 text place m s

face_new : (text : List ℕ) (place : ℕ) (f : Font) (s : Blocks) → Grows s (face_read text place f s)
face_new text place f s =
    either (is_none (argument text)) (with_reading (waits_for f s.reading) s) (faces_read text place (record { first = f; second = f; joined = false }) s) s
    (none_new s) (arguments_new text place (record { first = f; second = f; joined = false }) s)

unknown_new : (text : List ℕ) (place : ℕ) (s : Blocks) → Grows s (unknown_read text place s)
unknown_new text place s =
    arguments_new text place (record { first = s.reading.face.font; second = s.reading.face.font; joined = false }) s

-- ---- tags

item_new : (text : List ℕ) (place : ℕ) (s : Blocks) → Grows s (item_read text place s)
item_new text place s =
    found (argument text)
  where
    found : (o : Option Argument)
        → Grows s (elim o [
          | None ↦ tag_ended (length s.parts.items) (with_reading (paragraph s.reading) s).reading.margins.by (with_reading (paragraph s.reading) s)
          | Some a ↦ tag_ended (length s.parts.items)
              (number_or (with_reading (paragraph s.reading) s).reading.margins.by (first_argument (drop a.next text)))
              (words_read (slice_range text a.start a.«end») (place + a.start) (with_reading (paragraph s.reading) s))
        ])
    found None = none_new s
    found (Some a) = words_new (slice_range text a.start a.«end») (place + a.start) (with_reading (paragraph s.reading) s)

tag_new : (tag : Option ℕ) (first : ℕ) (s : Blocks) → Grows s (tag_taken tag first s)
tag_new None first s = none_new s
tag_new (Some by) first s = either (nat_lt 0 (cells_from first s)) (tag_ended first by s) s s (none_new s) (none_new s)

-- ---- addresses

address_put_new : (address : Option Address) (s : Blocks) → Grows s (address_put_in address s)
address_put_new None s = none_new s
address_put_new (Some a) s = one_new (address_part a s.reading) s.parts

address_new : (text : List ℕ) (place : ℕ) (s : Blocks) → Grows s (address_read text place s)
address_new text place s = address_put_new s.reading.address s

address_end_new : (text : List ℕ) (place : ℕ) (s : Blocks) → Grows s (unknown_read text place (address_put s))
address_end_new text place s =
    then_new s (address_put s) (unknown_read text place (address_put s)) (address_put_new s.reading.address s) (unknown_new text place (address_put s))

obeyed_new : (request : Request) (text : List ℕ) (place : ℕ) (s : Blocks) → Grows s (obeyed request text place s)
obeyed_new (requests.Face f) text place s = face_new text place f s
obeyed_new (requests.Faces f g) text place s = arguments_new text place (record { first = f; second = g; joined = true }) s
obeyed_new requests.Address text place s = address_new text place s
obeyed_new requests.AddressEnd text place s = address_end_new text place s
obeyed_new requests.Unknown text place s = unknown_new text place s
obeyed_new requests.Item text place s = item_new text place s
obeyed_new requests.Tagged text place s = none_new s
obeyed_new requests.Hanging text place s = none_new s
obeyed_new requests.Break text place s = none_new s
obeyed_new requests.Space text place s = none_new s
obeyed_new requests.Ragged text place s = none_new s
obeyed_new requests.Adjust text place s = none_new s
obeyed_new requests.Font text place s = none_new s
obeyed_new requests.Keep text place s = none_new s
obeyed_new requests.Fill text place s = none_new s
obeyed_new requests.Paragraph text place s = none_new s
obeyed_new requests.Indent text place s = none_new s
obeyed_new requests.Deeper text place s = none_new s
obeyed_new requests.Back text place s = none_new s
obeyed_new requests.Defines text place s = none_new s
obeyed_new requests.Nothing text place s = none_new s
obeyed_new requests.Unset text place s = none_new s

request_new : (line : List ℕ) (place : ℕ) (s : Blocks) → Grows s (request_read line place s)
request_new line place s =
    let text : List ℕ = drop (blanks_len line) line in
    obeyed_new (request_of (take (request_len text) text)) (drop (request_len text) text) (place + blanks_len line + request_len text) s

-- ---- lines

words_of_line_new : (text : List ℕ) (place : ℕ) (s : Blocks) → Grows s (words_of_line text place s)
words_of_line_new text place s =
    either (goes_on text) (joined_read text place s) (whole_read text place s) s (words_new (take (length text - 2) text) place s) (words_new text place s)

text_new : (line : List ℕ) (place : ℕ) (s : Blocks) → Grows s (text_read line place s)
text_new line place s =
    let t : Blocks = with_reading (once_set (indented (spaces_len line) s.reading)) s in
    either (spaces_len line == length line) (with_reading (breaks 1 s.reading) s)
    (words_of_line (drop (spaces_len line) line) (place + spaces_len line) t) s (none_new s)
    (words_of_line_new (drop (spaces_len line) line) (place + spaces_len line) t)

line_new : (line : List ℕ) (place : ℕ) (s : Blocks) → Grows s (line_read line place s)
line_new line place s =
    let t : Blocks = line_as (is_request line) line place s in
    then_new s t (tag_taken s.reading.tag (length s.parts.items) t)
    (either (is_request line) (request_read (drop 1 line) (place + 1) s) (text_read line place s) s (request_new (drop 1 line) (place + 1) s) (text_new line place s))
    (tag_new s.reading.tag (length s.parts.items) t)

lines_from_new : (line : List ℕ) (place : ℕ) (text : List ℕ) (s : Blocks) → Grows s (lines_from line place text s)
lines_from_new line place [] s = either (length line == 0) s (line_read line place s) s (none_new s) (line_new line place s)
lines_from_new line place (b ∷ bs) s =
    let next : ℕ = place + length line + 1 in
    either (b == code "\n") (lines_from [] next bs (line_read line place s)) (lines_from (line ++ b ∷ []) place bs s) s
    (then_new s (line_read line place s) (lines_from [] next bs (line_read line place s)) (line_new line place s) (lines_from_new [] next bs (line_read line place s)))
    (lines_from_new (line ++ b ∷ []) place bs s)

space_ended_new : (place : ℕ) (s : Blocks) → Grows s (space_ended place s)
space_ended_new place s =
    either (ends_in_space s.reading) (record s { parts = added (space_part place s.reading) s.parts }) s s (one_new (space_part place s.reading) s.parts) (none_new s)

block_ended_new : (place : ℕ) (s : Blocks) → Grows s (block_ended place s)
block_ended_new place s =
    then_new s (address_put s) (block_ended place s) (address_put_new s.reading.address s) (space_ended_new place (address_put s))

pub blocks_are_added : BlocksAreAdded
blocks_are_added text place f spread s =
    let t : Blocks = with_reading (reading_of f spread) s in
    then_new s (lines_read text place t) (block_ended (place + length text) (lines_read text place t)) (lines_from_new [] place text t)
    (block_ended_new (place + length text) (lines_read text place t))

-- ---- a field, where nothing is indented

abbrev GrowsPlain : Blocks → Blocks → Type 0
GrowsPlain s t =
    (new : List Part) × ((t.parts.items ≡ s.parts.items ++ new) × (HasNoIndents new × (t.reading.margins.indent ≡ 0)))

none_plain : (s : Blocks) → s.reading.margins.indent ≡ 0 → GrowsPlain s s
none_plain s h = ([], (sym (append-nil s.parts.items), (tt, h)))

both_plain : (p q : List Part) → HasNoIndents p → HasNoIndents q → HasNoIndents (p ++ q)
both_plain [] q h k = k
both_plain (x ∷ p) q h k = (h.0, both_plain p q h.1 k)

then_plain : (a b c : Blocks) → GrowsPlain a b → GrowsPlain b c → GrowsPlain a c
then_plain a b c (p, (e, (h, i))) (q, (f, (k, j))) =
    (p ++ q, (f ∙ ap (λ (ps : List Part). ps ++ q) e ∙ append_assoc a.parts.items p q, (both_plain p q h k, j)))

either_plain : (b : Bool) (x y s : Blocks) → GrowsPlain s x → GrowsPlain s y → GrowsPlain s (if b then x else y)
either_plain true x y s h k = h
either_plain false x y s h k = k

part_plain : (place : ℕ) (s : Blocks) → s.reading.margins.indent ≡ 0 → GrowsPlain s (part_ended place s)
part_plain place s h =
    either_plain (nat_lt s.reading.word.from place) (record s { parts = added (part_to place s.reading) s.parts; reading = after_part place s.reading }) s s
    (choose (nat_lt (length s.parts.items) s.parts.capacity)) (none_plain s h)
  where
    choose : (b : Bool)
        → (new : List Part)
        × (((if b then s.parts.items ++ part_to place s.reading ∷ [] else s.parts.items) ≡ s.parts.items ++ new)
        × (HasNoIndents new × (s.reading.margins.indent ≡ 0)))
    choose true = (part_to place s.reading ∷ [], (refl, ((h, tt), h)))
    choose false = ([], (sym (append-nil s.parts.items), (tt, h)))

read_margins : (what : Does) (u : Unit) (next : ℕ) (r : Reading) → (read_as what u next r).margins.indent ≡ r.margins.indent
read_margins does.Blank u next r = refl
read_margins (does.Font f) u next r = refl
read_margins does.Back u next r = refl
read_margins does.Comment u next r = refl
read_margins does.Point u next r = refl
read_margins does.Cut u next r = refl
read_margins does.Print u next r = refl
read_margins does.Nothing u next r = refl
read_margins does.Letter u next r = refl
read_margins does.Stop u next r = refl
read_margins does.Hyphen u next r = refl
read_margins does.Dash u next r = refl
read_margins does.Unsure u next r = refl

taken_margins : (u : Unit) (place : ℕ) (r : Reading) → (taken u place r).margins.indent ≡ r.margins.indent
taken_margins u place r = read_margins u.does u _ r

unit_plain : (u : Unit) (place : ℕ) (s : Blocks) → s.reading.margins.indent ≡ 0 → GrowsPlain s (with_unit u place s)
unit_plain u place s h = after (either_plain (parts_before u s.reading) (part_ended place s) s s (part_plain place s h) (none_plain s h))
  where
    after : GrowsPlain s (parted u place s) → GrowsPlain s (with_unit u place s)
    after (new, (e, (k, i))) = (new, (e, (k, taken_margins u place (parted u place s).reading ∙ i)))

byte_plain : (b : ℕ) (text : List ℕ) (place : ℕ) (s : Blocks) → s.reading.margins.indent ≡ 0 → GrowsPlain s (byte_taken b text place s)
byte_plain b text place s h =
    either_plain (nat_lt 0 s.reading.word.more) (with_reading (skipped s.reading) s) (unit_taken b text place s) s (none_plain s h)
    (unit_plain (unit_of b text s.strings.items) place s h)

words_plain : (place : ℕ) (text : List ℕ) (s : Blocks) → s.reading.margins.indent ≡ 0 → GrowsPlain s (words_from place text s)
words_plain place [] s h = part_plain place s h
words_plain place (b ∷ bs) s h = later (byte_plain b bs place s h) (λ (i : (byte_taken b bs place s).reading.margins.indent ≡ 0). words_plain (place + 1) bs (byte_taken b bs place s) i)
  where
    later : GrowsPlain s (byte_taken b bs place s)
        → ((byte_taken b bs place s).reading.margins.indent ≡ 0 → GrowsPlain (byte_taken b bs place s) (words_from (place + 1) bs (byte_taken b bs place s)))
        → GrowsPlain s (words_from (place + 1) bs (byte_taken b bs place s))
    later (new, (e, (k, i))) rest =
        then_plain s (byte_taken b bs place s) (words_from (place + 1) bs (byte_taken b bs place s)) (new, (e, (k, i))) (rest i)

pub fields_are_added : FieldsAreAdded
fields_are_added text place f s = without (words_plain place text (word_at_place place (with_reading (reading_of f false) s)) refl)
  where
    without : GrowsPlain s (field_read text place f s) → (new : List Part) × (((field_read text place f s).parts.items ≡ s.parts.items ++ new) × HasNoIndents new)
    without (new, (e, (k, i))) = (new, (e, k))
