-- The bytes of a text become that text.
use Prim.Native.Char.{code}
use Rattle.std.specs.Prelude.{is_some}
use Rattle.std.proofs.Common.{◌≡◌, ℕ, List, [], ◌∷◌, ◌++◌, Bool, true, false, ◌==◌, ◌&&◌, ◌||◌, nat_lt, ◌-◌, slice_get, if◌then◌else◌, Option, None, Some, refl, ◌∙◌, ap, subst, arith}
use Rattle.std.specs.Prelude.{encode_utf8_all}
use Rattle.std.specs.Char.{encode_utf8}
use Rattle.std.proofs.lemmas.Bool.Decides.{nat_tests}
use Rattle.nr_vectors.specs.Cell.{is_plain}
use Rattle.nr_vectors.specs.declared.cell.Look.{Look}
use Rattle.nr_vectors.specs.declared.cell.Look.TheVariants.{Plain, Under, Bold}
use Rattle.utf8_characters.specs.declared.table.FixedTable.{FixedTable}
use Rattle.utf8_characters.specs.Tables.{characters, if_any, character_of, byte_of}
use Rattle.utf8_characters.proofs.Laws.{character_back}
use Rattle.utf8_converter.specs.declared.reader.Way.{Way}
use Rattle.utf8_converter.specs.Cells.{Cell, Once, Over, alone, cells, character_for, first_way, goes_out, if_spelled, is_shown, printed, shows, strikes, text, way_to}
use Rattle.utf8_converter.specs.Lines.{characters_in, listed}
use Rattle.utf8_converter.specs.Spelling.{is_shut}
use Rattle.utf8_converter.specs.Undoing.{Letter, TurnsBack, all_look, all_plain, byte_for, bytes_for, joined, plain_text, struck}
use Rattle.utf8_converter.proofs.Kept.{apart-next}
use Rattle.utf8_converter.proofs.Makes.{shut_to, shut_turning}

-- ---- one byte

some_same : (x y : ℕ) → Some x ≡ Some y → x ≡ y
some_same x y p = cc

high_by : (x : Bool) (o : Option ℕ) (c : ℕ) → (if x then None else o) ≡ Some c → x ≡ false
high_by true o c p = absurd (let never : None ≡ Some c = p in cc)
high_by false o c p = refl

high : (t : FixedTable) (b c : ℕ) → character_of t b ≡ Some c → nat_lt b 128 ≡ false
high t b c p = high_by (nat_lt b 128) (if_any (slice_get (characters t) (b - 128))) c p

high_hidden : (b : ℕ) → nat_lt b 128 ≡ false → is_shown b ≡ false
high_hidden b p = grind (arith, nat_tests)

high_other : (b : ℕ) → nat_lt b 128 ≡ false → (b == 8) ≡ false
high_other b p = grind (arith, nat_tests)

high_far : (b : ℕ) → nat_lt b 128 ≡ false → nat_lt (code " ") b ≡ true
high_far b p = grind (arith, nat_tests)

shown_other : (b : ℕ) → is_shown b ≡ true → (b == 8) ≡ false
shown_other b p = grind (arith, nat_tests)

-- what a byte is that stands for a character
record Stood (t : FixedTable) (c b : ℕ) : Type 0 where
  other : (b == 8) ≡ false
  means : character_for t b ≡ Some c
  far : nat_lt (code " ") c ≡ true → nat_lt (code " ") b ≡ true

option_if : (x : Bool) (o p : Option ℕ) → x ≡ true → (if x then o else p) ≡ o
option_if true o p e = refl
option_if false o p e = absurd (let never : false ≡ true = e in cc)

option_not : (x : Bool) (o p : Option ℕ) → x ≡ false → (if x then o else p) ≡ p
option_not true o p e = absurd (let never : true ≡ false = e in cc)
option_not false o p e = refl

stood_by : (x : Bool) (t : FixedTable) (c b : ℕ) → is_shown c ≡ x → (if x then Some c else byte_of t c) ≡ Some b → Stood t c b
stood_by true t c b e p =
    let P : ℕ → Type 0 = λ k. Stood t c k in
    subst P (some_same c b p) (record { other = shown_other c e; means = option_if (is_shown c) (Some c) (character_of t c) e; far = λ f. f })
stood_by false t c b e p =
    let back = character_back t c b p in
    let above = high t b c back in
    record { other = high_other b above; means = option_not (is_shown b) (Some b) (character_of t b) (high_hidden b above) ∙ back; far = λ f. high_far b above }

stood : (t : FixedTable) (c b : ℕ) → byte_for t c ≡ Some b → Stood t c b
stood t c b p = stood_by (is_shown c) t c b refl p

stood_goes : (t : FixedTable) (c b : ℕ) → Stood t c b → goes_out t b ≡ true
stood_goes t c b s = ap is_some s.means

-- ---- a letter is read

-- no backspace comes first
abbrev begins_well : List ℕ → Type 0
begins_well [] = Unit {0}
begins_well (b ∷ bs) = (b == 8) ≡ false

cell_of : Look → ℕ → Cell
cell_of Plain b = Once b
cell_of Under b = Over (code "_") b
cell_of Bold b = Over b b

cells-if : (x : Bool) (cs ds : List Cell) → x ≡ true → (if x then cs else ds) ≡ cs
cells-if true cs ds p = refl
cells-if false cs ds p = absurd (let never : false ≡ true = p in cc)

plain_read : (t : FixedTable) (b : ℕ) (rest : List ℕ) → goes_out t b ≡ true → begins_well rest → cells t (b ∷ rest) ≡ Once b ∷ cells t rest
plain_read t b [] goes well = cells-if (goes_out t b) (Once b ∷ []) [] goes
plain_read t b (c ∷ rest) goes well =
    apart-next t b c rest well ∙ ap (λ (cs : List Cell). cs ++ cells t (c ∷ rest)) (cells-if (goes_out t b) (Once b ∷ []) [] goes)

eq_self : (b : ℕ) → (b == b) ≡ true
eq_self b = grind (arith, nat_tests)

or_left : (x y : Bool) → x ≡ true → x || y ≡ true
or_left true y p = refl
or_left false y p = absurd (let never : false ≡ true = p in cc)

or_right : (x y : Bool) → y ≡ true → x || y ≡ true
or_right true y p = refl
or_right false y p = p

and_both : (x y : Bool) → x ≡ true → y ≡ true → x && y ≡ true
and_both true y p q = q
and_both false y p q = p

letter_read : (look : Look) (t : FixedTable) (b : ℕ) (rest : List ℕ) → goes_out t b ≡ true → (is_plain look || nat_lt (code " ") b) ≡ true → begins_well rest
    → cells t (struck look b ++ rest) ≡ cell_of look b ∷ cells t rest
unfolding cell_of
letter_read Plain t b rest goes seen well = plain_read t b rest goes well
letter_read Under t b rest goes seen well =
    cells-if ((8 == 8) && strikes t (code "_") b) (Over (code "_") b ∷ cells t rest) (alone t (code "_") ++ cells t (8 ∷ b ∷ rest))
    (and_both ((code "_" == b) || true) (shows t b) (or_right (code "_" == b) true refl) (and_both (nat_lt (code " ") b) (goes_out t b) seen goes))
letter_read Bold t b rest goes seen well =
    cells-if ((8 == 8) && strikes t b b) (Over b b ∷ cells t rest) (alone t b ++ cells t (8 ∷ b ∷ rest))
    (and_both ((b == b) || (b == code "_")) (shows t b) (or_left (b == b) (b == code "_") (eq_self b)) (and_both (nat_lt (code " ") b) (goes_out t b) seen goes))

letter_well : (look : Look) (b : ℕ) (rest : List ℕ) → (b == 8) ≡ false → begins_well (struck look b ++ rest)
letter_well Plain b rest other = other
letter_well Under b rest other = refl
letter_well Bold b rest other = other

-- ---- a text is read

record Split (look : Look) (o : Option ℕ) (os : Option (List ℕ)) (bs : List ℕ) : Type 0 where
  byte : ℕ
  rest : List ℕ
  first : o ≡ Some byte
  others : os ≡ Some rest
  whole : struck look byte ++ rest ≡ bs

some_list : (xs ys : List ℕ) → Some xs ≡ Some ys → xs ≡ ys
some_list xs ys p = cc

split : (look : Look) (o : Option ℕ) (os : Option (List ℕ)) (bs : List ℕ) → joined look o os ≡ Some bs → Split look o os bs
split look None os bs p = absurd (let never : None ≡ Some bs = p in cc)
split look (Some b) None bs p = absurd (let never : None ≡ Some bs = p in cc)
split look (Some b) (Some rest) bs p = record { byte = b; rest = rest; first = refl; others = refl; whole = some_list (struck look b ++ rest) bs p }

and_first : (x y : Bool) → x && y ≡ true → x ≡ true
and_first true y p = refl
and_first false y p = p

and_second : (x y : Bool) → x && y ≡ true → y ≡ true
and_second true y p = p
and_second false y p = absurd (let never : false ≡ true = p in cc)

-- what is read of the bytes of a text
record IsRead (t : FixedTable) (text : List Letter) (bytes : List ℕ) : Type 0 where
  well : begins_well bytes
  characters_are : characters_in t (cells t bytes) ≡ plain_text text
  plain : (w : Way) → is_shut w ≡ true → all_plain text ≡ true → printed t w (cells t bytes) ≡ encode_utf8_all (plain_text text)

seen_by : (look : Look) (c b : ℕ) → (nat_lt (code " ") c ≡ true → nat_lt (code " ") b ≡ true) → (is_plain look || nat_lt (code " ") c) ≡ true → (is_plain look || nat_lt (code " ") b) ≡ true
seen_by Plain c b far p = refl
seen_by Under c b far p = far p
seen_by Bold c b far p = far p

top_shows : (look : Look) (t : FixedTable) (c b : ℕ) (cs : List Cell) → character_for t b ≡ Some c → characters_in t (cell_of look b ∷ cs) ≡ c ∷ characters_in t cs
unfolding cell_of
top_shows Plain t c b cs is = ap (λ (o : Option ℕ). listed o ++ characters_in t cs) is
top_shows Under t c b cs is = ap (λ (o : Option ℕ). listed o ++ characters_in t cs) is
top_shows Bold t c b cs is = ap (λ (o : Option ℕ). listed o ++ characters_in t cs) is

plain_out : (look : Look) (t : FixedTable) (c b : ℕ) (cs : List Cell) (w : Way) (out : List ℕ) → is_plain look ≡ true → is_shut w ≡ true → character_for t b ≡ Some c → printed t w cs ≡ out
    → printed t w (cell_of look b ∷ cs) ≡ encode_utf8 c ++ out
unfolding cell_of
plain_out Plain t c b cs w out p shut is rest =
    ap (λ (xs : List ℕ). (xs ++ text t b) ++ printed t (way_to w Plain) cs) (shut_turning w shut)
    ∙ ap (λ (o : Option ℕ). if_spelled o ++ printed t (way_to w Plain) cs) is
    ∙ ap (λ (v : Way). encode_utf8 c ++ printed t v cs) (shut_to w shut) ∙ ap (λ (xs : List ℕ). encode_utf8 c ++ xs) rest
plain_out Under t c b cs w out p shut is rest = absurd (let never : false ≡ true = p in cc)
plain_out Bold t c b cs w out p shut is rest = absurd (let never : false ≡ true = p in cc)

is-read : (t : FixedTable) (text : List Letter) (bytes : List ℕ) → all_look text ≡ true → bytes_for t text ≡ Some bytes → IsRead t text bytes
is-read t [] bytes looks p =
    let none : [] ≡ bytes = some_list [] bytes p in
    let P : List ℕ → Type 0 = λ xs. IsRead t [] xs in
    subst P none (record { well = tt; characters_are = refl; plain = λ w shut all. shut_turning w shut })
is-read t (c ∷ text) bytes looks p =
    let parts = split c.look (byte_for t c.character) (bytes_for t text) bytes p in
    let s = stood t c.character parts.byte parts.first in
    let rest = is-read t text parts.rest (and_second (is_plain c.look || nat_lt (code " ") c.character) (all_look text) looks) parts.others in
    let seen = seen_by c.look c.character parts.byte s.far (and_first (is_plain c.look || nat_lt (code " ") c.character) (all_look text) looks) in
    let read = letter_read c.look t parts.byte parts.rest (stood_goes t c.character parts.byte s) seen rest.well in
    let P : List ℕ → Type 0 = λ xs. IsRead t (c ∷ text) xs in
    subst P parts.whole (record {
      well = letter_well c.look parts.byte parts.rest s.other;
      characters_are =
          ap (λ (cs : List Cell). characters_in t cs) read ∙ top_shows c.look t c.character parts.byte (cells t parts.rest) s.means
          ∙ ap (λ (xs : List ℕ). c.character ∷ xs) rest.characters_are;
      plain = λ w shut all. ap (λ (cs : List Cell). printed t w cs) read
          ∙ plain_out c.look t c.character parts.byte (cells t parts.rest) w (encode_utf8_all (plain_text text)) (and_first (is_plain c.look) (all_plain text) all) shut s.means
          (rest.plain w shut (and_second (is_plain c.look) (all_plain text) all));
    })

first_shut : (e : Bool) → is_shut (first_way e) ≡ true
first_shut true = refl
first_shut false = refl

pub turns-back : (t : FixedTable) → TurnsBack t
turns-back t e text bytes looks p =
    let read = is-read t text bytes looks p in
    record { characters = read.characters_are; plain = λ all. read.plain (first_way e) (first_shut e) all }
