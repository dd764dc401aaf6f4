-- What goes out is a text for a terminal, of the characters that came.
use Prim.Native.Char.{code}
use Rattle.std.specs.Prelude.{is_some}
use Rattle.std.proofs.Common.{◌≡◌, ℕ, ◌+◌, ◌*◌, ◌≤◌, List, [], ◌∷◌, ◌++◌, length, Bool, true, false, ◌==◌, ◌&&◌, ◌||◌, nat_lt, if◌then◌else◌, Option, None, Some, refl, sym, subst, ap, ◌∙◌, append-nil, append_assoc, arith}
use Rattle.std.specs.Prelude.{encode_utf8_all}
use Rattle.std.specs.Char.{encode_utf8}
use Rattle.std.specs.Str.{all_scalars}
use Rattle.std.proofs.lemmas.List.{length-append}
use Rattle.std.proofs.lemmas.Bool.Decides.{nat_tests}
use Rattle.std.proofs.lemmas.Str.{encode_ascii, encodes-append}
use Rattle.std.proofs.Math.Utf8.{scalar}
use Rattle.nr_vectors.specs.declared.cell.Look.{Look}
use Rattle.nr_vectors.specs.declared.cell.Look.TheVariants.{Plain, Under, Bold}
use Rattle.utf8_characters.specs.OneCell.{is_one_cell}
use Rattle.utf8_characters.specs.Tables.{character_of}
use Rattle.utf8_characters.specs.declared.table.FixedTable.{FixedTable}
use Rattle.utf8_characters.proofs.Laws.{character_fits, character_scalar}
use Rattle.utf8_converter.specs.declared.reader.Way.{Way}
use Rattle.utf8_converter.specs.declared.reader.Way.TheVariants.{Backspaces, Escapes}
use Rattle.utf8_converter.specs.Cells.{Cell, Once, Over, alone, cells, character_for, closing, converted, drawn, first_way, goes_out, if_spelled, is_same, is_shown, look_of, opening, printed, shows, size, sizes, strikes, text, turning, way_after, way_to}
use Rattle.utf8_converter.specs.Lines.{KeepsLines, bare, bare_of, cells_of_lines, characters_in, listed}
use Rattle.utf8_converter.specs.Reading.{fed, first_reader}
use Rattle.utf8_converter.specs.Spelling.{owed}
use Rattle.utf8_converter.specs.Text.{Part, Printed, Overstruck, Begin, End, characters_of, all_characters, is_clean, is_printed, all_clean, IsText}
use Rattle.utf8_converter.proofs.Kept.{drawn_all, few_cells, half_read, kept-all}
use Rattle.utf8_converter.proofs.Makes.{few-drawn}

-- ---- texts after one another

and_both : (x y : Bool) → x ≡ true → y ≡ true → x && y ≡ true
and_both true y p q = q
and_both false y p q = p

and_first : (x y : Bool) → x && y ≡ true → x ≡ true
and_first true y p = refl
and_first false y p = p

and_second : (x y : Bool) → x && y ≡ true → y ≡ true
and_second true y p = p
and_second false y p = absurd (let never : false ≡ true = p in cc)

or_left : (x y : Bool) → x ≡ true → x || y ≡ true
or_left true y p = refl
or_left false y p = absurd (let never : false ≡ true = p in cc)

or_right : (x y : Bool) → y ≡ true → x || y ≡ true
or_right true y p = refl
or_right false y p = p

characters-append : (ps qs : List Part) → all_characters (ps ++ qs) ≡ all_characters ps ++ all_characters qs
characters-append [] qs = refl
characters-append (p ∷ ps) qs =
    ap (λ (xs : List ℕ). characters_of p ++ xs) (characters-append ps qs) ∙ sym (append_assoc (characters_of p) (all_characters ps) (all_characters qs))

clean-append : (e : Bool) (ps qs : List Part) → all_clean e ps ≡ true → all_clean e qs ≡ true → all_clean e (ps ++ qs) ≡ true
clean-append e [] qs p q = q
clean-append e (x ∷ ps) qs p q =
    and_both (is_clean e x) (all_clean e (ps ++ qs)) (and_first (is_clean e x) (all_clean e ps) p)
    (clean-append e ps qs (and_second (is_clean e x) (all_clean e ps) p) q)

scalars-append : (xs ys : List ℕ) → all_scalars xs ≡ true → all_scalars ys ≡ true → all_scalars (xs ++ ys) ≡ true
scalars-append [] ys p q = q
scalars-append (x ∷ xs) ys p q =
    and_both (scalar x) (all_scalars (xs ++ ys)) (and_first (scalar x) (all_scalars xs) p)
    (scalars-append xs ys (and_second (scalar x) (all_scalars xs) p) q)

bare-append : (ps qs : List Part) → bare (ps ++ qs) ≡ bare ps ++ bare qs
bare-append [] qs = refl
bare-append (p ∷ ps) qs = ap (λ (xs : List ℕ). bare_of p ++ xs) (bare-append ps qs) ∙ sym (append_assoc (bare_of p) (bare ps) (bare qs))

-- a text with these characters
record Marked (e : Bool) (cs : List ℕ) (bytes : List ℕ) : Type 0 where
  parts : List Part
  clean : all_clean e parts ≡ true
  scalars : all_scalars (all_characters parts) ≡ true
  spelled_is : encode_utf8_all (all_characters parts) ≡ bytes
  bare_are : bare parts ≡ cs

text_of : (e : Bool) (cs : List ℕ) (bs : List ℕ) → Marked e cs bs → IsText e bs
text_of e cs bs m = record { parts = m.parts; clean = m.clean; scalars = m.scalars; spelled = m.spelled_is }

text-nil : (e : Bool) → Marked e [] []
text-nil e = record { parts = []; clean = refl; scalars = refl; spelled_is = refl; bare_are = refl }

text-append : (e : Bool) (cs ds : List ℕ) (xs ys : List ℕ) → Marked e cs xs → Marked e ds ys → Marked e (cs ++ ds) (xs ++ ys)
text-append e cs ds xs ys p q =
    let all = characters-append p.parts q.parts in
    let P : List ℕ → Type 0 = λ zs. all_scalars zs ≡ true in
    record {
      parts = p.parts ++ q.parts;
      clean = clean-append e p.parts q.parts p.clean q.clean;
      scalars = subst P (sym all) (scalars-append (all_characters p.parts) (all_characters q.parts) p.scalars q.scalars);
      spelled_is =
          ap encode_utf8_all all ∙ encodes-append (all_characters p.parts) (all_characters q.parts)
          ∙ ap (λ (bs : List ℕ). bs ++ encode_utf8_all (all_characters q.parts)) p.spelled_is ∙ ap (λ (bs : List ℕ). xs ++ bs) q.spelled_is;
      bare_are =
          bare-append p.parts q.parts ∙ ap (λ (ks : List ℕ). ks ++ bare q.parts) p.bare_are ∙ ap (λ (ks : List ℕ). cs ++ ks) q.bare_are;
    }

-- ---- single parts

text-printed : (e : Bool) (c : ℕ) → is_printed c ≡ true → scalar c ≡ true → Marked e (c ∷ []) (encode_utf8 c)
text-printed e c clean is = record {
  parts = Printed c ∷ [];
  clean = and_both (is_printed c) true clean refl;
  scalars = and_both (scalar c) true is refl;
  spelled_is = append-nil (encode_utf8 c);
  bare_are = refl;
}

text-overstruck : (a c : ℕ) → (a == c) || (a == code "_") ≡ true → nat_lt (code " ") c && is_printed c ≡ true → scalar a ≡ true → scalar c ≡ true
    → Marked false (c ∷ []) (encode_utf8 a ++ 8 ∷ encode_utf8 c)
text-overstruck a c over seen first second = record {
  parts = Overstruck a c ∷ [];
  clean = and_both ((((a == c) || (a == code "_")) && (nat_lt (code " ") c && is_printed c))) true (and_both ((a == c) || (a == code "_")) (nat_lt (code " ") c && is_printed c) over seen) refl;
  scalars = and_both (scalar a) (scalar 8 && (scalar c && true)) first (and_both (scalar c) true second refl);
  spelled_is = ap (λ (xs : List ℕ). encode_utf8 a ++ (xs ++ (encode_utf8 c ++ []))) (encode_ascii 8 (omega arith)) ∙ ap (λ (xs : List ℕ). encode_utf8 a ++ (8 ∷ xs)) (append-nil (encode_utf8 c));
  bare_are = refl;
}

text-begin : (look : Look) → Marked true [] (opening look)
unfolding encode_utf8
text-begin Plain = record { parts = []; clean = refl; scalars = refl; spelled_is = refl; bare_are = refl }
text-begin Under = record { parts = Begin Under ∷ []; clean = refl; scalars = refl; spelled_is = refl; bare_are = refl }
text-begin Bold = record { parts = Begin Bold ∷ []; clean = refl; scalars = refl; spelled_is = refl; bare_are = refl }

text-end : (look : Look) → Marked true [] (closing look)
unfolding encode_utf8
text-end Plain = record { parts = []; clean = refl; scalars = refl; spelled_is = refl; bare_are = refl }
text-end Under = record { parts = End Under ∷ []; clean = refl; scalars = refl; spelled_is = refl; bare_are = refl }
text-end Bold = record { parts = End Bold ∷ []; clean = refl; scalars = refl; spelled_is = refl; bare_are = refl }

-- ---- ways

uses_escapes : Way → Bool
uses_escapes Backspaces = false
uses_escapes (Escapes look) = true

first_same : (e : Bool) → uses_escapes (first_way e) ≡ e
unfolding uses_escapes
first_same true = refl
first_same false = refl

to_same : (w : Way) (look : Look) → uses_escapes (way_to w look) ≡ uses_escapes w
unfolding uses_escapes
to_same Backspaces look = refl
to_same (Escapes before) look = refl

after_same : (w : Way) (c : Cell) → uses_escapes (way_after w c) ≡ uses_escapes w
unfolding uses_escapes
after_same w (Once b) = to_same w Plain
after_same Backspaces (Over a b) = refl
after_same (Escapes before) (Over a b) = refl

turning_by : (x : Bool) (before look : Look) → Marked true [] (if x then [] else closing before ++ opening look)
turning_by true before look = text-nil true
turning_by false before look = text-append true [] [] (closing before) (opening look) (text-end before) (text-begin look)

text-turning : (w : Way) (look : Look) → Marked (uses_escapes w) [] (turning w look)
unfolding uses_escapes
text-turning Backspaces look = text-nil false
text-turning (Escapes before) look = turning_by (is_same before look) before look

-- ---- characters

-- what a character is that goes out
record IsSeen (b c : ℕ) : Type 0 where
  is : is_printed c ≡ true
  scalar_is : scalar c ≡ true
  seen : nat_lt (code " ") b ≡ true → nat_lt (code " ") c ≡ true

shown_scalar : (c : ℕ) → is_shown c ≡ true → scalar c ≡ true
shown_scalar c p = grind (arith, nat_tests)

cell_seen : (c : ℕ) → is_one_cell c ≡ true → nat_lt (code " ") c ≡ true
cell_seen c p = grind (arith, nat_tests)

same_some : (x y : ℕ) → Some x ≡ Some y → x ≡ y
same_some x y p = cc

seen_by : (x : Bool) (t : FixedTable) (b c : ℕ) → is_shown b ≡ x → (if x then Some b else character_of t b) ≡ Some c → IsSeen b c
seen_by true t b c e p =
    let P : ℕ → Type 0 = λ k. IsSeen b k in
    subst P (same_some b c p) (record { is = or_left (is_shown b) (is_one_cell b) e; scalar_is = shown_scalar b e; seen = λ far. far })
seen_by false t b c e p =
    let fits = character_fits t b c p in
    record { is = or_right (is_shown c) (is_one_cell c) fits; scalar_is = character_scalar t b c p; seen = λ far. cell_seen c fits }

seen : (t : FixedTable) (b c : ℕ) → character_for t b ≡ Some c → IsSeen b c
seen t b c p = seen_by (is_shown b) t b c refl p

byte_text : (e : Bool) (t : FixedTable) (b : ℕ) (o : Option ℕ) → character_for t b ≡ o → Marked e (listed o) (if_spelled o)
byte_text e t b None p = text-nil e
byte_text e t b (Some c) p = let s = seen t b c p in text-printed e c s.is s.scalar_is

text-byte : (e : Bool) (t : FixedTable) (b : ℕ) → Marked e (listed (character_for t b)) (text t b)
text-byte e t b = byte_text e t b (character_for t b) refl

-- ---- struck cells

same_byte : (a c : ℕ) → (a == c) ≡ true → a ≡ c
same_byte a c p = grind (arith, nat_tests)

eq_self : (c : ℕ) → (c == c) ≡ true
eq_self c = grind (arith, nat_tests)

over_text : (t : FixedTable) (a b : ℕ) (x y : Bool) (o : Option ℕ) → (a == b) ≡ x → (a == code "_") ≡ y → (x || y) ≡ true → nat_lt (code " ") b ≡ true → character_for t b ≡ o
    → goes_out t b ≡ true → Marked false (listed o) (text t a ++ 8 ∷ if_spelled o)
over_text t a b x y None e f over far is goes = absurd (let none : goes_out t b ≡ false = ap is_some is in let never : true ≡ false = sym goes ∙ none in cc)
over_text t a b true y (Some c) e f over far is goes =
    let s = seen t b c is in
    let same : text t a ≡ encode_utf8 c = ap (λ (k : ℕ). text t k) (same_byte a b e) ∙ ap if_spelled is in
    let P : List ℕ → Type 0 = λ xs. Marked false (c ∷ []) (xs ++ 8 ∷ encode_utf8 c) in
    subst P (sym same) (text-overstruck c c (or_left (c == c) (c == code "_") (eq_self c)) (and_both (nat_lt (code " ") c) (is_printed c) (s.seen far) s.is) s.scalar_is s.scalar_is)
over_text t a b false true (Some c) e f over far is goes =
    let s = seen t b c is in
    let same : text t a ≡ encode_utf8 (code "_") = ap (λ (k : ℕ). text t k) (same_byte a (code "_") f) in
    let P : List ℕ → Type 0 = λ xs. Marked false (c ∷ []) (xs ++ 8 ∷ encode_utf8 c) in
    subst P (sym same) (text-overstruck (code "_") c (or_right (code "_" == c) true refl) (and_both (nat_lt (code " ") c) (is_printed c) (s.seen far) s.is) refl s.scalar_is)
over_text t a b false false (Some c) e f over far is goes = absurd (let never : false ≡ true = over in cc)

-- ---- cells

is_cell : FixedTable → Cell → Bool
is_cell t (Once b) = true
is_cell t (Over a b) = strikes t a b

all_cells : FixedTable → List Cell → Bool
all_cells t [] = true
all_cells t (c ∷ cs) = is_cell t c && all_cells t cs

drawn-text : (t : FixedTable) (w : Way) (c : Cell) → is_cell t c ≡ true → Marked (uses_escapes w) (listed (character_for t (elim c as (λ v. ℕ) [ Once b ↦ b | Over a b ↦ b ]))) (drawn t w c)
unfolding is_cell uses_escapes
drawn-text t w (Once b) p = text-append (uses_escapes w) [] (listed (character_for t b)) (turning w Plain) (text t b) (text-turning w Plain) (text-byte (uses_escapes w) t b)
drawn-text t Backspaces (Over a b) p =
    let over = and_first ((a == b) || (a == code "_")) (shows t b) p in
    let is = and_second ((a == b) || (a == code "_")) (shows t b) p in
    over_text t a b (a == b) (a == code "_") (character_for t b) refl refl over (and_first (nat_lt (code " ") b) (goes_out t b) is) refl (and_second (nat_lt (code " ") b) (goes_out t b) is)
drawn-text t (Escapes before) (Over a b) p =
    text-append true [] (listed (character_for t b)) (turning (Escapes before) (look_of before (Over a b))) (text t b) (text-turning (Escapes before) (look_of before (Over a b))) (text-byte true t b)

text-drawn : (t : FixedTable) (w : Way) (cs : List Cell) → all_cells t cs ≡ true → Marked (uses_escapes w) (characters_in t cs) (drawn_all t w cs)
unfolding all_cells
text-drawn t w [] p = text-nil (uses_escapes w)
text-drawn t w (c ∷ cs) p =
    let P : Bool → Type 0 = λ e. Marked e (characters_in t cs) (drawn_all t (way_after w c) cs) in
    text-append (uses_escapes w) _ (characters_in t cs) (drawn t w c) (drawn_all t (way_after w c) cs)
    (drawn-text t w c (and_first (is_cell t c) (all_cells t cs) p)) (subst P (after_same w c) (text-drawn t (way_after w c) cs (and_second (is_cell t c) (all_cells t cs) p)))

text-all : (t : FixedTable) (w : Way) (cs : List Cell) → all_cells t cs ≡ true → Marked (uses_escapes w) (characters_in t cs) (printed t w cs)
unfolding all_cells
text-all t w [] p = text-turning w Plain
text-all t w (c ∷ cs) p =
    let P : Bool → Type 0 = λ e. Marked e (characters_in t cs) (printed t (way_after w c) cs) in
    text-append (uses_escapes w) _ (characters_in t cs) (drawn t w c) (printed t (way_after w c) cs)
    (drawn-text t w c (and_first (is_cell t c) (all_cells t cs) p)) (subst P (after_same w c) (text-all t (way_after w c) cs (and_second (is_cell t c) (all_cells t cs) p)))

-- ---- the cells of bytes

all-append : (t : FixedTable) (cs ds : List Cell) → all_cells t cs ≡ true → all_cells t ds ≡ true → all_cells t (cs ++ ds) ≡ true
unfolding all_cells
all-append t [] ds p q = q
all-append t (c ∷ cs) ds p q = and_both (is_cell t c) (all_cells t (cs ++ ds)) (and_first (is_cell t c) (all_cells t cs) p) (all-append t cs ds (and_second (is_cell t c) (all_cells t cs) p) q)

all-prefix : (t : FixedTable) (cs ds : List Cell) → all_cells t (cs ++ ds) ≡ true → all_cells t cs ≡ true
unfolding all_cells
all-prefix t [] ds p = refl
all-prefix t (c ∷ cs) ds p = and_both (is_cell t c) (all_cells t cs) (and_first (is_cell t c) (all_cells t (cs ++ ds)) p) (all-prefix t cs ds (and_second (is_cell t c) (all_cells t (cs ++ ds)) p))

all_alone : (x : Bool) (t : FixedTable) (b : ℕ) → all_cells t (if x then Once b ∷ [] else []) ≡ true
unfolding all_cells is_cell
all_alone true t b = refl
all_alone false t b = refl

all_if : (x : Bool) (t : FixedTable) (a c : ℕ) (cs ds : List Cell) → (x ≡ true → strikes t a c ≡ true) → all_cells t cs ≡ true → all_cells t ds ≡ true → all_cells t (if x then Over a c ∷ cs else ds) ≡ true
unfolding all_cells is_cell
all_if true t a c cs ds p q r = and_both (strikes t a c) (all_cells t cs) (p refl) q
all_if false t a c cs ds p q r = r

all-cells : (t : FixedTable) (bs : List ℕ) → all_cells t (cells t bs) ≡ true
all-cells t [] = unfold all_cells in refl
all-cells t (a ∷ []) = all_alone (goes_out t a) t a
all-cells t (a ∷ b ∷ []) = all-append t (alone t a) (alone t b) (all_alone (goes_out t a) t a) (all_alone (goes_out t b) t b)
all-cells t (a ∷ b ∷ c ∷ bs) =
    all_if ((b == 8) && strikes t a c) t a c (cells t bs) (alone t a ++ cells t (b ∷ c ∷ bs)) (λ p. and_second (b == 8) (strikes t a c) p) (all-cells t bs)
    (all-append t (alone t a) (cells t (b ∷ c ∷ bs)) (all_alone (goes_out t a) t a) (all-cells t (b ∷ c ∷ bs)))

-- ---- all that goes out

pub fed-text : (d : FixedTable) (e : Bool) (bs : List ℕ) → IsText e (fed (first_reader d e) bs).bytes
fed-text d e bs =
    let first = first_reader d e in
    let all = kept-all bs first in
    let t = fed first bs in
    let P : List Cell → Type 0 = λ cs. all_cells d cs ≡ true in
    let valid = all-prefix d all.marks (cells d (half_read t.reader.half)) (subst P all.moves (all-cells d bs)) in
    let Q : Bool → Type 0 = λ x. Marked x (characters_in d all.marks) (drawn_all d first.way all.marks) in
    let R : List ℕ → Type 0 = λ xs. IsText e xs in
    subst R (sym all.all.bytes) (text_of e (characters_in d all.marks) (drawn_all d first.way all.marks) (subst Q (first_same e) (text-drawn d first.way all.marks valid)))

converted-marked : (d : FixedTable) (e : Bool) (bs : List ℕ) → Marked e (characters_in d (cells d bs)) (converted d e bs)
converted-marked d e bs =
    let P : Bool → Type 0 = λ x. Marked x (characters_in d (cells d bs)) (converted d e bs) in
    subst P (first_same e) (text-all d (first_way e) (cells d bs) (all-cells d bs))

pub converted-text : (d : FixedTable) (e : Bool) (bs : List ℕ) → IsText e (converted d e bs)
converted-text d e bs = text_of e (characters_in d (cells d bs)) (converted d e bs) (converted-marked d e bs)

pub converted-lines : (d : FixedTable) (e : Bool) (bs : List ℕ) → KeepsLines d e bs (converted d e bs)
converted-lines d e bs =
    let m = converted-marked d e bs in
    record {
      text = record { parts = m.parts; clean = m.clean; scalars = m.scalars; spelled = m.spelled_is };
      characters = m.bare_are;
      lines = ap cells_of_lines m.bare_are;
    }

-- ---- few bytes go out

few-printed : (t : FixedTable) (w : Way) (cs : List Cell) → length (printed t w cs) ≤ 4 * sizes cs + owed w
few-printed t w [] = omega arith
few-printed t w (c ∷ cs) =
    let one = few-drawn t w c in
    let rest = few-printed t (way_after w c) cs in
    let both : length (printed t w (c ∷ cs)) ≡ length (drawn t w c) + length (printed t (way_after w c) cs) = length-append (drawn t w c) (printed t (way_after w c) cs) in
    let split : sizes (c ∷ cs) ≡ size c + sizes cs = refl in
    omega (arith, one, rest, both, split)

owed_first : (e : Bool) → owed (first_way e) ≡ 0
owed_first true = refl
owed_first false = refl

pub converted-few : (d : FixedTable) (e : Bool) (bs : List ℕ) → length (converted d e bs) ≤ 4 * length bs
converted-few d e bs =
    let few = few-printed d (first_way e) (cells d bs) in
    let none = owed_first e in
    let most = few_cells d e bs in
    omega (arith, few, none, most)
