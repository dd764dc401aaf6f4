-- The line of a row without bars: its fields that have text, with blanks before each.
use Rattle.std.proofs.Common.{◌≡◌, ℕ, zero, suc, ◌-◌, ◌<◌, ◌≤◌, List, [], ◌∷◌, ◌++◌, length, take, drop, replicate, codes, Bool, true, false, not, ◌==◌, ◌&&◌, ◌||◌, if◌then◌else◌, nat_le, nat_lt, max, refl, sym, ◌∙◌, ap, subst, append_assoc, append-nil, arith}
use Rattle.std.specs.Prelude.{None, Option, Some}
use Prim.Native.Char.{code}
use Rattle.std.proofs.lemmas.Bool.{eqb-true, le-leb}
use Rattle.std.proofs.lemmas.Bool.Decides.{nat_tests}
use Rattle.tbl_columns.specs.declared.grid.Cell.{Cell}
use Rattle.tbl_drawing.specs.declared.layout.Layout.{Layout}
use Rattle.tbl_drawing.specs.declared.pen.Pen.{Pen}
use Rattle.tbl_blocks.specs.declared.parts.Font.{Font}
use Rattle.tbl_drawing.specs.Drawing.{begin_of, field_in, field_strokes, first_byte, first_in, font_back, font_if, if_sure, text_strokes}
use Rattle.tbl_drawing.specs.Pens.{Stroke, To, Release, Guard, Begun, Text, Pass, after_all, bytes_of, furthest, guard, lead, on_from, steps_from, steps_to, to, to_bytes}
use Rattle.tbl_table.specs.declared.table.Form.{Form}
use Rattle.tbl_table.specs.declared.table.Form.TheVariants as forms
use Rattle.tbl_table.specs.declared.table.Span.{Span}
use Rattle.tbl_table.specs.Held.{is_text, part, text_of}
use Rattle.tbl_table.specs.Sums.{sum}
use Rattle.tbl_laws.specs.Lines.{AreLines, HasFields, before_field, begins_request}

-- ---- fields in bytes, one after the other

-- whether a line on which fields stand still begins after some
abbrev pub still : Bool → List (List ℕ) → Bool
still begins [] = begins
still begins ([] ∷ fs) = still begins fs
still begins ((b ∷ bs) ∷ fs) = still false fs

pub fields_then : (begins : Bool) (fs : List (List ℕ)) (f : List ℕ) (xs ys : List ℕ) → HasFields begins fs xs → HasFields (still begins fs) (f ∷ []) ys
    → HasFields begins (fs ++ f ∷ []) (xs ++ ys)
fields_then begins [] f xs ys h k = subst (λ (l : List ℕ). HasFields begins (f ∷ []) (l ++ ys)) (sym h) k
fields_then begins ([] ∷ fs) f xs ys h k = fields_then begins fs f xs ys h k
fields_then begins ((b ∷ bs) ∷ fs) f xs ys (n, more, is, rest) k = (
  n,
  more ++ ys,
  ap (λ (l : List ℕ). l ++ ys) is ∙ append_assoc (before_field begins n b ++ (b ∷ bs)) more ys,
  fields_then false fs f more ys rest k,
)

pub lines_then : (rs : List (List (List ℕ))) (r : List (List ℕ)) (xs line : List ℕ) → AreLines rs xs → HasFields true r line → AreLines (rs ++ r ∷ []) (xs ++ (line ++ codes "\n"))
lines_then [] r xs line h k =
    subst (λ (l : List ℕ). AreLines (r ∷ []) (l ++ (line ++ codes "\n"))) (sym h) (line, [], sym (append-nil (line ++ codes "\n")), k, refl)
lines_then (q ∷ rs) r xs line (first, more, is, fields, rest) k = (
  first,
  more ++ (line ++ codes "\n"),
  ap (λ (l : List ℕ). l ++ (line ++ codes "\n")) is ∙ append_assoc (first ++ codes "\n") more (line ++ codes "\n"),
  fields,
  lines_then rs r more line rest k,
)

-- ---- a pen at a place that shows; a line begins, or goes on

pub record IsShown (begins : Bool) (p : Pen) : Type 0 where
  pub place : ℕ
  pub at : p.at ≡ Some place
  pub begun : p.begun ≡ not begins

-- what a field's strokes come to
pub record Writes (begins : Bool) (strokes : List Stroke) (field : List ℕ) (p : Pen) : Type 0 where
  pub fields : HasFields begins (field ∷ []) (bytes_of strokes p)
  pub shown : IsShown (still begins (field ∷ [])) (after_all strokes p)

-- blanks, and what keeps a byte from being a control character
blanks_of : ℕ → Bool → List ℕ
blanks_of n begun = if n == 0 then [] else lead begun ++ replicate n (code " ")

none_before : (n : ℕ) (z : Bool) → (n == 0) ≡ z → nat_lt 0 n ≡ not z
none_before n true e = grind (arith, nat_tests, e)
none_before n false e = grind (arith, nat_tests, e)

by_tests : (z begins x : Bool) (bs : List ℕ) → (z ≡ true → bs ≡ [])
    → (if z then [] else lead (not begins) ++ bs) ++ (if not (not begins || not z) && x then codes "\\&" else [])
    ≡ (if begins && (not z || x) then codes "\\&" ++ bs else bs)
by_tests true true true bs e = ap (λ (l : List ℕ). codes "\\&" ++ l) (sym (e refl))
by_tests true true false bs e = sym (e refl)
by_tests true false x bs e = sym (e refl)
by_tests false true x bs e = append-nil (codes "\\&" ++ bs)
by_tests false false x bs e = append-nil bs

before_is : (begins : Bool) (n b : ℕ) → blanks_of n (not begins) ++ guard (not begins || nat_lt 0 n) b ≡ before_field begins n b
unfolding blanks_of
before_is begins n b =
    ap (λ (x : Bool). blanks_of n (not begins) ++ guard (not begins || x) b) (none_before n (n == 0) refl)
    ∙ by_tests (n == 0) begins (begins_request b) (replicate n (code " ")) (λ e. ap (λ (m : ℕ). replicate m (code " ")) (eqb-true n 0 e))

abbrev text_at : ℕ → ℕ → List ℕ → ℕ → List Stroke
text_at place first text cells = To place ∷ Release ∷ Guard first ∷ Begun ∷ Text text ∷ Pass (Some cells) ∷ []

text_written : (begins : Bool) (place cells b : ℕ) (bs : List ℕ) (p : Pen) → IsShown begins p → Writes begins (text_at place b (b ∷ bs) cells) (b ∷ bs) p
unfolding blanks_of
text_written begins place cells b bs p h =
    let k = place - h.place in
    let n = sum p.blanks k in
    let shows : steps_to place p ≡ Some k = ap (λ (o : Option ℕ). steps_from o place) h.at in
    let rest = Release ∷ Guard b ∷ Begun ∷ Text (b ∷ bs) ∷ Pass (Some cells) ∷ [] in
    let moves : furthest p.at place ≡ Some (max h.place place) = ap (λ (o : Option ℕ). furthest o place) h.at in
    record {
      fields = (
        n,
        [],
        ap (λ (o : Option ℕ). to_bytes o place p ++ bytes_of rest (to o place p)) shows
            ∙ ap (λ (x : Bool). blanks_of n x ++ (guard (x || nat_lt 0 n) b ++ ((b ∷ bs) ++ []))) h.begun
            ∙ sym (append_assoc (blanks_of n (not begins)) (guard (not begins || nat_lt 0 n) b) ((b ∷ bs) ++ []))
            ∙ ap (λ (l : List ℕ). l ++ ((b ∷ bs) ++ [])) (before_is begins n b)
            ∙ sym (append_assoc (before_field begins n b) (b ∷ bs) []),
        refl,
      );
      shown = record {
        place = sum (max h.place place) cells;
        at = ap (λ (o : Option ℕ). (after_all rest (to o place p)).at) shows ∙ ap (λ (o : Option ℕ). on_from o (Some cells)) moves;
        begun = ap (λ (o : Option ℕ). (after_all rest (to o place p)).begun) shows;
      };
    }

-- ---- a field of text whose width shows

pub record IsPlain (l : Layout) (f : Cell) (text : List ℕ) : Type 0 where
  pub font : f.key.font ≡ None
  pub form : f.field.form ≡ forms.Text
  pub sure : f.sure ≡ true
  pub text_is : text_of l.grid.table f.field.span ≡ text

-- its text is its own
strokes_are : (l : Layout) (f : Cell) (text : List ℕ) → IsPlain l f text → text_strokes l f ≡ text_at (begin_of l f) (first_byte text) text f.width
strokes_are l f text h =
    let place = begin_of l f in
    ap (λ (n : Option Font). To place ∷ Release ∷ Guard (first_in n (text_of l.grid.table f.field.span)) ∷ Begun
    ∷ Text (font_if n ++ text_of l.grid.table f.field.span ++ font_back n (text_of l.grid.table f.field.span)) ∷ Pass (if_sure f.sure f.width) ∷ []) h.font
    ∙ ap (λ (x : Bool). To place ∷ Release ∷ Guard (first_byte (text_of l.grid.table f.field.span)) ∷ Begun
    ∷ Text (text_of l.grid.table f.field.span ++ []) ∷ Pass (if_sure x f.width) ∷ []) h.sure
    ∙ ap (λ (bs : List ℕ). To place ∷ Release ∷ Guard (first_byte (text_of l.grid.table f.field.span)) ∷ Begun ∷ Text bs ∷ Pass (Some f.width) ∷ []) (append-nil (text_of l.grid.table f.field.span))
    ∙ ap (λ (bs : List ℕ). text_at place (first_byte bs) bs f.width) h.text_is

-- ---- a field has text where its span has bytes

pub record SpanIs (text : List ℕ) (s : Span) : Type 0 where
  pub some : nat_lt s.start s.«end» ≡ true → (b : ℕ) × (bs : List ℕ) × (part text s ≡ b ∷ bs)
  pub none : nat_lt s.start s.«end» ≡ false → part text s ≡ []

not_empty : (xs : List ℕ) → 0 < length xs → (b : ℕ) × (bs : List ℕ) × (xs ≡ b ∷ bs)
not_empty [] h = absurd (omega (arith, h))
not_empty (x ∷ xs) h = (x, xs, refl)

take_long : (n : ℕ) (xs : List ℕ) → n ≤ length xs → length (take n xs) ≡ n
take_long zero xs h = refl
take_long (suc n) [] h = absurd (omega (arith, h))
take_long (suc n) (x ∷ xs) h = ap suc (take_long n xs (omega (arith, h)))

drop_long : (n : ℕ) (xs : List ℕ) → length (drop n xs) ≡ length xs - n
drop_long zero xs = omega arith
drop_long (suc n) [] = omega arith
drop_long (suc n) (x ∷ xs) = (let d = drop_long n xs in omega (arith, d))

taken : (text : List ℕ) (s : Span) (x y : Bool) → x ≡ true → y ≡ true
    → (if x && y then take (s.«end» - s.start) (drop s.start text) else []) ≡ take (s.«end» - s.start) (drop s.start text)
taken text s true true e f = refl
taken text s true false e f = absurd (let no : false ≡ true = f in cc)
taken text s false y e f = absurd (let no : false ≡ true = e in cc)

pub span_is : (text : List ℕ) (s : Span) → s.«end» ≤ length text → SpanIs text s
span_is text s h = record { some = some_in; none = none_in (nat_le s.start s.«end») refl }
  where
    some_in : nat_lt s.start s.«end» ≡ true → (b : ℕ) × (bs : List ℕ) × (part text s ≡ b ∷ bs)
    some_in e =
        (let less : s.start < s.«end» = grind (arith, nat_tests, e) in
        let a : nat_le s.start s.«end» ≡ true = le-leb _ _ (omega (arith, less)) in
        let b : nat_le s.«end» (length text) ≡ true = le-leb _ _ h in
        let d = drop_long s.start text in
        let long = take_long (s.«end» - s.start) (drop s.start text) (omega (arith, d, less, h)) in
        let bytes = not_empty (take (s.«end» - s.start) (drop s.start text)) (omega (arith, long, less)) in (
          bytes.0,
          bytes.1,
          taken text s (nat_le s.start s.«end») (nat_le s.«end» (length text)) a b ∙ bytes.2,
        ))

    no_bytes : List ℕ
    no_bytes = []

    nothing : (x : Bool) → (if x then no_bytes else no_bytes) ≡ no_bytes
    nothing true = refl
    nothing false = refl

    none_in : (b : Bool) → nat_le s.start s.«end» ≡ b → nat_lt s.start s.«end» ≡ false → part text s ≡ []
    none_in false e f = ap (λ (x : Bool). if x && nat_le s.«end» (length text) then take (s.«end» - s.start) (drop s.start text) else []) e
    none_in true e f =
        (let none : s.«end» - s.start ≡ 0 = grind (arith, nat_tests, f) in
        ap (λ (n : ℕ). if nat_le s.start s.«end» && nat_le s.«end» (length text) then take n (drop s.start text) else []) none
        ∙ nothing (nat_le s.start s.«end» && nat_le s.«end» (length text)))

pub field_written : (l : Layout) (f : Cell) (text : List ℕ) (begins : Bool) (p : Pen) → IsPlain l f text → SpanIs l.grid.table.text.items f.field.span → IsShown begins p
    → Writes begins (field_strokes l f) text p
field_written l f text begins p h s shown =
    subst (λ (ks : List Stroke). Writes begins ks text p) (sym (ap (λ (x : Form). field_in x l f) h.form ∙ ap (λ (x : Form). if is_text x && some then text_strokes l f else []) h.form))
    (by_test some refl)
  where
    some : Bool
    some = nat_lt f.field.span.start f.field.span.«end»

    by_test : (b : Bool) → nat_lt f.field.span.start f.field.span.«end» ≡ b → Writes begins (if b then text_strokes l f else []) text p
    by_test true e =
        (let (b, bs, is) = s.some e in
        let text_is : text ≡ b ∷ bs = sym h.text_is ∙ is in
        subst (λ (ks : List Stroke). Writes begins ks text p) (sym (strokes_are l f text h))
        (subst (λ (bytes : List ℕ). Writes begins (text_at (begin_of l f) (first_byte bytes) bytes f.width) bytes p) (sym text_is)
        (text_written begins (begin_of l f) f.width b bs p shown)))
    by_test false e =
        subst (λ (bytes : List ℕ). Writes begins [] bytes p) (sym (s.none e) ∙ h.text_is) (record { fields = refl; shown = shown })
