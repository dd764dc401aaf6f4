-- The rows that are emitted are held as they were emitted.
use Rattle.std.proofs.Common.{◌≡◌, ℕ, zero, suc, ◌+◌, ◌-◌, ◌<◌, ◌≤◌, List, [], ◌∷◌, ◌++◌, length, map, take, drop, Bool, true, false, ◌&&◌, if◌then◌else◌, nat_le, nat_lt, refl, sym, ◌∙◌, ap, subst, append-nil, length-append, arith}
use Rattle.std.proofs.lemmas.Bool.{le-leb, le-ltb, leb-true, lt-leb, lt-ltb}
use Rattle.std.proofs.lemmas.Bool.Decides.{nat_tests}
use Rattle.tbl_table.specs.declared.table.Field.{Field}
use Rattle.tbl_table.specs.declared.table.Span.{Span}
use Rattle.tbl_table.specs.declared.table.Table.{Table}
use Rattle.tbl_table.specs.Held.{part}
use Rattle.tbl_laws.specs.HeldRows.{texts_held}
use Rattle.tbl_table.specs.Rows.{field_added, is_tight, joined, joins, line_after, mark_added, row_added, row_ended, row_ended_in, row_read, rules_in, rules_skipped}
use Rattle.tbl_table.specs.declared.table.Row.{Row}
use Rattle.tbl_table.specs.declared.table.Form.TheVariants as forms
use Rattle.std.specs.Prelude.{Option, None, ◌||◌}
use Rattle.tbl_table.specs.Sums.{sum}

-- ---- parts of a text that grows

take_prefix : (n : ℕ) (xs ys : List ℕ) → n ≤ length xs → take n (xs ++ ys) ≡ take n xs
take_prefix zero xs ys h = refl
take_prefix (suc n) [] ys h = absurd (omega (arith, h))
take_prefix (suc n) (x ∷ xs) ys h = ap (λ (l : List ℕ). x ∷ l) (take_prefix n xs ys (omega (arith, h)))

part_prefix : (s n : ℕ) (xs ys : List ℕ) → s + n ≤ length xs → take n (drop s (xs ++ ys)) ≡ take n (drop s xs)
part_prefix zero n xs ys h = take_prefix n xs ys (omega (arith, h))
part_prefix (suc s) n [] ys h = absurd (omega (arith, h))
part_prefix (suc s) n (x ∷ xs) ys h = part_prefix s n xs ys (omega (arith, h))

part_by : (before : Bool) (xs ys : List ℕ) (s : Span) → nat_le s.start s.«end» ≡ before → s.«end» ≤ length xs → part (xs ++ ys) s ≡ part xs s
part_by false xs ys s e h = rw e refl
part_by true xs ys s e h =
    let long = length-append xs ys in
    let order : s.start ≤ s.«end» = leb-true _ _ e in
    let now : nat_le s.«end» (length (xs ++ ys)) ≡ true = le-leb _ _ (omega (arith, long, h)) in
    let was : nat_le s.«end» (length xs) ≡ true = le-leb _ _ h in
    ap (λ (t : Bool). if t then take (s.«end» - s.start) (drop s.start (xs ++ ys)) else []) (both e now)
    ∙ part_prefix s.start (s.«end» - s.start) xs ys (omega (arith, order, h))
    ∙ sym (ap (λ (t : Bool). if t then take (s.«end» - s.start) (drop s.start xs) else []) (both e was))
  where
    both : {x y : Bool} → x ≡ true → y ≡ true → (x && y) ≡ true
    both {x} {y} e f = ap (λ (t : Bool). t && y) e ∙ f

part_stays : (xs ys : List ℕ) (s : Span) → s.«end» ≤ length xs → part (xs ++ ys) s ≡ part xs s
part_stays xs ys s h = part_by (nat_le s.start s.«end») xs ys s refl h

from_end : (xs ys : List ℕ) → drop (length xs) (xs ++ ys) ≡ ys
from_end [] ys = refl
from_end (x ∷ xs) ys = from_end xs ys

whole : (xs : List ℕ) → take (length xs) xs ≡ xs
whole [] = refl
whole (x ∷ xs) = ap (λ (l : List ℕ). x ∷ l) (whole xs)

span_of : ℕ → ℕ → Span
span_of a b = record { start = a; «end» = b }

-- the part that was added last
part_last : (xs ys : List ℕ) (e : ℕ) → e ≡ length xs + length ys → part (xs ++ ys) (span_of (length xs) e) ≡ ys
unfolding span_of
part_last xs ys e is =
    let long = length-append xs ys in
    let one : nat_le (length xs) e ≡ true = le-leb _ _ (omega (arith, is)) in
    let two : nat_le e (length (xs ++ ys)) ≡ true = le-leb _ _ (omega (arith, is, long)) in
    let many : e - length xs ≡ length ys = omega (arith, is) in
    ap (λ (t : Bool). if t && nat_le e (length (xs ++ ys)) then take (e - length xs) (drop (length xs) (xs ++ ys)) else []) one
    ∙ ap (λ (t : Bool). if t then take (e - length xs) (drop (length xs) (xs ++ ys)) else []) two
    ∙ ap (λ (n : ℕ). take n (drop (length xs) (xs ++ ys))) many
    ∙ ap (take (length ys)) (from_end xs ys) ∙ whole ys

-- all spans end within it
unfoldable pub IsWithin : ℕ → List Field → Type 0
IsWithin n [] = Unit {0}
IsWithin n (f ∷ fs) = (f.span.«end» ≤ n) × IsWithin n fs

unfoldable pub texts_in : List ℕ → List Field → List (List ℕ)
texts_in text fs = map (λ (f : Field). part text f.span) fs

texts_stay : (xs ys : List ℕ) (fs : List Field) → IsWithin (length xs) fs → texts_in (xs ++ ys) fs ≡ texts_in xs fs
unfolding IsWithin texts_in
texts_stay xs ys [] h = refl
texts_stay xs ys (f ∷ fs) h =
    ap (λ (l : List ℕ). l ∷ texts_in (xs ++ ys) fs) (part_stays xs ys f.span h.0) ∙ ap (λ (l : List (List ℕ)). part xs f.span ∷ l) (texts_stay xs ys fs h.1)

texts_both : (text : List ℕ) (fs gs : List Field) → texts_in text (fs ++ gs) ≡ texts_in text fs ++ texts_in text gs
unfolding texts_in
texts_both text [] gs = refl
texts_both text (f ∷ fs) gs = ap (λ (l : List (List ℕ)). part text f.span ∷ l) (texts_both text fs gs)

within_more : (m n : ℕ) (fs : List Field) → m ≤ n → IsWithin m fs → IsWithin n fs
unfolding IsWithin
within_more m n [] h w = tt
within_more m n (f ∷ fs) h w = ((let e = w.0 in omega (arith, e, h)), within_more m n fs h w.1)

within_both : (n : ℕ) (fs : List Field) (g : Field) → IsWithin n fs → g.span.«end» ≤ n → IsWithin n (fs ++ g ∷ [])
unfolding IsWithin
within_both n [] g w h = (h, tt)
within_both n (f ∷ fs) g w h = (w.0, within_both n fs g w.1 h)

-- ---- one field more

-- what a field adds
pub record Grown (t u : Table) (text : List ℕ) : Type 0 where
  pub texts : texts_in u.text.items u.fields.items ≡ texts_in t.text.items t.fields.items ++ text ∷ []
  pub within : IsWithin (length u.text.items) u.fields.items
  pub length_is : length u.text.items ≡ length t.text.items + length text
  pub fields : length u.fields.items ≡ length t.fields.items + 1

-- a field of the text that was added
grown_by : (t u : Table) (text : List ℕ) (f : Field) → IsWithin (length t.text.items) t.fields.items → u.text.items ≡ t.text.items ++ text
    → u.fields.items ≡ t.fields.items ++ f ∷ [] → f.span.start ≡ length t.text.items → f.span.«end» ≡ length t.text.items + length text → Grown t u text
unfolding texts_in span_of
grown_by t u text f w text_is fields_are start end =
    let long = length-append t.text.items text in
    let more = length-append t.fields.items (f ∷ []) in
    let last : part (t.text.items ++ text) f.span ≡ text =
    ap (λ (n : ℕ). part (t.text.items ++ text) (record { start = n; «end» = f.span.«end» })) start ∙ part_last t.text.items text f.span.«end» end in
    record {
      texts = ap (λ (xs : List ℕ). texts_in xs u.fields.items) text_is ∙ ap (texts_in (t.text.items ++ text)) fields_are
          ∙ texts_both (t.text.items ++ text) t.fields.items (f ∷ [])
          ∙ ap (λ (l : List (List ℕ)). l ++ part (t.text.items ++ text) f.span ∷ []) (texts_stay t.text.items text t.fields.items w)
          ∙ ap (λ (l : List ℕ). texts_in t.text.items t.fields.items ++ l ∷ []) last;
      within = subst (λ (fs : List Field). IsWithin (length u.text.items) fs) (sym fields_are)
          (within_both (length u.text.items) t.fields.items f
          (within_more (length t.text.items) (length u.text.items) t.fields.items (let l = ap length text_is in omega (arith, l, long)) w)
          (let l = ap length text_is in omega (arith, l, long, end)));
      length_is = ap length text_is ∙ long;
      fields = ap length fields_are ∙ more;
    }

-- what else a field leaves as it was
pub record Like (t u : Table) : Type 0 where
  pub lines : u.lines ≡ t.lines
  pub first : u.next_line ≡ t.next_line
  pub text : u.text.capacity ≡ t.text.capacity
  pub most : u.most_text ≡ t.most_text
  pub fields : u.fields.capacity ≡ t.fields.capacity
  pub rows : u.rows ≡ t.rows
  pub items : u.items ≡ t.items
  pub from : u.row_from ≡ t.row_from

pub one_more : {A : Type 0} (xs : List A) (x : A) (capacity : ℕ) → length xs < capacity → (if nat_lt (length xs) capacity then xs ++ x ∷ [] else xs) ≡ xs ++ x ∷ []
one_more xs x capacity h = ap (λ (t : Bool). if t then xs ++ x ∷ [] else xs) (lt-ltb (length xs) capacity h)

field_of : ℕ → ℕ → Option ℕ → Field
field_of a b prefix = record { form = forms.Text; span = record { start = a; «end» = b }; prefix = prefix }

pub field_grows : (t : Table) (text : List ℕ) (prefix : Option ℕ) → IsWithin (length t.text.items) t.fields.items → joins text ≡ false
    → length t.text.items + length text ≤ t.text.capacity → length t.fields.items < t.fields.capacity → Grown t (field_added text prefix t) text
unfolding field_of
field_grows t text prefix w plain room few =
    let fits : nat_le (length text) (t.text.capacity - length t.text.items) ≡ true = le-leb _ _ (omega (arith, room)) in
    let text_is : (field_added text prefix t).text.items ≡ t.text.items ++ text =
    ap (λ (x : Bool). if x then t.text.items ++ text else t.text.items) fits in
    let none : joined text ≡ 0 = ap (λ (x : Bool). if x then 2 else 0) plain in
    let long = length-append t.text.items text in
    let now = ap length text_is in
    grown_by t (field_added text prefix t) text (field_of (length t.text.items) (length (field_added text prefix t).text.items - joined text) prefix) w text_is
    (one_more t.fields.items _ t.fields.capacity few) refl (omega (arith, long, now, none))

pub field_like : (t : Table) (text : List ℕ) (prefix : Option ℕ) → Like t (field_added text prefix t)
field_like t text prefix = record { lines = refl; first = refl; text = refl; most = refl; fields = refl; rows = refl; items = refl; from = refl }

pub mark_grows : (t : Table) → IsWithin (length t.text.items) t.fields.items → length t.fields.items < t.fields.capacity → Grown t (mark_added forms.Text t) []
unfolding field_of
mark_grows t w few =
    grown_by t (mark_added forms.Text t) [] (field_of (length t.text.items) (length t.text.items) None) w (sym (append-nil t.text.items))
    (one_more t.fields.items _ t.fields.capacity few) refl (let n : length t.text.items ≡ length t.text.items + 0 = omega arith in n)

pub mark_like : (t : Table) → Like t (mark_added forms.Text t)
mark_like t = record { lines = refl; first = refl; text = refl; most = refl; fields = refl; rows = refl; items = refl; from = refl }

-- ---- a row more

row_of : Table → Row
row_of t = row_read t

rules_none : (t : Table) → length t.lines.items ≤ 1 → t.next_line ≡ 0 → rules_skipped t ≡ t
rules_none t few first = ap (λ (n : ℕ). rules_in n t) (let n : length t.lines.items - 1 - t.next_line ≡ 0 = omega (arith, few) in n)

pub row_is : (t : Table) → length t.lines.items ≤ 1 → t.next_line ≡ 0 → length t.rows.items < t.rows.capacity → length t.items.items < t.items.capacity
    → row_ended t ≡ row_added t
row_is t few first rows items =
    let full : nat_le t.rows.capacity (length t.rows.items) ≡ false = grind (arith, nat_tests, rows) in
    let more : nat_le t.items.capacity (length t.items.items) ≡ false = grind (arith, nat_tests, items) in
    ap row_ended_in (rules_none t few first)
    ∙ ap (λ (x : Bool). if x || nat_le t.items.capacity (length t.items.items) then t else row_added t) full
    ∙ ap (λ (x : Bool). if x then t else row_added t) more

pub line_stays : (t : Table) → length t.lines.items ≤ 1 → t.next_line ≡ 0 → line_after t ≡ 0
line_stays t few first =
    let last : nat_lt (sum t.next_line 1) (length t.lines.items) ≡ false = ap (λ (n : ℕ). nat_lt (sum n 1) (length t.lines.items)) first ∙ (let f = few in grind (arith, nat_tests)) in
    ap (λ (x : Bool). if x then sum t.next_line 1 else t.next_line) last ∙ first

pub loose : (t : Table) → length t.text.items < t.most_text → length t.rows.items + 2 ≤ t.rows.capacity → length t.fields.items + 66 ≤ t.fields.capacity
    → length t.items.items + 258 ≤ t.items.capacity → is_tight t ≡ false
loose t text rows fields items =
    let a : nat_le t.most_text (length t.text.items - t.rows_from) ≡ false = lt-leb _ _ (omega (arith, text)) in
    let b : nat_lt (t.rows.capacity - length t.rows.items) 2 ≡ false = le-ltb _ _ (omega (arith, rows)) in
    let c : nat_lt (t.fields.capacity - length t.fields.items) 66 ≡ false = le-ltb _ _ (omega (arith, fields)) in
    let d : nat_lt (t.items.capacity - length t.items.items) 258 ≡ false = le-ltb _ _ (omega (arith, items)) in
    rw a (rw b (rw c (rw d refl)))

-- ---- nothing is held

pub none_within : (n : ℕ) → IsWithin n []
unfolding IsWithin
none_within n = tt

pub no_texts : (text : List ℕ) → texts_in text [] ≡ []
unfolding texts_in
no_texts text = refl

pub texts_are : (t : Table) → texts_held t ≡ texts_in t.text.items t.fields.items
unfolding texts_in
texts_are t = refl
