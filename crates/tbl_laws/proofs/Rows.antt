-- The rows of a table are emitted as they stand on the page.
use Rattle.std.proofs.Common.{◌≡◌, ℕ, zero, suc, ◌+◌, ◌-◌, ◌<◌, ◌≤◌, List, [], ◌∷◌, ◌++◌, length, take, drop, Bool, true, false, not, ◌==◌, ◌&&◌, ◌||◌, if◌then◌else◌, Option, None, Some, refl, sym, ◌∙◌, ap, subst, append_assoc, append-nil, length-append, arith}
use Rattle.std.proofs.lemmas.Bool.Decides.{nat_tests}
use Prim.Native.Char.{code}
use Rattle.std.specs.Prelude.{get_or, nat_le}
use Rattle.tbl_table.specs.Rows.{joins}
use Rattle.tbl_reader.specs.declared.state.State.{State}
use Rattle.tbl_reader.specs.Fields.{marks_of, without_blanks_before, one_later, place_of, shape_of}
use Rattle.tbl_reader.specs.Pages.{Page, Effect, effect, rest_of, line_of}
use Rattle.tbl_reader.specs.RowLines.{Said, saying, solid, field_said, text_said, trimmed, shape_said, last_ended, rest_said, fields_ended, ended_at, after_field, next_said}
use Rattle.tbl_reader.specs.States.{field_counted, is_beyond}
use Rattle.tbl_reader.specs.Numbers.{one_more}
use Rattle.tbl_reader.specs.Telling.{Piece}
use Rattle.tbl_reader.proofs.Steady.{choose}
use Rattle.tbl_laws.specs.Rows.{are_fields, are_of_rows, is_mark, is_plain, rows_emitted, text_of}

pub both_first : (x y : Bool) → (x && y) ≡ true → x ≡ true
both_first true y h = refl
both_first false y h = absurd (let no : false ≡ true = h in cc)

pub both_second : (x y : Bool) → (x && y) ≡ true → y ≡ true
both_second true y h = h
both_second false y h = absurd (let no : false ≡ true = h in cc)

pub is_not : (x : Bool) → not x ≡ true → x ≡ false
is_not false h = refl
is_not true h = absurd (let no : false ≡ true = h in cc)

pub none_first : (x y z : Bool) → not (x || y || z) ≡ true → x ≡ false
none_first false y z h = refl
none_first true y z h = absurd (let no : false ≡ true = h in cc)

pub none_second : (x y z : Bool) → not (x || y || z) ≡ true → y ≡ false
none_second false false z h = refl
none_second false true z h = absurd (let no : false ≡ true = h in cc)
none_second true y z h = absurd (let no : false ≡ true = h in cc)

none_third : (x y z : Bool) → not (x || y || z) ≡ true → z ≡ false
none_third false false z h = is_not z h
none_third false true z h = absurd (let no : false ≡ true = h in cc)
none_third true y z h = absurd (let no : false ≡ true = h in cc)

-- ---- a field

no_backslash : (tab a : ℕ) (bs : List ℕ) → is_plain tab (a ∷ bs) ≡ true → (a == code "\\") ≡ false
no_backslash tab a bs h = none_second (a == code "\n") (a == code "\\") (a == tab) (both_first _ _ h)

-- its shape is that of text, or it is empty
pub rest_is : (tab : ℕ) (text : List ℕ) (p : Page) → is_plain tab text ≡ true → is_mark text ≡ false → rest_said (shape_of text) p ≡ last_ended p
rest_is tab [] p h m = refl
rest_is tab (a ∷ []) p h m = rw m refl
rest_is tab (a ∷ b ∷ []) p h m = rw (no_backslash tab a (b ∷ []) h) (rw m refl)
rest_is tab (a ∷ b ∷ c ∷ []) p h m = rw (no_backslash tab a (b ∷ c ∷ []) h) refl
rest_is tab (a ∷ b ∷ c ∷ d ∷ []) p h m = rw (no_backslash tab a (b ∷ c ∷ d ∷ []) h) refl
rest_is tab (a ∷ b ∷ c ∷ d ∷ e ∷ rest) p h m = refl

-- what is known of it
pub record At (tab columns fields : ℕ) (s : State) : Type 0 where
  pub tab_is : s.options.tab ≡ tab
  pub blanks : s.options.nospaces ≡ false
  pub columns_are : s.formats.columns ≡ columns
  pub fields_are : s.fields ≡ fields

-- the pieces of a field are its text
pub record TellsField (tab columns fields : ℕ) (text : List ℕ) (said : Said) : Type 0 where
  pub state : At tab columns fields said.state
  pub emitted : (before : List (List ℕ)) (ps : List Piece) → rows_emitted before (said.pieces ++ ps) ≡ rows_emitted (before ++ text ∷ []) ps
  pub only : are_of_rows said.pieces ≡ true

byte_at : (tab : ℕ) (text : List ℕ) (i : ℕ) → is_plain tab text ≡ true → (get_or text i 0 == code "\\") ≡ false
byte_at tab [] i h = refl
byte_at tab (b ∷ bs) zero h = no_backslash tab b bs h
byte_at tab (b ∷ bs) (suc i) h = byte_at tab bs i (both_second _ _ h)

both_false : (x y z : Bool) → y ≡ false → (x && y && z) ≡ false
both_false true y z h = ap (λ (t : Bool). t && z) h
both_false false y z h = refl

no_join : (tab : ℕ) (text : List ℕ) → is_plain tab text ≡ true → joins text ≡ false
no_join tab text h = both_false (nat_le 2 (length text)) _ _ (byte_at tab text (length text - 2) h)

solid_is : (s : State) (text : List ℕ) → s.options.nospaces ≡ false → solid s text ≡ text
solid_is s text h = ap (λ (t : Bool). if t then take (marks_of s.options.point text).solid text else text) h

text_tells : (tab columns fields : ℕ) (s : State) (text : List ℕ) → At tab columns fields s → is_plain tab text ≡ true → TellsField tab columns fields text (saying s (text_said s text ∷ []))
text_tells tab columns fields s text a h =
    let as_one : not (joins (solid s text)) ≡ true = ap (λ (t : List ℕ). not (joins t)) (solid_is s text a.blanks) ∙ ap not (no_join tab text h) in
    record {
      state = a;
      emitted = λ before ps. ap (λ (t : List ℕ). rows_emitted (before ++ t ∷ []) ps) (solid_is s text a.blanks);
      only = ap (λ (t : Bool). t && true) as_one;
    }

shape_tells : (tab columns fields : ℕ) (s : State) (text : List ℕ) → At tab columns fields s → is_plain tab text ≡ true → is_mark text ≡ false
    → TellsField tab columns fields text (saying s (shape_said (shape_of text) s text ∷ []))
shape_tells tab columns fields s [] a h m = record { state = a; emitted = λ before ps. refl; only = refl }
shape_tells tab columns fields s (b ∷ []) a h m = rw m (text_tells tab columns fields s (b ∷ []) a h)
shape_tells tab columns fields s (b ∷ c ∷ []) a h m = rw (no_backslash tab b (c ∷ []) h) (rw m (text_tells tab columns fields s (b ∷ c ∷ []) a h))
shape_tells tab columns fields s (b ∷ c ∷ d ∷ []) a h m = rw (no_backslash tab b (c ∷ d ∷ []) h) (text_tells tab columns fields s (b ∷ c ∷ d ∷ []) a h)
shape_tells tab columns fields s (b ∷ c ∷ d ∷ e ∷ []) a h m = rw (no_backslash tab b (c ∷ d ∷ e ∷ []) h) (text_tells tab columns fields s (b ∷ c ∷ d ∷ e ∷ []) a h)
shape_tells tab columns fields s (b ∷ c ∷ d ∷ e ∷ f ∷ rest) a h m = text_tells tab columns fields s (b ∷ c ∷ d ∷ e ∷ f ∷ rest) a h

counted : (n most : ℕ) → n < most → one_more n most ≡ n + 1
counted n most h = grind (arith, nat_tests, h)

pub trimmed_is : (s : State) (text : List ℕ) → s.options.nospaces ≡ false → trimmed s text ≡ text
trimmed_is s text h = ap (λ (t : Bool). if t then without_blanks_before text else text) h

pub field_tells : (tab columns fields : ℕ) (s : State) (text : List ℕ) → At tab columns fields s → fields < 65 → is_plain tab text ≡ true → is_mark text ≡ false
    → TellsField tab columns (fields + 1) text (field_said s text)
field_tells tab columns fields s text a few h m =
    let t = shape_tells tab columns fields s text a h m in
    let is : TellsField tab columns (fields + 1) text (saying (field_counted s) (shape_said (shape_of text) s text ∷ [])) = record {
      state = record {
        tab_is = t.state.tab_is;
        blanks = t.state.blanks;
        columns_are = t.state.columns_are;
        fields_are = ap (λ (n : ℕ). one_more n 65) t.state.fields_are ∙ counted fields 65 few;
      };
      emitted = t.emitted;
      only = t.only;
    } in
    subst (λ (x : List ℕ). TellsField tab columns (fields + 1) text (saying (field_counted s) (shape_said (shape_of x) s x ∷ []))) (sym (trimmed_is s text a.blanks)) is

-- ---- the fields of a line, one after the other

place_of_none : (tab : ℕ) (text : List ℕ) → is_plain tab text ≡ true → place_of tab text ≡ None
place_of_none tab [] h = refl
place_of_none tab (b ∷ bs) h =
    let other = none_third (b == code "\n") (b == code "\\") (b == tab) (both_first _ _ h) in
    ap (λ (t : Bool). if t then Some 0 else one_later (place_of tab bs)) other ∙ ap one_later (place_of_none tab bs (both_second _ _ h))

is_itself : (n : ℕ) → (n == n) ≡ true
is_itself n = grind (arith, nat_tests)

place_of_next : (tab : ℕ) (text rest : List ℕ) → is_plain tab text ≡ true → place_of tab (text ++ tab ∷ rest) ≡ Some (length text)
place_of_next tab [] rest h = ap (λ (t : Bool). if t then Some 0 else one_later (place_of tab rest)) (is_itself tab)
place_of_next tab (b ∷ bs) rest h =
    let other = none_third (b == code "\n") (b == code "\\") (b == tab) (both_first _ _ h) in
    ap (λ (t : Bool). if t then Some 0 else one_later (place_of tab (bs ++ tab ∷ rest))) other ∙ ap one_later (place_of_next tab bs rest (both_second _ _ h))
    ∙ ap Some (let one : 1 + length bs ≡ suc (length bs) = omega arith in one)

pub from_there : (xs ys : List ℕ) → drop (length xs) (xs ++ ys) ≡ ys
from_there [] ys = refl
from_there (x ∷ xs) ys = from_there xs ys

pub up_to : (ys zs : List ℕ) → take (length ys) (ys ++ zs) ≡ ys
up_to [] zs = refl
up_to (y ∷ ys) zs = ap (λ (l : List ℕ). y ∷ l) (up_to ys zs)

between : (xs ys zs : List ℕ) → drop (length xs) (take (length xs + length ys) (xs ++ (ys ++ zs))) ≡ ys
between [] ys zs = ap (λ (n : ℕ). take n (ys ++ zs)) (let none : 0 + length ys ≡ length ys = omega arith in none) ∙ up_to ys zs
between (x ∷ xs) ys zs =
    ap (λ (n : ℕ). drop (length (x ∷ xs)) (take n ((x ∷ xs) ++ (ys ++ zs))))
    (let one : suc (length xs) + length ys ≡ suc (length xs + length ys) = omega arith in one)
    ∙ between xs ys zs

pub are_both : (xs ys : List Piece) → are_of_rows xs ≡ true → are_of_rows ys ≡ true → are_of_rows (xs ++ ys) ≡ true
are_both [] ys h k = k
are_both (x ∷ xs) ys h k = ap (λ (t : Bool). t && are_of_rows (xs ++ ys)) (both_first _ _ h) ∙ are_both xs ys (both_second _ _ h) k

-- all but the last of them were emitted
pub record Ends (tab columns : ℕ) (fields : List (List ℕ)) (p : Page) (e : Effect) : Type 0 where
  pub others : List (List ℕ)
  pub last : List ℕ
  pub number : ℕ
  pub all : others ++ last ∷ [] ≡ fields
  pub rest : rest_of e.page ≡ last
  pub plain : is_plain tab last ≡ true
  pub text : is_mark last ≡ false
  pub state : At tab columns number e.page.state
  pub within : number < columns
  pub limits : e.page.limits ≡ p.limits
  pub emitted : (before : List (List ℕ)) (ps : List Piece) → rows_emitted before (e.pieces ++ ps) ≡ rows_emitted (before ++ others) ps
  pub only : are_of_rows e.pieces ≡ true

-- where a line is read up to a field
pub record IsAt (tab columns fields : ℕ) (prefix line : List ℕ) (p : Page) : Type 0 where
  pub state : At tab columns fields p.state
  pub kept : p.kept ≡ prefix ++ line
  pub from : p.from ≡ length prefix
  pub start : p.start ≡ length prefix

line_at : (tab columns fields : ℕ) (prefix line : List ℕ) (p : Page) → IsAt tab columns fields prefix line p → line_of p ≡ line
line_at tab columns fields prefix line p h =
    ap (λ (n : ℕ). drop n p.kept) h.start ∙ ap (drop (length prefix)) h.kept ∙ from_there prefix line

rest_at : (tab columns fields : ℕ) (prefix line : List ℕ) (p : Page) → IsAt tab columns fields prefix line p → rest_of p ≡ line
rest_at tab columns fields prefix line p h =
    ap (λ (n : ℕ). drop n p.kept) h.from ∙ ap (drop (length prefix)) h.kept ∙ from_there prefix line

place_at : (tab columns fields : ℕ) (prefix line : List ℕ) (p : Page) (found : Option ℕ) → IsAt tab columns fields prefix line p → place_of tab line ≡ found
    → place_of p.state.options.tab (line_of p) ≡ found
place_at tab columns fields prefix line p found h is =
    ap (λ (n : ℕ). place_of n (line_of p)) h.state.tab_is ∙ ap (place_of tab) (line_at tab columns fields prefix line p h) ∙ is

field_at : (tab columns fields : ℕ) (prefix text rest : List ℕ) (p : Page) → IsAt tab columns fields prefix (text ++ tab ∷ rest) p
    → drop p.from (take (p.start + length text) p.kept) ≡ text
field_at tab columns fields prefix text rest p h =
    ap (λ (n : ℕ). drop n (take (p.start + length text) p.kept)) h.from
    ∙ ap (λ (n : ℕ). drop (length prefix) (take (n + length text) p.kept)) h.start
    ∙ ap (λ (xs : List ℕ). drop (length prefix) (take (length prefix + length text) xs)) h.kept
    ∙ between prefix text (tab ∷ rest)

next_tells : (tab columns fields : ℕ) (prefix text rest : List ℕ) (p : Page) → IsAt tab columns fields prefix (text ++ tab ∷ rest) p → fields < 65
    → is_plain tab text ≡ true → is_mark text ≡ false → TellsField tab columns (fields + 1) text (next_said (length text) p)
next_tells tab columns fields prefix text rest p h few plain m =
    subst (λ (x : List ℕ). TellsField tab columns (fields + 1) text (field_said p.state x)) (sym (field_at tab columns fields prefix text rest p h))
    (field_tells tab columns fields p.state text h.state few plain m)

-- where the next one begins
at_next : (tab columns fields : ℕ) (prefix text rest : List ℕ) (p : Page) → IsAt tab columns fields prefix (text ++ tab ∷ rest) p
    → TellsField tab columns (fields + 1) text (next_said (length text) p)
    → IsAt tab columns (fields + 1) (prefix ++ (text ++ tab ∷ [])) rest (after_field (length text) p)
at_next tab columns fields prefix text rest p h t =
    let whole = length-append prefix (text ++ tab ∷ []) in
    let own = length-append text (tab ∷ []) in
    record {
      state = t.state;
      kept = h.kept ∙ ap (λ (xs : List ℕ). prefix ++ xs) (sym (append_assoc text (tab ∷ []) rest)) ∙ sym (append_assoc prefix (text ++ tab ∷ []) rest);
      from = omega (arith, whole, own, h.start);
      start = omega (arith, whole, own, h.start);
    }

ends_here : (tab columns fields n : ℕ) (prefix text : List ℕ) (p : Page) → IsAt tab columns fields prefix text p → fields < columns
    → is_plain tab text ≡ true → is_mark text ≡ false → Ends tab columns (text ∷ []) p (fields_ended n p)
ends_here tab columns fields n prefix text p h less plain m = by_count n
  where
    here : Ends tab columns (text ∷ []) p (effect p [])
    here = record {
      others = [];
      last = text;
      number = fields;
      all = refl;
      rest = rest_at tab columns fields prefix text p h;
      plain = plain;
      text = m;
      state = h.state;
      within = less;
      limits = refl;
      emitted = λ before ps. ap (λ (l : List (List ℕ)). rows_emitted l ps) (sym (append-nil before));
      only = refl;
    }

    by_count : (k : ℕ) → Ends tab columns (text ∷ []) p (fields_ended k p)
    by_count zero = here
    by_count (suc k) =
        subst (λ (o : Option ℕ). Ends tab columns (text ∷ []) p (ended_at o (fields_ended k) p))
        (sym (place_at tab columns fields prefix text p None h (place_of_none tab text plain))) here

ends_more : (tab columns fields n : ℕ) (prefix first rest : List ℕ) (more : List (List ℕ)) (p : Page) → IsAt tab columns fields prefix (first ++ tab ∷ rest) p
    → is_plain tab first ≡ true → TellsField tab columns (fields + 1) first (next_said (length first) p)
    → Ends tab columns more (after_field (length first) p) (fields_ended n (after_field (length first) p))
    → Ends tab columns (first ∷ more) p (fields_ended (suc n) p)
ends_more tab columns fields n prefix first rest more p h plain t e =
    subst (λ (o : Option ℕ). Ends tab columns (first ∷ more) p (ended_at o (fields_ended n) p))
    (sym (place_at tab columns fields prefix (first ++ tab ∷ rest) p (Some (length first)) h (place_of_next tab first rest plain)))
    (record {
      others = first ∷ e.others;
      last = e.last;
      number = e.number;
      all = ap (λ (l : List (List ℕ)). first ∷ l) e.all;
      rest = e.rest;
      plain = e.plain;
      text = e.text;
      state = e.state;
      within = e.within;
      limits = e.limits;
      emitted = λ before ps.
          let more_said = (fields_ended n (after_field (length first) p)).pieces in
          ap (rows_emitted before) (append_assoc (next_said (length first) p).pieces more_said ps)
          ∙ t.emitted before (more_said ++ ps)
          ∙ e.emitted (before ++ first ∷ []) ps
          ∙ ap (λ (l : List (List ℕ)). rows_emitted l ps) (append_assoc before (first ∷ []) e.others);
      only = are_both (next_said (length first) p).pieces (fields_ended n (after_field (length first) p)).pieces t.only e.only;
    })

pub fields_end : (tab columns fields n : ℕ) (prefix first : List ℕ) (others : List (List ℕ)) (p : Page) → IsAt tab columns fields prefix (text_of tab first others) p
    → fields + length others < columns → columns ≤ 64 → n ≡ columns - fields → are_fields tab first others ≡ true
    → Ends tab columns (first ∷ others) p (fields_ended n p)
fields_end tab columns fields n prefix first [] p h less few count are =
    ends_here tab columns fields n prefix first p h (omega (arith, less)) (both_first _ _ are) (is_not _ (both_second _ _ are))
fields_end tab columns fields zero prefix first (next ∷ others) p h less few count are = absurd (omega (arith, less, count))
fields_end tab columns fields (suc n) prefix first (next ∷ others) p h less few count are =
    let plain : is_plain tab first ≡ true =
    both_first (is_plain tab first) (not (is_mark first)) (both_first (is_plain tab first && not (is_mark first)) (are_fields tab next others) are) in
    let text : is_mark first ≡ false =
    is_not (is_mark first) (both_second (is_plain tab first) (not (is_mark first)) (both_first (is_plain tab first && not (is_mark first)) (are_fields tab next others) are)) in
    let rest = text_of tab next others in
    let t = next_tells tab columns fields prefix first rest p h (omega (arith, less, few)) plain text in
    ends_more tab columns fields n prefix first rest (next ∷ others) p h plain t
    (fields_end tab columns (fields + 1) n (prefix ++ (first ++ tab ∷ [])) next others (after_field (length first) p)
    (at_next tab columns fields prefix first rest p h t) (omega (arith, less)) few (omega (arith, less, count)) (both_second _ _ are))
