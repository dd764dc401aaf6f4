-- The rows that are emitted, one after the other: where the page stands after them, and how much was emitted.
use Rattle.std.proofs.Common.{◌≡◌, ℕ, ◌+◌, List, [], ◌∷◌, ◌++◌, length, Bool, true, false, refl, sym, ◌∙◌, ap, subst, append_assoc, append-nil, length-append, arith}
use Prim.Native.Char.{code}
use Rattle.tbl_reader.specs.declared.field.Mark.TheVariants as marks
use Rattle.tbl_reader.specs.declared.reader.Limits.{Limits}
use Rattle.tbl_reader.specs.declared.telling.Tell.{Tell}
use Rattle.tbl_reader.specs.declared.telling.Tell.TheVariants as tells
use Rattle.tbl_reader.specs.Pages.{Effect, Page, and_then}
use Rattle.tbl_reader.specs.Reading.{fed}
use Rattle.tbl_reader.specs.Telling.{Piece, piece}
use Rattle.tbl_reader.proofs.Runs.{fed_append}
use Rattle.tbl_laws.specs.HeldRows.{all_bytes, all_fields, all_of, all_rows, bytes_in, count, fields_in, rows_in}
use Rattle.tbl_laws.specs.Rows.{AreRows, IsBetweenRows, Row, are_of_rows, field_in, fields_of_all, is_of_row, is_row, left_after, row_if, rows_emitted, text_of, text_of_all}
use Rattle.tbl_laws.proofs.Rows.{are_both, both_first, both_second}
use Rattle.tbl_laws.proofs.RowsLaw.{line_tells}

-- what all rows tell, and where the page stands after them
pub record TellAll (tab columns : ℕ) (rows : List Row) (p : Page) (e : Effect) : Type 0 where
  pub page : IsBetweenRows tab columns e.page
  pub limits : e.page.limits ≡ p.limits
  pub emitted : (ps : List Piece) → rows_emitted [] (e.pieces ++ ps) ≡ fields_of_all rows ++ rows_emitted [] ps
  pub only : are_of_rows e.pieces ≡ true

pub rows_tell : (l : Limits) (tab columns : ℕ) (rows : List Row) (p : Page) → IsBetweenRows tab columns p → p.limits ≡ l → AreRows l tab columns rows
    → TellAll tab columns rows p (fed (text_of_all tab rows) p)
rows_tell l tab columns [] p h same are = record { page = h; limits = refl; emitted = λ ps. refl; only = refl }
rows_tell l tab columns (r ∷ rs) p h same are =
    let line = text_of tab r.first r.others ++ code "\n" ∷ [] in
    let t = line_tells l tab columns r p h same are.0 in
    let e = fed line p in
    let m = rows_tell l tab columns rs e.page t.page (t.limits ∙ same) are.1 in
    let more = fed (text_of_all tab rs) e.page in
    let all : fed (text_of_all tab (r ∷ rs)) p ≡ and_then e (fed (text_of_all tab rs)) = fed_append line (text_of_all tab rs) p in
    subst (TellAll tab columns (r ∷ rs) p) (sym all)
    (record {
      page = m.page;
      limits = m.limits ∙ t.limits;
      emitted = λ ps.
          ap (rows_emitted []) (append_assoc e.pieces more.pieces ps) ∙ t.emitted (more.pieces ++ ps)
          ∙ ap (λ (rows : List (List (List ℕ))). (r.first ∷ r.others) ∷ rows) (m.emitted ps);
      only = are_both e.pieces more.pieces t.only m.only;
    })

-- ---- which fields are left after the last row

left : List (List ℕ) → List Piece → List (List ℕ)
left fields [] = fields
left fields (p ∷ ps) = left (left_after (is_row p.tell) (fields ++ field_in p.tell p.text)) ps

row_more : (fields : List (List ℕ)) (ps : List Piece) → rows_emitted fields (ps ++ piece tells.Row [] ∷ []) ≡ rows_emitted fields ps ++ left fields ps ∷ []
unfolding left
row_more fields [] = ap (λ (l : List (List ℕ)). l ∷ []) refl
row_more fields (p ∷ ps) =
    by_row (is_row p.tell) (row_more (left_after (is_row p.tell) (fields ++ field_in p.tell p.text)) ps)
  where
    by_row : (b : Bool) → rows_emitted (left_after b (fields ++ field_in p.tell p.text)) (ps ++ piece tells.Row [] ∷ [])
        ≡ rows_emitted (left_after b (fields ++ field_in p.tell p.text)) ps ++ left (left_after b (fields ++ field_in p.tell p.text)) ps ∷ []
        → row_if b fields (rows_emitted (left_after b (fields ++ field_in p.tell p.text)) (ps ++ piece tells.Row [] ∷ []))
        ≡ row_if b fields (rows_emitted (left_after b (fields ++ field_in p.tell p.text)) ps) ++ left (left_after b (fields ++ field_in p.tell p.text)) ps ∷ []
    by_row true e = ap (λ (rows : List (List (List ℕ))). fields ∷ rows) e
    by_row false e = e

-- ---- how much was emitted

unfoldable pub bytes_of_all : List (List ℕ) → ℕ
bytes_of_all [] = 0
bytes_of_all (f ∷ fs) = length f + bytes_of_all fs

bytes_both : (xs ys : List (List ℕ)) → bytes_of_all (xs ++ ys) ≡ bytes_of_all xs + bytes_of_all ys
unfolding bytes_of_all
bytes_both [] ys = omega arith
bytes_both (x ∷ xs) ys = (let m = bytes_both xs ys in omega (arith, m))

-- so much as in these rows, and in what is left
record Counted (fields : List (List ℕ)) (ps : List Piece) : Type 0 where
  rows : all_rows ps ≡ length (rows_emitted fields ps)
  count_is : length fields + all_fields ps ≡ count (rows_emitted fields ps) + length (left fields ps)
  bytes : bytes_of_all fields + all_bytes ps ≡ bytes_of_all (all_of (rows_emitted fields ps)) + bytes_of_all (left fields ps)

abbrev one_if : Bool → ℕ
one_if true = 1
one_if false = 0

record Said (tell : Tell) (text : List ℕ) : Type 0 where
  rows : rows_in tell ≡ one_if (is_row tell)
  count_is : fields_in tell ≡ length (field_in tell text)
  bytes : bytes_in tell text ≡ bytes_of_all (field_in tell text)
  none : is_row tell ≡ true → field_in tell text ≡ []

never : {A : Type 0} → false ≡ true → A
never h = absurd (let no : false ≡ true = h in cc)

said : (tell : Tell) (text : List ℕ) → is_of_row tell text ≡ true → Said tell text
unfolding bytes_of_all
said (tells.Field prefix) text h =
    record { rows = refl; count_is = refl; bytes = (let e : length text ≡ length text + 0 = omega arith in e); none = λ e. never e }
said (tells.Mark marks.Nothing) text h = record { rows = refl; count_is = refl; bytes = refl; none = λ e. never e }
said (tells.Mark marks.Rule) text h = never h
said (tells.Mark marks.Inner) text h = never h
said (tells.Mark (marks.Repeat b)) text h = never h
said (tells.Mark marks.Above) text h = never h
said tells.Row text h = record { rows = refl; count_is = refl; bytes = refl; none = λ e. refl }
said (tells.Wrong c) text h = record { rows = refl; count_is = refl; bytes = refl; none = λ e. refl }
said (tells.Table line) text h = never h
said (tells.Options o) text h = never h
said tells.Formats text h = never h
said (tells.Format c) text h = never h
said tells.FormatsEnd text h = never h
said tells.Block text h = never h
said tells.BlockText text h = never h
said tells.BlockEnd text h = never h
said tells.Rule text h = never h
said tells.Request text h = never h
said tells.TableEnd text h = never h
said tells.Plain text h = never h
said tells.Pass text h = never h
said tells.PlainEnd text h = never h

no_bytes : (fields : List (List ℕ)) → fields ≡ [] → bytes_of_all fields ≡ 0
unfolding bytes_of_all
no_bytes fields e = ap bytes_of_all e

counted : (fields : List (List ℕ)) (ps : List Piece) → are_of_rows ps ≡ true → Counted fields ps
unfolding left bytes_of_all
counted fields [] h = record { rows = refl; count_is = omega arith; bytes = omega arith }
counted fields (p ∷ ps) h =
    by_row (is_row p.tell) refl (said p.tell p.text (both_first (is_of_row p.tell p.text) (are_of_rows ps) h)) (λ next. counted next ps (both_second (is_of_row p.tell p.text) (are_of_rows ps) h))
  where
    here : List (List ℕ)
    here = field_in p.tell p.text

    by_row : (b : Bool) → is_row p.tell ≡ b → Said p.tell p.text → ((next : List (List ℕ)) → Counted next ps) → Counted fields (p ∷ ps)
    by_row true e s more =
        (let m = more [] in
        let none = s.none e in
        let rows = s.rows in
        let one : one_if (is_row p.tell) ≡ 1 = ap one_if e in
        let count_is = s.count_is in let few = ap length none in
        let bytes = s.bytes in let no = no_bytes here none in
        let emitted : rows_emitted fields (p ∷ ps) ≡ fields ∷ rows_emitted [] ps = ap (λ (x : Bool). row_if x fields (rows_emitted (left_after x (fields ++ here)) ps)) e in
        let rest : left fields (p ∷ ps) ≡ left [] ps = ap (λ (x : Bool). left (left_after x (fields ++ here)) ps) e in
        let mr = m.rows in let mc = m.count_is in let mb = m.bytes in
        let tr = ap length emitted in let tc = ap count emitted in let tb = ap (λ (rows : List (List (List ℕ))). bytes_of_all (all_of rows)) emitted in
        let both = bytes_both fields (all_of (rows_emitted [] ps)) in
        let lc = ap length rest in let lb = ap bytes_of_all rest in
        record {
          rows = omega (arith, rows, one, mr, tr);
          count_is = omega (arith, count_is, few, mc, tc, lc);
          bytes = omega (arith, bytes, no, mb, tb, lb, both);
        })
    by_row false e s more =
        (let m = more (fields ++ here) in
        let rows = s.rows in
        let none : one_if (is_row p.tell) ≡ 0 = ap one_if e in
        let count_is = s.count_is in
        let bytes = s.bytes in
        let emitted : rows_emitted fields (p ∷ ps) ≡ rows_emitted (fields ++ here) ps = ap (λ (x : Bool). row_if x fields (rows_emitted (left_after x (fields ++ here)) ps)) e in
        let rest : left fields (p ∷ ps) ≡ left (fields ++ here) ps = ap (λ (x : Bool). left (left_after x (fields ++ here)) ps) e in
        let mr = m.rows in let mc = m.count_is in let mb = m.bytes in
        let tr = ap length emitted in let tc = ap count emitted in let tb = ap (λ (rows : List (List (List ℕ))). bytes_of_all (all_of rows)) emitted in
        let long = length-append fields here in
        let both = bytes_both fields here in
        let lc = ap length rest in let lb = ap bytes_of_all rest in
        record {
          rows = omega (arith, rows, none, mr, tr);
          count_is = omega (arith, count_is, long, mc, tc, lc);
          bytes = omega (arith, bytes, both, mb, tb, lb);
        })

-- ---- so much as in the rows of a page

-- of two lists that are alike but for what ends them that is alike, too
last_same : (xs : List (List (List ℕ))) (x : List (List ℕ)) (ys : List (List (List ℕ))) (y : List (List ℕ)) → xs ≡ ys → xs ++ x ∷ [] ≡ ys ++ y ∷ [] → x ≡ y
last_same xs x ys y same e = by_list xs (ap (λ (l : List (List (List ℕ))). xs ++ x ∷ []) same ∙ e ∙ ap (λ (l : List (List (List ℕ))). l ++ y ∷ []) (sym same))
  where
    first_of : List (List (List ℕ)) → List (List ℕ)
    first_of [] = x
    first_of (r ∷ rs) = r

    rest_of : List (List (List ℕ)) → List (List (List ℕ))
    rest_of [] = []
    rest_of (r ∷ rs) = rs

    by_list : (zs : List (List (List ℕ))) → zs ++ x ∷ [] ≡ zs ++ y ∷ [] → x ≡ y
    by_list [] e = ap first_of e
    by_list (z ∷ zs) e = by_list zs (ap rest_of e)

-- how many bytes the fields of rows have, and how many fields there are
pub record SoMuch (rows : List (List (List ℕ))) (ps : List Piece) : Type 0 where
  pub rows_are : all_rows ps ≡ length rows
  pub fields_are : all_fields ps ≡ count rows
  pub bytes_are : all_bytes ps ≡ bytes_of_all (all_of rows)

pub so_much : (tab columns : ℕ) (rows : List Row) (p : Page) (e : Effect) → TellAll tab columns rows p e → SoMuch (fields_of_all rows) e.pieces
unfolding bytes_of_all
so_much tab columns rows p e t =
    let ps = e.pieces in
    let emitted : rows_emitted [] ps ≡ fields_of_all rows =
    ap (rows_emitted []) (sym (append-nil ps)) ∙ t.emitted [] ∙ append-nil (fields_of_all rows) in
    let none : left [] ps ≡ [] = last_same (rows_emitted [] ps) (left [] ps) (fields_of_all rows) [] emitted (sym (row_more [] ps) ∙ t.emitted (piece tells.Row [] ∷ [])) in
    let c = counted [] ps t.only in
    let a = c.rows in let b = c.count_is in let d = c.bytes in
    let long = ap length emitted in let many = ap count emitted in let all = ap (λ (l : List (List (List ℕ))). bytes_of_all (all_of l)) emitted in
    let few = ap length none in let no = no_bytes (left [] ps) none in
    record { rows_are = omega (arith, a, long); fields_are = omega (arith, b, many, few); bytes_are = omega (arith, d, all, no) }
