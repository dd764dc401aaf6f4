-- Each line of a row is emitted, and the page stands between rows after it.
use Rattle.std.proofs.Common.{◌≡◌, ℕ, ◌+◌, ◌-◌, ◌<◌, ◌≤◌, List, [], ◌∷◌, ◌++◌, length, Bool, true, false, not, ◌==◌, ◌&&◌, ◌||◌, if◌then◌else◌, None, Some, refl, sym, ◌∙◌, ap, subst, append_assoc, append-nil, arith}
use Rattle.std.proofs.lemmas.Bool.Decides.{nat_tests}
use Prim.Native.Char.{code}
use Rattle.tbl_reader.specs.declared.reader.Limits.{Limits}
use Rattle.tbl_reader.specs.declared.state.Mode.{Mode}
use Rattle.tbl_reader.specs.declared.state.Mode.TheVariants as modes
use Rattle.tbl_reader.specs.declared.state.State.{State}
use Rattle.tbl_reader.specs.Commands.{is_command}
use Rattle.tbl_reader.specs.Ending.{finished, first_page}
use Rattle.tbl_reader.specs.Fields.{one_later, continues, is_request, place_of, shape_of}
use Rattle.tbl_reader.specs.Pages.{Page, Effect, effect, and_then, line_counted, with_state, rest_of}
use Rattle.tbl_reader.specs.Reading.{fed, line_ended}
use Rattle.tbl_reader.specs.RowLines.{Said, all_ended, field_said, fields_ended, last_ended, last_said, line_between, line_cleaned, line_continued, rest_said, rest_emitted, row_line}
use Rattle.tbl_reader.specs.States.{is_beyond}
use Rattle.tbl_reader.specs.Telling.{Piece}
use Rattle.tbl_reader.specs.Whole.{is_line}
use Rattle.tbl_reader.proofs.Cleaning.{none_cleaned, none_goes_on}
use Rattle.tbl_reader.proofs.Keeping.{fed_keeps}
use Rattle.tbl_reader.proofs.Runs.{fed_append}
use Rattle.tbl_reader.proofs.Whole.{lines_are_read}
use Rattle.tbl_laws.specs.Rows.{AreRows, IsBetweenRows, IsRow, Row, RowsAreEmitted, are_fields, are_of_rows, begins_row, fields_of_all, is_plain, rows_emitted, separates, text_of, text_of_all}
use Rattle.tbl_laws.proofs.Rows.{Ends, IsAt, TellsField, are_both, both_first, both_second, field_tells, fields_end, none_first, none_second, is_not, rest_is, trimmed_is}

-- ---- the bytes of a line

or_none_first : (x y : Bool) → not (x || y) ≡ true → x ≡ false
or_none_first false y h = refl
or_none_first true y h = absurd (let no : false ≡ true = h in cc)

or_none_second : (x y : Bool) → not (x || y) ≡ true → y ≡ false
or_none_second false y h = is_not y h
or_none_second true y h = absurd (let no : false ≡ true = h in cc)

-- no backslash stands in it, and no newline
record Solid (line : List ℕ) : Type 0 where
  pub backslash : place_of (code "\\") line ≡ None
  pub newline : is_line line ≡ true

solid_byte : (b : ℕ) (bs : List ℕ) → (b == code "\\") ≡ false → (b == code "\n") ≡ false → Solid bs → Solid (b ∷ bs)
solid_byte b bs e f s = record {
  backslash = ap (λ (t : Bool). if t then Some 0 else one_later (place_of (code "\\") bs)) e ∙ ap one_later s.backslash;
  newline = ap (λ (t : Bool). not t && is_line bs) f ∙ s.newline;
}

solid_then : (tab : ℕ) (text rest : List ℕ) → is_plain tab text ≡ true → Solid rest → Solid (text ++ rest)
solid_then tab [] rest h s = s
solid_then tab (b ∷ bs) rest h s =
    let here = both_first _ _ h in
    solid_byte b (bs ++ rest) (none_second (b == code "\n") (b == code "\\") (b == tab) here) (none_first (b == code "\n") (b == code "\\") (b == tab) here)
    (solid_then tab bs rest (both_second _ _ h) s)

solid_nothing : Solid []
solid_nothing = record { backslash = refl; newline = refl }

solid_row : (tab : ℕ) (first : List ℕ) (others : List (List ℕ)) → separates tab ≡ true → are_fields tab first others ≡ true → Solid (text_of tab first others)
solid_row tab first [] t h = subst Solid (append-nil first) (solid_then tab first [] (both_first _ _ h) solid_nothing)
solid_row tab first (next ∷ others) t h =
    solid_then tab first (tab ∷ text_of tab next others) (both_first _ _ (both_first _ _ h))
    (solid_byte tab (text_of tab next others) (or_none_second (tab == code "\n") (tab == code "\\") t) (or_none_first (tab == code "\n") (tab == code "\\") t)
    (solid_row tab next others t (both_second _ _ h)))

-- it is no request
pub no_command : (letter : ℕ) (line : List ℕ) → begins_row line ≡ true → is_command letter line ≡ false
no_command letter [] h = refl
no_command letter (a ∷ []) h = refl
no_command letter (a ∷ b ∷ []) h = refl
no_command letter (a ∷ b ∷ c ∷ []) h = ap (λ (t : Bool). t && (b == code "T") && (c == letter)) (is_not (a == code ".") h)
no_command letter (a ∷ b ∷ c ∷ d ∷ rest) h = rw (is_not (a == code ".") h) refl

no_request : (line : List ℕ) → begins_row line ≡ true → is_request line ≡ false
no_request [] h = refl
no_request (a ∷ []) h = is_not (a == code ".") h
no_request (a ∷ b ∷ rest) h = rw (is_not (a == code ".") h) refl

-- ---- the line ends

-- what a row tells, and where the page stands after it
pub record TellsRow (tab columns : ℕ) (fields : List (List ℕ)) (p : Page) (e : Effect) : Type 0 where
  pub page : IsBetweenRows tab columns e.page
  pub limits : e.page.limits ≡ p.limits
  pub emitted : (ps : List Piece) → rows_emitted [] (e.pieces ++ ps) ≡ fields ∷ rows_emitted [] ps
  pub only : are_of_rows e.pieces ≡ true

not_beyond : (columns fields : ℕ) (s : State) → s.formats.columns ≡ columns → s.fields ≡ fields → fields < columns → is_beyond s ≡ false
not_beyond columns fields s c f less = (let c' = c in let f' = f in let l' = less in grind (arith, nat_tests))

last_is : (s : State) (text : List ℕ) → is_beyond s ≡ false → last_said s text ≡ field_said s text
last_is s text h = rw h refl

-- the last field ends, and the row
row_tells : (tab columns : ℕ) (fields : List (List ℕ)) (p : Page) (e : Effect) → separates tab ≡ true → columns ≤ 64 → Ends tab columns fields p e
    → TellsRow tab columns fields p (and_then e last_ended)
row_tells tab columns fields p e separated few h =
    let s = e.page.state in
    let f = field_tells tab columns h.number s h.last h.state (omega (arith, few, h.within)) h.plain h.text in
    let is : last_said s (rest_of e.page) ≡ field_said s h.last =
    ap (last_said s) h.rest ∙ last_is s h.last (not_beyond columns h.number s h.state.columns_are h.state.fields_are h.within) in
    let t : TellsField tab columns (h.number + 1) h.last (last_said s (rest_of e.page)) = subst (λ (x : Said). TellsField tab columns (h.number + 1) h.last x) (sym is) f in
    record {
      page = record {
        mode = refl;
        fields = refl;
        kept = refl;
        from = refl;
        start = refl;
        tab_is = t.state.tab_is;
        blanks = t.state.blanks;
        columns_are = t.state.columns_are;
        separated = separated;
        few = few;
      };
      limits = h.limits;
      emitted = λ ps. emitted_row t ps;
      only = are_both e.pieces (last_ended e.page).pieces h.only (are_both (last_said e.page.state (rest_of e.page)).pieces _ t.only refl);
    }
  where
    emitted_row : TellsField tab columns (h.number + 1) h.last (last_said e.page.state (rest_of e.page)) → (ps : List Piece)
        → rows_emitted [] ((and_then e last_ended).pieces ++ ps) ≡ fields ∷ rows_emitted [] ps
    emitted_row t ps =
        let said = (last_said e.page.state (rest_of e.page)).pieces in
        ap (rows_emitted []) (append_assoc e.pieces (last_ended e.page).pieces ps)
        ∙ h.emitted [] ((last_ended e.page).pieces ++ ps)
        ∙ ap (rows_emitted h.others) (append_assoc said _ ps)
        ∙ t.emitted h.others _
        ∙ ap (λ (l : List (List ℕ)). l ∷ rows_emitted [] ps) h.all

-- ---- a line between rows is a row

-- a page at the beginning of a line between rows
based : Page → Page
based p = record p { state = record p.state { mode = modes.Rows; fields = 0 }; kept = []; from = 0; start = 0 }

base_is : (tab columns : ℕ) (p : Page) → IsBetweenRows tab columns p → based p ≡ p
unfolding based
base_is tab columns p h =
    ap (λ (m : Mode). record p { state = record p.state { mode = m; fields = 0 }; kept = []; from = 0; start = 0 }) (sym h.mode)
    ∙ ap (λ (n : ℕ). record p { state = record p.state { fields = n }; kept = []; from = 0; start = 0 }) (sym h.fields)
    ∙ ap (λ (k : List ℕ). record p { kept = k; from = 0; start = 0 }) (sym h.kept)
    ∙ ap (λ (n : ℕ). record p { from = n; start = 0 }) (sym h.from)
    ∙ ap (λ (n : ℕ). record p { start = n }) (sym h.start)

with_line : Page → List ℕ → Page
with_line p line = record p { state = record p.state { mode = modes.Rows; fields = 0 }; kept = line; from = 0; start = 0 }

cleaned_is : (p : Page) (line : List ℕ) → Solid line → line_cleaned (with_line p line) ≡ with_line p line
unfolding with_line
cleaned_is p line s = ap (λ (k : List ℕ). with_line p k) (sym (none_cleaned 0 line s.backslash))

line_is_row : (p : Page) (line : List ℕ) → begins_row line ≡ true → line_between (with_line p line) ≡ row_line (with_line p line)
unfolding with_line
line_is_row p line h =
    rw (no_command (code "E") line h) (rw (no_command (code "&") line h) (rw (no_request line h) refl))

row_of_line : (p : Page) (line : List ℕ) → Solid line
    → row_line (with_line p line) ≡ and_then (fields_ended (p.state.formats.columns - 0) (with_line p line)) rest_emitted
unfolding with_line
row_of_line p line s =
    ap (λ (q : Page). and_then (all_ended q) (line_continued (continues line))) (cleaned_is p line s)
    ∙ ap (λ (t : Bool). and_then (all_ended (with_line p line)) (line_continued t)) (sym (none_goes_on line s.backslash))

-- after the fields before it the last one ends, and the row
rest_ends : (tab columns : ℕ) (fields : List (List ℕ)) (p : Page) (e : Effect) → Ends tab columns fields p e → and_then e rest_emitted ≡ and_then e last_ended
rest_ends tab columns fields p e h =
    ap (λ (x : Effect). effect x.page (e.pieces ++ x.pieces))
    (ap (λ (text : List ℕ). rest_said (shape_of text) e.page) (trimmed_is e.page.state (rest_of e.page) h.state.blanks ∙ h.rest)
    ∙ rest_is tab h.last e.page h.plain h.text)

pub line_tells : (l : Limits) (tab columns : ℕ) (r : Row) (p : Page) → IsBetweenRows tab columns p → p.limits ≡ l → IsRow l tab columns r
    → TellsRow tab columns (r.first ∷ r.others) p (fed (text_of tab r.first r.others ++ code "\n" ∷ []) p)
unfolding based with_line
line_tells l tab columns r p h same is =
    let line = text_of tab r.first r.others in
    let s = solid_row tab r.first r.others h.separated is.fields in
    let q = with_line p line in
    let e = fields_ended (p.state.formats.columns - 0) q in
    let at : IsAt tab columns 0 [] line q = record {
      state = record { tab_is = h.tab_is; blanks = h.blanks; columns_are = h.columns_are; fields_are = refl };
      kept = refl;
      from = refl;
      start = refl;
    } in
    let few : 0 + length r.others < columns = (let f = is.few in omega (arith, f)) in
    let ends : Ends tab columns (r.first ∷ r.others) q e =
    fields_end tab columns 0 (p.state.formats.columns - 0) [] r.first r.others q at few h.few (ap (λ (n : ℕ). n - 0) h.columns_are) is.fields in
    let t = row_tells tab columns (r.first ∷ r.others) q e h.separated h.few ends in
    let row : line_between q ≡ and_then e last_ended = line_is_row p line is.begins ∙ row_of_line p line s ∙ rest_ends tab columns (r.first ∷ r.others) q e ends in
    let room : 0 + length line ≤ p.limits.row = (let fits = is.fits in let limit : p.limits.row ≡ l.row = ap (λ (x : Limits). x.row) same in omega (arith, fits, limit)) in
    let read : fed (line ++ code "\n" ∷ []) (based p) ≡ line_ended q = lines_are_read line (based p) refl s.newline room in
    subst (TellsRow tab columns (r.first ∷ r.others) p)
    (sym (ap (fed (line ++ code "\n" ∷ [])) (sym (base_is tab columns p h)) ∙ read ∙ ap (λ (x : Effect). and_then x (λ z. effect (with_state (line_counted z.state) z) [])) row))
    (record {
      page = record {
        mode = t.page.mode;
        fields = t.page.fields;
        kept = t.page.kept;
        from = t.page.from;
        start = t.page.start;
        tab_is = t.page.tab_is;
        blanks = t.page.blanks;
        columns_are = t.page.columns_are;
        separated = h.separated;
        few = h.few;
      };
      limits = t.limits;
      emitted = λ ps. ap (λ (xs : List Piece). rows_emitted [] (xs ++ ps)) (append-nil (and_then e last_ended).pieces) ∙ t.emitted ps;
      only = are_both (and_then e last_ended).pieces [] t.only refl;
    })

-- ---- all rows

rows_tell : (l : Limits) (tab columns : ℕ) (rows : List Row) (p : Page) → IsBetweenRows tab columns p → p.limits ≡ l → AreRows l tab columns rows
    → (ps : List Piece) → rows_emitted [] ((fed (text_of_all tab rows) p).pieces ++ []) ≡ fields_of_all rows
rows_tell l tab columns [] p h same are ps = refl
rows_tell l tab columns (r ∷ rs) p h same are ps =
    let line = text_of tab r.first r.others ++ code "\n" ∷ [] in
    let t = line_tells l tab columns r p h same are.0 in
    let e = fed line p in
    let more = fed (text_of_all tab rs) e.page in
    ap (λ (x : Effect). rows_emitted [] (x.pieces ++ [])) (fed_append line (text_of_all tab rs) p)
    ∙ ap (rows_emitted []) (append_assoc e.pieces more.pieces [])
    ∙ t.emitted (more.pieces ++ [])
    ∙ ap (λ (rows : List (List (List ℕ))). (r.first ∷ r.others) ∷ rows) (rows_tell l tab columns rs e.page t.page (t.limits ∙ same) are.1 ps)

rows_only : (l : Limits) (tab columns : ℕ) (rows : List Row) (p : Page) → IsBetweenRows tab columns p → p.limits ≡ l → AreRows l tab columns rows
    → are_of_rows (fed (text_of_all tab rows) p).pieces ≡ true
rows_only l tab columns [] p h same are = refl
rows_only l tab columns (r ∷ rs) p h same are =
    let line = text_of tab r.first r.others ++ code "\n" ∷ [] in
    let t = line_tells l tab columns r p h same are.0 in
    let e = fed line p in
    ap (λ (x : Effect). are_of_rows x.pieces) (fed_append line (text_of_all tab rs) p)
    ∙ are_both e.pieces (fed (text_of_all tab rs) e.page).pieces t.only (rows_only l tab columns rs e.page t.page (t.limits ∙ same) are.1)

pub rows_are_emitted : RowsAreEmitted
rows_are_emitted l tab columns before rows rest h are =
    let p = (fed before (first_page l)).page in
    let ps = (fed before (first_page l)).pieces in
    let e = fed (text_of_all tab rows) p in
    let r = fed rest e.page in
    let ends = (finished r.page).pieces in
    let keeps = fed_keeps before (first_page l) (omega arith) in
    record {
      emitted = e.pieces;
      after = r.pieces ++ ends;
      said_is =
          ap (λ (x : Effect). (and_then x finished).pieces) (fed_append (before ++ text_of_all tab rows) rest (first_page l))
          ∙ ap (λ (x : Effect). (and_then (and_then x (fed rest)) finished).pieces) (fed_append before (text_of_all tab rows) (first_page l))
          ∙ append_assoc (ps ++ e.pieces) r.pieces ends;
      rows_are = ap (rows_emitted []) (sym (append-nil e.pieces)) ∙ rows_tell l tab columns rows p h keeps.limits are [];
      only = rows_only l tab columns rows p h keeps.limits are;
    }
