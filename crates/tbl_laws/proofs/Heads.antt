-- After the line of `.TS` and a line of formats a page stands between rows.
use Rattle.std.proofs.Common.{◌≡◌, ℕ, zero, suc, ◌+◌, ◌<◌, ◌≤◌, List, [], ◌∷◌, ◌++◌, length, codes, Bool, true, false, not, ◌==◌, ◌&&◌, ◌||◌, if◌then◌else◌, nat_le, nat_lt, Option, None, Some, inl, inr, refl, sym, ◌∙◌, ap, subst, append_assoc, append-nil, length-append, arith}
use Rattle.std.specs.Prelude.{◌⊎◌}
use Rattle.std.proofs.lemmas.Bool.{eqb-true}
use Rattle.std.proofs.lemmas.Bool.Decides.{nat_tests}
use Prim.Native.Char.{code}
use Rattle.tbl_reader.specs.declared.command.Start.TheVariants as starts
use Rattle.tbl_reader.specs.declared.complaint.Complaint.{Complaint}
use Rattle.tbl_reader.specs.declared.complaint.Kind.{Kind}
use Rattle.tbl_reader.specs.declared.complaint.Kind.TheVariants as kinds
use Rattle.tbl_reader.specs.declared.formats.Formats.{Formats}
use Rattle.tbl_reader.specs.declared.reader.Limits.{Limits}
use Rattle.tbl_reader.specs.declared.state.Mode.{Mode}
use Rattle.tbl_reader.specs.declared.state.Mode.TheVariants as modes
use Rattle.tbl_reader.specs.declared.telling.Tell.TheVariants as tells
use Rattle.tbl_reader.specs.Commands.{is_command}
use Rattle.tbl_reader.specs.Ending.{first_page}
use Rattle.tbl_reader.specs.Fields.{one_later}
use Rattle.tbl_reader.specs.Formats.{first_formats, read}
use Rattle.tbl_reader.specs.HeadLines.{formats_after, formats_ended, formats_judged, formats_line, formats_said, formats_taken, given_up_line, head_ended, head_line, options_line, options_split, wrong_in}
use Rattle.tbl_reader.specs.States.{wrong_kind}
use Rattle.tbl_reader.specs.Heads.{dotted_after, is_blank, options_end_in}
use Rattle.tbl_reader.specs.Pages.{Page, Effect, effect, and_then, at_mode, line_counted, rest_of, with_state}
use Rattle.tbl_reader.specs.Reading.{fed, line_ended, with_kept}
use Rattle.tbl_reader.specs.Telling.{Piece, each, piece}
use Rattle.tbl_reader.specs.Whole.{is_line}
use Rattle.tbl_reader.proofs.Keeping.{fed_keeps}
use Rattle.tbl_reader.proofs.Runs.{fed_append}
use Rattle.tbl_reader.proofs.Whole.{lines_are_read}
use Rattle.tbl_laws.specs.OutsideText.{IsOutside}
use Rattle.tbl_laws.specs.Rows.{FormatsAreRead, IsBetweenRows, TablesAreEmitted, are_columns, columns_in, is_column, separates, table_with}
use Rattle.tbl_laws.proofs.Rows.{both_first, both_second}
use Rattle.tbl_laws.proofs.RowsLaw.{no_command, rows_are_emitted}

-- ---- one of these four bytes

pub by_byte : (P : ℕ → Type 0) (b : ℕ) → P (code "l") → P (code "r") → P (code "c") → P (code " ") → (is_column b || (b == code " ")) ≡ true → P b
by_byte P b l r c blank h = by_tests (b == code "l") (b == code "r") (b == code "c") (b == code " ") refl refl refl refl h
  where
    at : (x : ℕ) → (b == x) ≡ true → P x → P b
    at x e p = subst P (sym (eqb-true b x e)) p

    by_tests : (x y z w : Bool) → (b == code "l") ≡ x → (b == code "r") ≡ y → (b == code "c") ≡ z → (b == code " ") ≡ w
        → ((x || y || z) || w) ≡ true → P b
    by_tests true y z w e f g k h = at (code "l") e l
    by_tests false true z w e f g k h = at (code "r") f r
    by_tests false false true w e f g k h = at (code "c") g c
    by_tests false false false true e f g k h = at (code " ") k blank
    by_tests false false false false e f g k h = absurd (let no : false ≡ true = h in cc)

-- ---- formats of so many columns, so far

unfoldable pub formatted : ℕ → Formats
formatted zero = first_formats 0 0 false
formatted (suc n) = record (first_formats (suc n) 1 false) { begun = true; cells = suc n }

pub read_column : (b n : ℕ) → (is_column b || (b == code " ")) ≡ true → n < 64 → (read b (formatted n)).formats ≡ formatted (if is_column b then suc n else n)
unfolding formatted
read_column b zero h few =
    by_byte (λ x. (read x (first_formats 0 0 false)).formats ≡ formatted (if is_column x then 1 else 0)) b refl refl refl refl h
read_column b (suc n) h few =
    let more : nat_lt (suc n) 64 ≡ true = grind (arith, nat_tests, few) in
    let room : nat_le 64 (suc n) ≡ false = grind (arith, nat_tests, few) in
    let next : suc n + 1 ≡ suc (suc n) = omega arith in
    let on : nat_lt (suc n) (suc (suc n)) ≡ true = grind (arith, nat_tests) in
    by_byte (λ x. (read x (formatted (suc n))).formats ≡ formatted (if is_column x then suc (suc n) else suc n)) b
    (rw more (rw room (rw next (rw on refl)))) (rw more (rw room (rw next (rw on refl)))) (rw more (rw room (rw next (rw on refl)))) refl h

pub read_blank : (b n : ℕ) → (is_column b || (b == code " ")) ≡ true → is_column b ≡ false → (read b (formatted n)).formats ≡ formatted n
unfolding formatted
read_blank b n h none =
    let blank : b ≡ code " " = eqb-true b (code " ") (ap (λ (t : Bool). t || (b == code " ")) (sym none) ∙ h) in
    subst (λ (x : ℕ). (read x (formatted n)).formats ≡ formatted n) (sym blank) (by_count n)
  where
    by_count : (k : ℕ) → (read (code " ") (formatted k)).formats ≡ formatted k
    by_count zero = refl
    by_count (suc k) = refl

formats_one : (column : Bool) (b n : ℕ) (bs : List ℕ) → is_column b ≡ column → (is_column b || (b == code " ")) ≡ true
    → n + (if column then suc (columns_in bs) else columns_in bs) ≤ 64
    → ((m : ℕ) → m + columns_in bs ≤ 64 → formats_after (formatted m) bs ≡ formatted (m + columns_in bs))
    → formats_after (formatted n) (b ∷ bs) ≡ formatted (n + (if column then suc (columns_in bs) else columns_in bs))
formats_one true b n bs e h few more =
    ap (λ (f : Formats). formats_after f bs) (read_column b n h (omega (arith, few)) ∙ ap (λ (t : Bool). formatted (if t then suc n else n)) e)
    ∙ more (suc n) (omega (arith, few)) ∙ ap formatted (let same : suc n + columns_in bs ≡ n + suc (columns_in bs) = omega arith in same)
formats_one false b n bs e h few more = ap (λ (f : Formats). formats_after f bs) (read_blank b n h e) ∙ more n few

pub formats_are : (bytes : List ℕ) (n : ℕ) → are_columns bytes ≡ true → n + columns_in bytes ≤ 64 → formats_after (formatted n) bytes ≡ formatted (n + columns_in bytes)
formats_are [] n h few = ap formatted (let same : n ≡ n + 0 = omega arith in same)
formats_are (b ∷ bs) n h few =
    formats_one (is_column b) b n bs refl (both_first _ _ h) few (λ m fit. formats_are bs m (both_second _ _ h) fit)

pub formats_then : (f : Formats) (xs ys : List ℕ) → formats_after f (xs ++ ys) ≡ formats_after (formats_after f xs) ys
formats_then f [] ys = refl
formats_then f (x ∷ xs) ys = formats_then (read x f).formats xs ys

-- a point, and the end of the line
unfoldable pub ended : ℕ → Formats
ended n = record (first_formats (suc n) 1 false) { cells = suc n }

pub formats_end : (bytes : List ℕ) (n : ℕ) → are_columns bytes ≡ true → columns_in bytes ≡ suc n → suc n ≤ 64
    → formats_after (first_formats 0 0 false) ((bytes ++ codes ".") ++ codes "\n") ≡ ended n
unfolding formatted ended
formats_end bytes n h is few =
    ap (formats_after (first_formats 0 0 false)) (append_assoc bytes (codes ".") (codes "\n"))
    ∙ formats_then (first_formats 0 0 false) bytes (codes ".\n")
    ∙ ap (λ (f : Formats). formats_after f (codes ".\n"))
    (formats_are bytes 0 h (let i = is in omega (arith, few, i)) ∙ ap formatted (let i = is in let all : 0 + columns_in bytes ≡ suc n = omega (arith, i) in all))

-- ---- the line

not_that : (x b : ℕ) → (code "l" == x) ≡ false → (code "r" == x) ≡ false → (code "c" == x) ≡ false → (code " " == x) ≡ false
    → (is_column b || (b == code " ")) ≡ true → (b == x) ≡ false
not_that x b l r c blank h = by_byte (λ y. (y == x) ≡ false) b l r c blank h

no_options_in : (opened : Bool) (bytes : List ℕ) → are_columns bytes ≡ true → options_end_in opened (bytes ++ codes ".") ≡ None
no_options_in opened [] h = refl
no_options_in opened (b ∷ bs) h =
    ap (λ (t : Bool). if t && not opened then Some 0 else one_later (options_end_in (b == code "(") (bs ++ codes ".")))
    (not_that (code ";") b refl refl refl refl (both_first _ _ h))
    ∙ ap one_later (no_options_in (b == code "(") bs (both_second _ _ h))

pub dotted : (so_far : Bool) (bytes : List ℕ) → dotted_after so_far (bytes ++ codes ".") ≡ true
dotted so_far [] = refl
dotted so_far (b ∷ bs) = dotted ((b == code ".") || (so_far && is_blank b)) bs

pub one_line : (bytes : List ℕ) → are_columns bytes ≡ true → is_line (bytes ++ codes ".") ≡ true
one_line [] h = refl
one_line (b ∷ bs) h =
    ap (λ (t : Bool). not t && is_line (bs ++ codes ".")) (not_that (code "\n") b refl refl refl refl (both_first _ _ h))
    ∙ one_line bs (both_second _ _ h)

pub no_end : (bytes : List ℕ) → are_columns bytes ≡ true → 0 < columns_in bytes → is_command (code "E") (bytes ++ codes ".") ≡ false
no_end [] h some = absurd (omega (arith, some))
no_end (b ∷ bs) h some =
    no_command (code "E") (b ∷ (bs ++ codes ".")) (ap not (not_that (code ".") b refl refl refl refl (both_first _ _ h)))

-- formats that were read are right
none_wrong : (n : ℕ) (p : Page) → p.state.formats.lines ≡ 0 → wrong_in (ended n) p ≡ None
unfolding ended
none_wrong n p lines =
    let some : (suc n == 0) ≡ false = grind (arith, nat_tests) in
    ap (λ (t : Bool). if t then Some kinds.NoFormat else wrong_kind None (1 == p.state.formats.lines)) some
    ∙ ap (λ (k : ℕ). wrong_kind None (1 == k)) lines

pub judged : (sep n : ℕ) (f : Formats) (p : Page) → separates sep ≡ true → f ≡ ended n → p.state.formats.lines ≡ 0 → p.state.options.tab ≡ sep → p.state.options.nospaces ≡ false → suc n ≤ 64
    → IsBetweenRows sep (suc n) (formats_judged (wrong_in f p) (formats_taken f p)).page
unfolding ended
judged sep n f p separated is lines tab blanks few =
    let between : IsBetweenRows sep (suc n) (formats_judged None (formats_taken (ended n) p)).page =
    record { mode = refl; fields = refl; kept = refl; from = refl; start = refl; tab_is = tab; blanks = blanks; columns_are = refl; separated = separated; few = few } in
    subst (λ (x : Formats). IsBetweenRows sep (suc n) (formats_judged (wrong_in x p) (formats_taken x p)).page) (sym is)
    (subst (λ (k : Option Kind). IsBetweenRows sep (suc n) (formats_judged k (formats_taken (ended n) p)).page) (sym (none_wrong n p lines)) between)

-- the page after the line of `.TS`, and with a line of formats
unfoldable pub begun : Page → Page
begun p = (fed (codes ".TS\n") (at_mode (modes.Passing starts.Nothing) p)).page

unfoldable pub with_formats : Page → List ℕ → Page
with_formats p bytes = with_kept (bytes ++ codes ".") (begun p)

-- the line of formats is read, and no options stand in it
unfoldable pub optionless : Page → List ℕ → Page
optionless p bytes = record (with_formats p bytes) { state = record (with_formats p bytes).state { first = false } }

pub head_read : (p : Page) (bytes : List ℕ) → are_columns bytes ≡ true → 0 < columns_in bytes → head_line (with_formats p bytes) ≡ formats_ended (optionless p bytes)
unfolding begun with_formats optionless
head_read p bytes h some =
    let q = with_formats p bytes in
    let line = bytes ++ codes "." in
    let r = optionless p bytes in
    ap (λ (t : Bool). if t then head_ended q else and_then (options_line q) formats_line) (no_end bytes h some)
    ∙ ap (λ (o : Option ℕ). and_then (options_split o r) formats_line) (no_options_in false bytes h)
    ∙ ap (λ (t : Bool). if t then formats_ended r
    else (if nat_le r.limits.formats (length r.kept) then given_up_line kinds.FormatsLimit r else effect (record r { kept = r.kept ++ code "\n" ∷ []; start = length r.kept + 1 }) []))
    (dotted false bytes)

head_is : (p : Page) (bytes : List ℕ) (n : ℕ) → are_columns bytes ≡ true → columns_in bytes ≡ suc n → suc n ≤ 64
    → IsBetweenRows (code "\t") (suc n) (line_ended (with_formats p bytes)).page
unfolding begun with_formats optionless
head_is p bytes n h is few =
    let r = optionless p bytes in
    let head = head_read p bytes h (let i = is in omega (arith, i)) in
    let j = judged (code "\t") n (formats_after (first_formats 0 0 false) ((bytes ++ codes ".") ++ codes "\n")) r refl (formats_end bytes n h is few) refl refl refl few in
    subst (λ (e : Effect). IsBetweenRows (code "\t") (suc n) (and_then e (λ z. effect (with_state (line_counted z.state) z) [])).page) (sym head)
    (record {
      mode = j.mode;
      fields = j.fields;
      kept = j.kept;
      from = j.from;
      start = j.start;
      tab_is = j.tab_is;
      blanks = j.blanks;
      columns_are = j.columns_are;
      separated = j.separated;
      few = j.few;
    })

pub table_read : (p : Page) (bytes : List ℕ) → are_columns bytes ≡ true → length bytes < p.limits.formats
    → (fed (table_with bytes) (at_mode (modes.Passing starts.Nothing) p)).page ≡ (line_ended (with_formats p bytes)).page
unfolding begun with_formats
table_read p bytes h room =
    let line = bytes ++ codes "." in
    let long = length-append bytes (codes ".") in
    let fits : 0 + length line ≤ p.limits.formats = omega (arith, long, room) in
    ap (λ (xs : List ℕ). (fed xs (at_mode (modes.Passing starts.Nothing) p)).page) (append_assoc (codes ".TS\n") line (codes "\n"))
    ∙ ap (λ (e : Effect). e.page) (fed_append (codes ".TS\n") (line ++ codes "\n") (at_mode (modes.Passing starts.Nothing) p))
    ∙ ap (λ (e : Effect). e.page) (lines_are_read line (begun p) refl (one_line bytes h) fits)

read_with : (n : ℕ) (bytes : List ℕ) (p : Page) → IsOutside p → are_columns bytes ≡ true → columns_in bytes ≡ n → 0 < n → n ≤ 64
    → length bytes < p.limits.formats → IsBetweenRows (code "\t") n (fed (table_with bytes) p).page
read_with zero bytes p outside h is some few room = absurd (omega (arith, some))
read_with (suc n) bytes p outside h is some few room =
    subst (λ (m : Mode). IsBetweenRows (code "\t") (suc n) (fed (table_with bytes) (at_mode m p)).page) (sym outside)
    (subst (IsBetweenRows (code "\t") (suc n)) (sym (table_read p bytes h room)) (head_is p bytes n h is few))

-- what is emitted of the line of `.TS`, and of the line of formats
abbrev pub head_pieces : ℕ → List ℕ → List Piece
head_pieces line bytes =
    each tells.Pass (codes ".TS\n") ++ piece (tells.Table line) [] ∷ []
    ++ (formats_said (first_formats 0 0 false) ((bytes ++ codes ".") ++ codes "\n") ++ piece tells.FormatsEnd [] ∷ [])

pub head_said : (p : Page) (bytes : List ℕ) → IsOutside p → are_columns bytes ≡ true → 0 < columns_in bytes → columns_in bytes ≤ 64 → length bytes < p.limits.formats
    → (fed (table_with bytes) p).pieces ≡ head_pieces p.state.line bytes
unfolding begun with_formats optionless
head_said p bytes outside h some few room = by_count (columns_in bytes) refl some few
  where
    line : List ℕ
    line = bytes ++ codes "."

    at : Page
    at = at_mode (modes.Passing starts.Nothing) p

    same : p ≡ at
    same = ap (λ (m : Mode). at_mode m p) outside

    said : (n : ℕ) → columns_in bytes ≡ suc n → suc n ≤ 64 → (fed (table_with bytes) at).pieces ≡ head_pieces p.state.line bytes
    said n is most =
        let long = length-append bytes (codes ".") in
        let fits : 0 + length line ≤ p.limits.formats = omega (arith, long, room) in
        let r = optionless p bytes in
        let said = formats_said (first_formats 0 0 false) (line ++ codes "\n") ++ piece tells.FormatsEnd [] ∷ [] in
        let f = formats_after (first_formats 0 0 false) (line ++ codes "\n") in
        let prefix = each tells.Pass (codes ".TS\n") ++ piece (tells.Table p.state.line) [] ∷ [] in
        ap (λ (xs : List ℕ). (fed xs at).pieces) (append_assoc (codes ".TS\n") line (codes "\n"))
        ∙ ap (λ (e : Effect). e.pieces) (fed_append (codes ".TS\n") (line ++ codes "\n") at)
        ∙ ap (λ (e : Effect). prefix ++ e.pieces) (lines_are_read line (begun p) refl (one_line bytes h) fits)
        ∙ ap (λ (e : Effect). prefix ++ (e.pieces ++ [])) (head_read p bytes h some)
        ∙ ap (λ (l : List Piece). prefix ++ l) (append-nil (formats_ended r).pieces)
        ∙ ap (λ (g : Formats). prefix ++ (said ++ (formats_judged (wrong_in g r) (formats_taken f r)).pieces)) (formats_end bytes n h is most)
        ∙ ap (λ (k : Option Kind). prefix ++ (said ++ (formats_judged k (formats_taken f r)).pieces)) (none_wrong n r refl)
        ∙ ap (λ (l : List Piece). prefix ++ l) (append-nil said)

    by_count : (n : ℕ) → columns_in bytes ≡ n → 0 < n → n ≤ 64 → (fed (table_with bytes) p).pieces ≡ head_pieces p.state.line bytes
    by_count zero is none most = absurd (omega (arith, none))
    by_count (suc n) is none most = ap (λ (q : Page). (fed (table_with bytes) q).pieces) same ∙ said n is most

pub formats_are_read : FormatsAreRead
formats_are_read bytes p outside h some few room = read_with (columns_in bytes) bytes p outside h refl some few room

pub tables_are_emitted : TablesAreEmitted
tables_are_emitted l before bytes rows rest outside h some few room are =
    let p = (fed before (first_page l)).page in
    let keeps = fed_keeps before (first_page l) (omega arith) in
    let fits : length bytes < p.limits.formats = subst (λ (x : Limits). length bytes < x.formats) (sym keeps.limits) room in
    rows_are_emitted l (code "\t") (columns_in bytes) (before ++ table_with bytes) rows rest
    (subst (λ (e : Effect). IsBetweenRows (code "\t") (columns_in bytes) e.page) (sym (fed_append before (table_with bytes) (first_page l)))
    (formats_are_read bytes p outside h some few fits)) are
