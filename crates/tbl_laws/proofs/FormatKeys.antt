-- What a line of the formats l, r and c is emitted as, and what becomes of the table that hears it.
use Rattle.std.proofs.Common.{◌≡◌, ℕ, zero, suc, ◌+◌, ◌<◌, ◌≤◌, min, List, [], ◌∷◌, ◌++◌, length, codes, Bool, true, false, ◌==◌, ◌||◌, if◌then◌else◌, get_or, refl, sym, ◌∙◌, ap, subst, append_assoc, append-nil, length-append, arith}
use Rattle.std.proofs.lemmas.Bool.{eqb-true, lt-leb, lt-ltb}
use Prim.Native.Char.{code}
use Rattle.tbl_table.specs.declared.table.Key.{Key}
use Rattle.tbl_table.specs.declared.table.Open.TheVariants as opens
use Rattle.tbl_table.specs.declared.table.Table.{Table}
use Rattle.tbl_table.specs.Formats.{key_added, line_begun, one_counted, with_one}
use Rattle.tbl_table.specs.declared.table.Kind.{Kind}
use Rattle.tbl_table.specs.declared.table.Kind.TheVariants as kinds
use Rattle.tbl_table.specs.Held.{usual}
use Rattle.tbl_reader.specs.declared.formats.Call.TheVariants as calls
use Rattle.tbl_reader.specs.declared.formats.Called.{Called}
use Rattle.tbl_reader.specs.declared.formats.Formats.{Formats}
use Rattle.tbl_reader.specs.Formats.{first_formats, only, read}
use Rattle.tbl_reader.specs.HeadLines.{formats_said}
use Rattle.tbl_setting.specs.declared.setting.Setting.{Setting}
use Rattle.tbl_setting.specs.Hearing.{called_heard}
use Rattle.tbl_setting.specs.Held.{with_table}
use Rattle.tbl_setting.specs.Setting.{set}
use Rattle.tbl_laws.specs.Rows.{are_columns, columns_in, is_column}
use Rattle.tbl_laws.proofs.Heads.{by_byte, formatted, read_blank, read_column}
use Rattle.tbl_laws.proofs.ReadColumns.{IsLetter, stands}
use Rattle.tbl_laws.proofs.Rows.{both_first, both_second}

-- ---- one letter more

abbrev lined : ℕ → ℕ → List Key → Table → Table
lined first count ks t = record t {
  lines = record t.lines { items = record { first = first; count = count; bars = 0 } ∷ [] };
  keys = record t.keys { items = ks };
  «open» = opens.Nothing;
}

-- what one of them says
abbrev kind_of : ℕ → Kind
kind_of b = if b == code "r" then kinds.Right else if b == code "c" then kinds.Centre else kinds.Left

abbrev letter : ℕ → Key
letter b = record usual { kind = kind_of b }

one_key : (b first count to : ℕ) (ks : List Key) (t : Table) → length ks < t.keys.capacity → min (count + 1) 18446744073709551615 ≡ to
    → key_added (kind_of b) 0 (lined first count ks t) ≡ lined first to (ks ++ letter b ∷ []) t
one_key b first count to ks t few is =
    ap (λ (x : Bool). if x then lined first count ks t else one_counted (record (lined first count ks t) { keys = with_one (letter b) (record t.keys { items = ks }) })) (lt-leb _ _ few)
    ∙ ap (λ (x : Bool). lined first (min (count + 1) 18446744073709551615) (if x then ks ++ letter b ∷ [] else ks) t) (lt-ltb _ _ few)
    ∙ ap (λ (n : ℕ). lined first n (ks ++ letter b ∷ []) t) is

-- a table of so many letters, so far
abbrev pub formed : ℕ → List Key → Table → Table
formed zero ks t = record t { lines = record t.lines { items = [] }; keys = record t.keys { items = ks }; «open» = opens.Nothing }
formed (suc n) ks t = lined 0 (suc n) ks t

begins_line : (ks : List Key) (t : Table) → length ks ≡ 0 → 0 < t.lines.capacity → line_begun (formed 0 ks t) ≡ lined 0 0 ks t
begins_line ks t none room =
    ap (λ (x : Bool). record (formed 0 ks t) { lines = record t.lines { items = if x then record { first = length ks; count = 0; bars = 0 } ∷ [] else [] } }) (lt-ltb 0 t.lines.capacity room)
    ∙ ap (λ (n : ℕ). lined n 0 ks t) none

abbrev column_called : Bool → ℕ → Called
column_called begins b = record { ends = false; begins = begins; call = calls.Cell (kind_of b) 0 }

abbrev is_none : ℕ → Bool
is_none zero = true
is_none (suc n) = false

not_blank : is_column (code " ") ≡ true → (n : ℕ) → (read (code " ") (formatted n)).called ≡ column_called (is_none n) (code " ")
not_blank h n = absurd (let no : false ≡ true = h in cc)

column_is : (b n : ℕ) → is_column b ≡ true → (read b (formatted n)).called ≡ column_called (is_none n) b
unfolding formatted
column_is b n h =
    by_byte (λ x. is_column x ≡ true → (read x (formatted n)).called ≡ column_called (is_none n) x) b
    (λ k. by_count_l n) (λ k. by_count_r n) (λ k. by_count_c n) (λ k. not_blank k n) (ap (λ (t : Bool). t || (b == code " ")) h) h
  where
    by_count_l : (k : ℕ) → (read (code "l") (formatted k)).called ≡ column_called (is_none k) (code "l")
    by_count_l zero = refl
    by_count_l (suc k) = refl

    by_count_r : (k : ℕ) → (read (code "r") (formatted k)).called ≡ column_called (is_none k) (code "r")
    by_count_r zero = refl
    by_count_r (suc k) = refl

    by_count_c : (k : ℕ) → (read (code "c") (formatted k)).called ≡ column_called (is_none k) (code "c")
    by_count_c zero = refl
    by_count_c (suc k) = refl

blank_is : (n : ℕ) → (read (code " ") (formatted n)).called ≡ only calls.Nothing
unfolding formatted
blank_is zero = refl
blank_is (suc n) = refl

column_heard : (b n : ℕ) (ks : List Key) (t : Table) → length ks ≡ n → n < 64 → 64 ≤ t.keys.capacity → 0 < t.lines.capacity
    → called_heard (column_called (is_none n) b) (formed n ks t) ≡ formed (suc n) (ks ++ letter b ∷ []) t
column_heard b zero ks t long few keys lines =
    ap (key_added (kind_of b) 0) (begins_line ks t long lines) ∙ one_key b 0 0 1 ks t (omega (arith, long, keys)) refl
column_heard b (suc n) ks t long few keys lines =
    one_key b 0 (suc n) (suc (suc n)) ks t (omega (arith, long, few, keys)) (let e : min (suc n + 1) 18446744073709551615 ≡ suc (suc n) = omega (arith, few) in e)

-- ---- all of them

abbrev pub keys_of : List ℕ → List Key
keys_of [] = []
keys_of (b ∷ bs) = if is_column b then letter b ∷ keys_of bs else keys_of bs

-- a table that hears these formats, in what is known of the page
abbrev heard : Formats → List ℕ → Table → Setting → Setting
heard f bytes t s = set (formats_said f bytes) (with_table t s)

formats_heard : (bytes : List ℕ) (n : ℕ) (ks : List Key) (t : Table) (s : Setting) (more : List ℕ) → are_columns bytes ≡ true → length ks ≡ n → n + columns_in bytes ≤ 64
    → 64 ≤ t.keys.capacity → 0 < t.lines.capacity
    → heard (formatted n) (bytes ++ more) (formed n ks t) s
    ≡ heard (formatted (n + columns_in bytes)) more (formed (n + columns_in bytes) (ks ++ keys_of bytes) t) s
formats_heard [] n ks t s more h long few keys lines =
    ap (λ (m : ℕ). heard (formatted m) more (formed m ks t) s) (let e : n ≡ n + 0 = omega arith in e)
    ∙ ap (λ (l : List Key). heard (formatted (n + 0)) more (formed (n + 0) l t) s) (sym (append-nil ks))
formats_heard (b ∷ bs) n ks t s more h long few keys lines =
    by_column (is_column b) refl few (both_first _ _ h)
    (λ m ls e fit. formats_heard bs m ls t s more (both_second _ _ h) e fit keys lines)
  where
    by_column : (x : Bool) → is_column b ≡ x → n + (if x then suc (columns_in bs) else columns_in bs) ≤ 64 → (is_column b || (b == code " ")) ≡ true
        → ((m : ℕ) (ls : List Key) → length ls ≡ m → m + columns_in bs ≤ 64
        → heard (formatted m) (bs ++ more) (formed m ls t) s ≡ heard (formatted (m + columns_in bs)) more (formed (m + columns_in bs) (ls ++ keys_of bs) t) s)
        → heard (formatted n) (b ∷ (bs ++ more)) (formed n ks t) s
        ≡ heard (formatted (n + (if x then suc (columns_in bs) else columns_in bs))) more
        (formed (n + (if x then suc (columns_in bs) else columns_in bs)) (ks ++ (if x then letter b ∷ keys_of bs else keys_of bs)) t) s
    by_column true e fit g rest =
        (let longer = length-append ks (letter b ∷ []) in
        let same : suc n + columns_in bs ≡ n + suc (columns_in bs) = omega arith in
        ap (λ (f : Formats). heard f (bs ++ more) (called_heard (read b (formatted n)).called (formed n ks t)) s) (read_column b n g (omega (arith, fit)) ∙ ap (λ (x : Bool). formatted (if x then suc n else n)) e)
        ∙ ap (λ (c : Called). heard (formatted (suc n)) (bs ++ more) (called_heard c (formed n ks t)) s) (column_is b n e)
        ∙ ap (λ (u : Table). heard (formatted (suc n)) (bs ++ more) u s) (column_heard b n ks t long (omega (arith, fit)) keys lines)
        ∙ rest (suc n) (ks ++ letter b ∷ []) (omega (arith, longer, long)) (omega (arith, fit))
        ∙ ap (λ (m : ℕ). heard (formatted m) more (formed m ((ks ++ letter b ∷ []) ++ keys_of bs) t) s) same
        ∙ ap (λ (l : List Key). heard (formatted (n + suc (columns_in bs))) more (formed (n + suc (columns_in bs)) l t) s) (append_assoc ks (letter b ∷ []) (keys_of bs)))
    by_column false e fit g rest =
        (let blank : b ≡ code " " = eqb-true b (code " ") (ap (λ (x : Bool). x || (b == code " ")) (sym e) ∙ g) in
        ap (λ (f : Formats). heard f (bs ++ more) (called_heard (read b (formatted n)).called (formed n ks t)) s) (read_blank b n g e)
        ∙ ap (λ (c : Called). heard (formatted n) (bs ++ more) (called_heard c (formed n ks t)) s) (ap (λ (y : ℕ). (read y (formatted n)).called) blank ∙ blank_is n)
        ∙ rest n ks long fit)

-- the end of the line
ends_heard : (n : ℕ) (ks : List Key) (t : Table) (s : Setting) → heard (formatted (suc n)) (codes ".\n") (formed (suc n) ks t) s ≡ with_table (formed (suc n) ks t) s
unfolding formatted
ends_heard n ks t s = refl

pub line_heard : (bytes : List ℕ) (n : ℕ) (t : Table) (s : Setting) → are_columns bytes ≡ true → columns_in bytes ≡ suc n → suc n ≤ 64 → 64 ≤ t.keys.capacity → 0 < t.lines.capacity
    → set (formats_said (first_formats 0 0 false) ((bytes ++ codes ".") ++ codes "\n")) (with_table (formed 0 [] t) s) ≡ with_table (formed (suc n) (keys_of bytes) t) s
unfolding formatted
line_heard bytes n t s h is few keys lines =
    ap (λ (l : List ℕ). heard (first_formats 0 0 false) l (formed 0 [] t) s) (append_assoc bytes (codes ".") (codes "\n"))
    ∙ formats_heard bytes 0 [] t s (codes ".\n") h refl (let i = is in omega (arith, i, few)) keys lines
    ∙ ap (λ (m : ℕ). heard (formatted m) (codes ".\n") (formed m (keys_of bytes) t) s) (let i = is in let all : 0 + columns_in bytes ≡ suc n = omega (arith, i) in all)
    ∙ ends_heard n (keys_of bytes) t s

-- ---- its letters

pub keys_length : (bytes : List ℕ) → length (keys_of bytes) ≡ columns_in bytes
keys_length [] = refl
keys_length (b ∷ bs) = by_column (is_column b) (keys_length bs)
  where
    by_column : (x : Bool) → length (keys_of bs) ≡ columns_in bs → length (if x then letter b ∷ keys_of bs else keys_of bs) ≡ (if x then suc (columns_in bs) else columns_in bs)
    by_column true e = ap suc e
    by_column false e = e

letter_stands : (b : ℕ) → is_column b ≡ true → stands (kind_of b) ≡ true
letter_stands b h = by_tests (b == code "l") (b == code "r") (b == code "c") refl refl refl h
  where
    at : (y : ℕ) → (b == y) ≡ true → stands (kind_of y) ≡ true → stands (kind_of b) ≡ true
    at y e is = subst (λ (z : ℕ). stands (kind_of z) ≡ true) (sym (eqb-true b y e)) is

    by_tests : (i j k : Bool) → (b == code "l") ≡ i → (b == code "r") ≡ j → (b == code "c") ≡ k → (i || j || k) ≡ true → stands (kind_of b) ≡ true
    by_tests true j k e f g h = at (code "l") e refl
    by_tests false true k e f g h = at (code "r") f refl
    by_tests false false true e f g h = at (code "c") g refl
    by_tests false false false e f g h = absurd (let no : false ≡ true = h in cc)

pub letters_are : (bytes : List ℕ) (c : ℕ) → c < columns_in bytes → IsLetter (get_or (keys_of bytes) c usual)
letters_are [] c h = absurd (omega (arith, h))
letters_are (b ∷ bs) c h = by_column (is_column b) refl c h (λ k less. letters_are bs k less)
  where
    by_column : (x : Bool) → is_column b ≡ x → (k : ℕ) → k < (if x then suc (columns_in bs) else columns_in bs)
        → ((k : ℕ) → k < columns_in bs → IsLetter (get_or (keys_of bs) k usual)) → IsLetter (get_or (if x then letter b ∷ keys_of bs else keys_of bs) k usual)
    by_column true e zero less more = (kind_of b, letter_stands b e, refl)
    by_column true e (suc k) less more = more k (omega (arith, less))
    by_column false e k less more = more k less
