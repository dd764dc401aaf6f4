-- The columns of a table with one line of formats of the letters l, r and c, that nothing else modifies.
use Rattle.std.proofs.Common.{◌≡◌, ℕ, zero, suc, ◌+◌, ◌<◌, ◌≤◌, min, max, List, [], ◌∷◌, ◌++◌, length, Bool, true, false, if◌then◌else◌, nat_le, nat_lt, get_or, refl, sym, ◌∙◌, ap, subst, length-append, arith}
use Rattle.std.proofs.lemmas.Bool.{lt-ltb}
use Rattle.std.proofs.lemmas.Bool.Decides.{nat_tests}
use Rattle.tbl_columns.specs.declared.grid.Column.{Column}
use Rattle.tbl_columns.specs.declared.grid.Grid.{Grid}
use Rattle.tbl_columns.specs.Columns.{column_of, columns_read, gap_given, keyed, read_column, with_gap, with_key}
use Rattle.tbl_columns.specs.Held.{fresh}
use Rattle.tbl_table.specs.declared.table.Key.{Key}
use Rattle.tbl_table.specs.declared.table.Kind.{Kind}
use Rattle.tbl_table.specs.declared.table.Kind.TheVariants as kinds
use Rattle.tbl_table.specs.declared.table.Table.{Table}
use Rattle.tbl_table.specs.Held.{key, line, plain, usual}
use Rattle.tbl_table.specs.Lists.{added, in_turn}

-- so many of one
abbrev pub many : {A : Type 0} → ℕ → A → List A
many zero x = []
many (suc n) x = many n x ++ x ∷ []

pub many_length : {A : Type 0} (n : ℕ) (x : A) → length (many n x) ≡ n
many_length zero x = refl
many_length (suc n) x = (let l = length-append (many n x) (x ∷ []) in let m = many_length n x in omega (arith, l, m))

-- a table of this line of formats, of so many columns, that has no looks of its own
abbrev pub based : ℕ → Table → Table
based w t = record t {
  looks = plain;
  lines = record t.lines { items = record { first = 0; count = w; bars = 0 } ∷ [] };
}

-- the letters l, r and c, and their keys
abbrev pub stands : Kind → Bool
stands kinds.Left = true
stands kinds.Right = true
stands kinds.Centre = true
stands kind = false

pub by_letter : (P : Kind → Type 0) → P kinds.Left → P kinds.Right → P kinds.Centre → (k : Kind) → stands k ≡ true → P k
by_letter P l r c kinds.Left h = l
by_letter P l r c kinds.Right h = r
by_letter P l r c kinds.Centre h = c
by_letter P l r c kinds.Number h = absurd (let no : false ≡ true = h in cc)
by_letter P l r c kinds.Alpha h = absurd (let no : false ≡ true = h in cc)
by_letter P l r c kinds.Across h = absurd (let no : false ≡ true = h in cc)
by_letter P l r c kinds.Down h = absurd (let no : false ≡ true = h in cc)
by_letter P l r c kinds.Rule h = absurd (let no : false ≡ true = h in cc)
by_letter P l r c kinds.DoubleRule h = absurd (let no : false ≡ true = h in cc)

abbrev pub IsLetter : Key → Type 0
IsLetter k = (kind : Kind) × (stands kind ≡ true) × (k ≡ record usual { kind = kind })

abbrev pub AreLetters : ℕ → Table → Type 0
AreLetters w t = (c : ℕ) → c < w → IsLetter (get_or t.keys.items c usual)

-- the letter of each column
pub key_is : (w : ℕ) (t : Table) (c : ℕ) → w ≤ 64 → c < w → key (based w t) (line (based w t) 0) c ≡ get_or t.keys.items c usual
key_is w t c few less =
    let inside : nat_le w c ≡ false = grind (arith, nat_tests, less) in
    let at : min (0 + c) 18446744073709551615 ≡ c = omega (arith, few, less) in
    ap (λ (b : Bool). if b then usual else get_or t.keys.items (min (0 + c) 18446744073709551615) usual) inside
    ∙ ap (λ (i : ℕ). get_or t.keys.items i usual) at

pub letter_is : (w : ℕ) (t : Table) (c : ℕ) → w ≤ 64 → c < w → AreLetters w t → IsLetter (key (based w t) (line (based w t) 0) c)
letter_is w t c few less letters = subst IsLetter (sym (key_is w t c few less)) (letters c less)

-- with so many columns
abbrev pub with_columns : ℕ → ℕ → Grid → Grid
with_columns n w g = record g { table = based w g.table; columns = record g.columns { items = many n fresh } }

column_by : (u : Grid) (c : ℕ) → length u.table.lines.items ≡ 1 → IsLetter (key u.table (line u.table 0) c) → column_of u c ≡ fresh
column_by u c one (kind, is, k) =
    ap (λ (n : ℕ). with_gap u (gap_given n u c) (keyed n u c)) one
    ∙ ap (λ (x : Key). with_gap u x.gap (with_key fresh x)) k

column_is : (w : ℕ) (g : Grid) (n c : ℕ) → w ≤ 64 → c < w → AreLetters w g.table → column_of (with_columns n w g) c ≡ fresh
column_is w g n c few less letters = column_by (with_columns n w g) c refl (letter_is w g.table c few less letters)

columns_to : (w : ℕ) (g : Grid) (n : ℕ) → w ≤ 64 → w ≤ g.columns.capacity → n ≤ w → AreLetters w g.table
    → in_turn n read_column (with_columns 0 w g) ≡ with_columns n w g
columns_to w g zero few room less letters = refl
columns_to w g (suc n) few room less letters =
    let long = many_length n fresh in
    let fits : nat_lt (length (many n fresh)) g.columns.capacity ≡ true = lt-ltb _ _ (omega (arith, long, less, room)) in
    ap (read_column n) (columns_to w g n few room (omega (arith, less)) letters)
    ∙ ap (λ (x : Column). record (with_columns n w g) { columns = added x (with_columns n w g).columns }) (column_is w g n n few (omega (arith, less)) letters)
    ∙ ap (λ (b : Bool). record (with_columns n w g) { columns = record g.columns { items = if b then many n fresh ++ fresh ∷ [] else many n fresh } }) fits

pub columns_are : (w : ℕ) (g : Grid) → w ≤ 64 → w ≤ g.columns.capacity → AreLetters w g.table → columns_read (record g { table = based w g.table }) ≡ with_columns w w g
columns_are w g few room letters =
    let wide : min (max w 0) 64 ≡ w = omega (arith, few) in
    ap (λ (n : ℕ). in_turn n read_column (with_columns 0 w g)) wide
    ∙ columns_to w g w few room (omega arith) letters
