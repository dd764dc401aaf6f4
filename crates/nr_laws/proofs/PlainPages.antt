-- What the pages show, less blanks: the lines that were placed, where each has a row of its own.
use Prim.Native.Char.{code}
use Rattle.std.specs.Prelude.{◌==◌, nat_lt, not, max, map, replicate, unwrap_or, slice_index_or}
use Rattle.std.specs.List.{flat_map, range_with_len, suffix_len, prefix_len, last_or, fold}
use Rattle.std.proofs.lemmas.Bool.{eqb-true, cases_lt, eq-eqb, ne_eqb}
use Rattle.std.proofs.lemmas.Grind.{flat_map-append}
use Rattle.std.proofs.lemmas.List.{reverse-append, reverse-reverse, take_all, take-append-le, map-append}
use Rattle.std.proofs.lemmas.List.Elements.{filter-append}
use Rattle.std.proofs.Common.{◌≡◌, ℕ, zero, suc, ◌+◌, ◌-◌, ◌<◌, ◌≤◌, Bool, true, false, if◌then◌else◌, List, [], ◌∷◌, ◌++◌, length, take, reverse, None, refl, ap, ap₂, sym, subst, ◌∙◌, append-nil, length-append, arith, inl, inr}
use Rattle.nr_vectors.specs.Cell.{blank, is_blank, trimmed}
use Rattle.nr_vectors.specs.declared.cell.Cell.{Cell}
use Rattle.nr_page.specs.declared.faces.Faces.{Faces}
use Rattle.nr_page.specs.declared.faces.Faces.TheVariants.{Letters, All}
use Rattle.nr_vectors.specs.declared.cell.Look.{Look}
use Rattle.nr_vectors.specs.declared.cell.Look.TheVariants.{Plain, Under, Bold}
use Rattle.nr_page.specs.Grid.{Placed, on_row, cells_at, last_shown}
use Rattle.nr_page.specs.Faces.{struck}
use Rattle.nr_page.specs.PageBytes.{cell_bytes, column_count, row_count, row_bytes, page_bytes}
use Rattle.nr_laws.specs.PlainText.{is_ink, squeezed}

-- ---- choices

pub if-true : {A : Type 0} (c : Bool) (x y : A) → c ≡ true → (if c then x else y) ≡ x
if-true true x y is = refl
if-true false x y is = cc

pub if-false : {A : Type 0} (c : Bool) (x y : A) → c ≡ false → (if c then x else y) ≡ y
if-false true x y is = cc
if-false false x y is = refl

pub same_if : {A : Type 0} (b : Bool) (x : A) → (if b then x else x) ≡ x
same_if true x = refl
same_if false x = refl

-- ---- ink

-- what cells print, less blanks and newlines
abbrev pub ink : Faces → List Cell → List ℕ
ink faces xs = squeezed (flat_map (cell_bytes faces) xs)

pub squeezed-append : (xs ys : List ℕ) → squeezed (xs ++ ys) ≡ squeezed xs ++ squeezed ys
squeezed-append xs ys = filter-append is_ink xs ys

pub ink-append : (faces : Faces) (xs ys : List Cell) → ink faces (xs ++ ys) ≡ ink faces xs ++ ink faces ys
ink-append faces xs ys = ap squeezed (flat_map-append (cell_bytes faces) xs ys) ∙ squeezed-append (flat_map (cell_bytes faces) xs) (flat_map (cell_bytes faces) ys)

pub ink-cons : (faces : Faces) (x : Cell) (xs : List Cell) → ink faces (x ∷ xs) ≡ squeezed (cell_bytes faces x) ++ ink faces xs
ink-cons faces x xs = squeezed-append (cell_bytes faces x) (flat_map (cell_bytes faces) xs)

-- a blank prints a blank, however it looks
blank_is : (faces : Faces) (look : Look) → cell_bytes faces (record { byte = 32; look = look }) ≡ 32 ∷ []
blank_is Letters Plain = refl
blank_is Letters Under = refl
blank_is Letters Bold = refl
blank_is All look = refl

blank_bytes : (faces : Faces) (x : Cell) → is_blank x ≡ true → cell_bytes faces x ≡ 32 ∷ []
blank_bytes faces x is = subst (λ b. cell_bytes faces (record { byte = b; look = x.look }) ≡ 32 ∷ []) (sym (eqb-true x.byte 32 is)) (blank_is faces x.look)

-- a plain cell prints its byte
pub plain_bytes : (faces : Faces) (b : ℕ) → cell_bytes faces (record { byte = b; look = Plain }) ≡ b ∷ []
plain_bytes Letters b = refl
plain_bytes All b = ap (λ (look : Look). struck look b) (same_if (nat_lt (code " ") b) Plain)

pub ink-blank : (faces : Faces) (x : Cell) → is_blank x ≡ true → squeezed (cell_bytes faces x) ≡ []
ink-blank faces x is = ap squeezed (blank_bytes faces x is)

pub ink-blanks : (faces : Faces) (n : ℕ) → ink faces (replicate n blank) ≡ []
ink-blanks faces zero = refl
ink-blanks faces (suc n) =
    ink-cons faces blank (replicate n blank) ∙ ap (λ z. z ++ ink faces (replicate n blank)) (ink-blank faces blank refl) ∙ ink-blanks faces n

pub ink-one_blank : (faces : Faces) → ink faces (blank ∷ []) ≡ []
ink-one_blank faces = ink-cons faces blank [] ∙ append-nil (squeezed (cell_bytes faces blank)) ∙ ink-blank faces blank refl

-- ---- trimming

suffix_after : (xs : List Cell) (x : Cell) → suffix_len is_blank (xs ++ x ∷ []) ≡ (if is_blank x then 1 + suffix_len is_blank xs else 0)
suffix_after xs x = ap (prefix_len is_blank) (reverse-append xs (x ∷ []))

-- a blank after cells is trimmed away
trimmed-blank : (xs : List Cell) (x : Cell) → is_blank x ≡ true → trimmed (xs ++ x ∷ []) ≡ trimmed xs
trimmed-blank xs x is =
    let more : suffix_len is_blank (xs ++ x ∷ []) ≡ 1 + suffix_len is_blank xs = suffix_after xs x ∙ if-true (is_blank x) (1 + suffix_len is_blank xs) 0 is in
    let long = length-append xs (x ∷ []) in
    let left : length (xs ++ x ∷ []) - suffix_len is_blank (xs ++ x ∷ []) ≡ length xs - suffix_len is_blank xs = omega arith in
    ap (λ n. take n (xs ++ x ∷ [])) left ∙ take-append-le (length xs - suffix_len is_blank xs) xs (x ∷ []) (omega arith)

-- any other cell stays, and all before it
trimmed-shown : (xs : List Cell) (x : Cell) → is_blank x ≡ false → trimmed (xs ++ x ∷ []) ≡ xs ++ x ∷ []
trimmed-shown xs x is =
    let none : suffix_len is_blank (xs ++ x ∷ []) ≡ 0 = suffix_after xs x ∙ if-false (is_blank x) (1 + suffix_len is_blank xs) 0 is in
    ap (λ n. take (length (xs ++ x ∷ []) - n) (xs ++ x ∷ [])) none ∙ take_all (length (xs ++ x ∷ []) - 0) (xs ++ x ∷ []) (omega arith)

-- what holds of no cells, and of cells with one more after them where it holds of those, holds of all
pub by_last : (P : List Cell → Type 0) → P [] → ((xs : List Cell) (x : Cell) (b : Bool) → is_blank x ≡ b → P xs → P (xs ++ x ∷ [])) → (xs : List Cell) → P xs
by_last P none more xs = subst P (reverse-reverse xs) (back (reverse xs))
  where
    back : (ys : List Cell) → P (reverse ys)
    back [] = none
    back (y ∷ ys) = subst P (sym (reverse-append (y ∷ []) ys)) (more (reverse ys) y (is_blank y) refl (back ys))

trimmed_after : (faces : Faces) (xs : List Cell) (x : Cell) (b : Bool) → is_blank x ≡ b → ink faces (trimmed xs) ≡ ink faces xs → ink faces (trimmed (xs ++ x ∷ [])) ≡ ink faces (xs ++ x ∷ [])
trimmed_after faces xs x true is before =
    let nothing : ink faces xs ++ ink faces (x ∷ []) ≡ ink faces xs = ap (λ z. ink faces xs ++ z) (ink-cons faces x [] ∙ append-nil (squeezed (cell_bytes faces x)) ∙ ink-blank faces x is) ∙ append-nil (ink faces xs) in
    ap (ink faces) (trimmed-blank xs x is) ∙ before ∙ sym (ink-append faces xs (x ∷ []) ∙ nothing)
trimmed_after faces xs x false is before = ap (ink faces) (trimmed-shown xs x is)

pub ink-trimmed : (faces : Faces) (xs : List Cell) → ink faces (trimmed xs) ≡ ink faces xs
ink-trimmed faces xs = by_last (λ zs. ink faces (trimmed zs) ≡ ink faces zs) refl (trimmed_after faces) xs

twice_after : (xs : List Cell) (x : Cell) (b : Bool) → is_blank x ≡ b → trimmed (trimmed xs) ≡ trimmed xs → trimmed (trimmed (xs ++ x ∷ [])) ≡ trimmed (xs ++ x ∷ [])
twice_after xs x true is before = let e = trimmed-blank xs x is in ap trimmed e ∙ before ∙ sym e
twice_after xs x false is before = ap trimmed (trimmed-shown xs x is)

pub trimmed-twice : (xs : List Cell) → trimmed (trimmed xs) ≡ trimmed xs
trimmed-twice xs = by_last (λ zs. trimmed (trimmed zs) ≡ trimmed zs) refl twice_after xs

-- ---- a row

-- what lines of one row print
abbrev pub row_shown : Faces → List Placed → List ℕ
row_shown faces ls = flat_map (cell_bytes faces) (trimmed (map (λ column. last_shown (cells_at ls column)) (range_with_len 0 (column_count ls)))) ++ 10 ∷ []

-- a row of these cells
abbrev pub row_line : Faces → List Cell → List ℕ
row_line faces xs = flat_map (cell_bytes faces) xs ++ 10 ∷ []

-- what shows of a cell where no other stands
abbrev shown : Cell → Cell
shown x = last_shown (x ∷ [])

shown_by : (faces : Faces) (x : Cell) (b : Bool) → is_blank x ≡ b → (is_blank (shown x) ≡ b) × (cell_bytes faces (shown x) ≡ cell_bytes faces x)
shown_by faces x true is =
    let e : shown x ≡ blank = ap (λ (c : Bool). unwrap_or (last_or None (if not c then x ∷ [] else [])) blank) is in
    (ap is_blank e, ap (cell_bytes faces) e ∙ blank_is faces Plain ∙ sym (blank_bytes faces x is))
shown_by faces x false is =
    let e : shown x ≡ x = ap (λ (c : Bool). unwrap_or (last_or None (if not c then x ∷ [] else [])) blank) is in
    (ap is_blank e ∙ is, ap (cell_bytes faces) e)

bytes_shown : (faces : Faces) (xs : List Cell) → flat_map (cell_bytes faces) (map shown xs) ≡ flat_map (cell_bytes faces) xs
bytes_shown faces [] = refl
bytes_shown faces (x ∷ xs) = ap₂ (λ a b. a ++ b) (shown_by faces x (is_blank x) refl).1 (bytes_shown faces xs)

shown_after : (faces : Faces) (xs : List Cell) (x : Cell) (b : Bool) → is_blank x ≡ b → flat_map (cell_bytes faces) (trimmed (map shown xs)) ≡ flat_map (cell_bytes faces) (trimmed xs)
    → flat_map (cell_bytes faces) (trimmed (map shown (xs ++ x ∷ []))) ≡ flat_map (cell_bytes faces) (trimmed (xs ++ x ∷ []))
shown_after faces xs x true is before =
    ap (λ zs. flat_map (cell_bytes faces) (trimmed zs)) (map-append shown xs (x ∷ [])) ∙ ap (flat_map (cell_bytes faces)) (trimmed-blank (map shown xs) (shown x) (shown_by faces x true is).0)
    ∙ before ∙ ap (flat_map (cell_bytes faces)) (sym (trimmed-blank xs x is))
shown_after faces xs x false is before =
    ap (λ zs. flat_map (cell_bytes faces) (trimmed zs)) (map-append shown xs (x ∷ [])) ∙ ap (flat_map (cell_bytes faces)) (trimmed-shown (map shown xs) (shown x) (shown_by faces x false is).0 ∙ sym (map-append shown xs (x ∷ [])))
    ∙ bytes_shown faces (xs ++ x ∷ []) ∙ ap (flat_map (cell_bytes faces)) (sym (trimmed-shown xs x is))

columns-shown : (k : ℕ) (xs : List Cell) (g : ℕ → Cell) → ((i : ℕ) → i < length xs → g (k + i) ≡ slice_index_or xs i blank)
    → map (λ column. shown (g column)) (range_with_len k (length xs)) ≡ map shown xs
columns-shown k [] g same = refl
columns-shown k (x ∷ xs) g same =
    let here : g k ≡ x = (let e : k + 0 ≡ k = omega arith in ap g (sym e) ∙ same 0 (omega arith)) in
    let rest = columns-shown (k + 1) xs g (λ i h. (let e : k + 1 + i ≡ k + suc i = omega arith in ap g e ∙ same (suc i) (omega arith))) in
    ap₂ (λ (a : Cell) b. a ∷ b) (ap shown here) rest

-- a line by itself prints its cells
pub row_shown-one : (faces : Faces) (l : Placed) → row_shown faces (l ∷ []) ≡ row_line faces (trimmed l.cells)
row_shown-one faces l =
    let n : column_count (l ∷ []) ≡ length l.cells = omega arith in
    let own : map (λ column. last_shown (cells_at (l ∷ []) column)) (range_with_len 0 (column_count (l ∷ []))) ≡ map shown l.cells =
    ap (λ k. map (λ column. last_shown (cells_at (l ∷ []) column)) (range_with_len 0 k)) n
    ∙ columns-shown 0 l.cells (λ column. slice_index_or l.cells column blank) (λ i h. (let e : 0 + i ≡ i = omega arith in ap (λ j. slice_index_or l.cells j blank) e)) in
    ap (λ zs. flat_map (cell_bytes faces) (trimmed zs) ++ 10 ∷ []) own
    ∙ ap (λ z. z ++ 10 ∷ []) (by_last (λ zs. flat_map (cell_bytes faces) (trimmed (map shown zs)) ≡ flat_map (cell_bytes faces) (trimmed zs)) refl (shown_after faces) l.cells)

-- what of it is ink
abbrev shows : Faces → List Placed → List ℕ
shows faces ls = squeezed (row_shown faces ls)

shows-one : (faces : Faces) (l : Placed) → shows faces (l ∷ []) ≡ ink faces l.cells
shows-one faces l =
    ap squeezed (row_shown-one faces l) ∙ squeezed-append (flat_map (cell_bytes faces) (trimmed l.cells)) (10 ∷ []) ∙ append-nil (ink faces (trimmed l.cells)) ∙ ink-trimmed faces l.cells

-- ---- lines that each have a row of their own

-- from row k on, each below the one before
abbrev pub Ascends : ℕ → List Placed → Type 0
Ascends k [] = Unit {0}
Ascends k (l ∷ ls) = (k ≤ l.row) × Ascends (l.row + 1) ls

abbrev pub Above : ℕ → List Placed → Type 0
Above n [] = Unit {0}
Above n (l ∷ ls) = (l.row < n) × Above n ls

pub above-more : (n m : ℕ) (ls : List Placed) → n ≤ m → Above n ls → Above m ls
above-more n m [] h a = tt
above-more n m (l ∷ ls) h a = (let x = a.0 in omega arith, above-more n m ls h a.1)

-- what all of them print
abbrev pub lines_ink : Faces → List Placed → List ℕ
lines_ink faces ls = flat_map (λ (l : Placed). ink faces l.cells) ls

-- the row of another
pub other_row : (l : Placed) (ls : List Placed) (r : ℕ) → (l.row == r) ≡ false → on_row (l ∷ ls) r ≡ on_row ls r
other_row l ls r is = if-false (l.row == r) (l ∷ on_row ls r) (on_row ls r) is

none_on : (k r : ℕ) (ls : List Placed) → Ascends k ls → r < k → on_row ls r ≡ []
none_on k r [] a h = refl
none_on k r (l ∷ ls) a h =
    let x = a.0 in other_row l ls r (ne_eqb l.row r (omega arith)) ∙ none_on (l.row + 1) r ls a.1 (omega arith)

pub one_on : (l : Placed) (ls : List Placed) (k : ℕ) → l.row ≡ k → Ascends (l.row + 1) ls → on_row (l ∷ ls) k ≡ l ∷ []
one_on l ls k is a =
    if-true (l.row == k) (l ∷ on_row ls k) (on_row ls k) (eq-eqb l.row k is) ∙ ap (λ zs. l ∷ zs) (none_on (l.row + 1) k ls a (omega arith))

rows-ink : (faces : Faces) (m k n : ℕ) (all ls : List Placed) → k + m ≡ n → Ascends k ls → Above n ls → ((r : ℕ) → k ≤ r → on_row all r ≡ on_row ls r)
    → squeezed (flat_map (row_bytes faces all) (range_with_len k m)) ≡ lines_ink faces ls
rows-ink faces zero k n all [] sum up under same = refl
rows-ink faces zero k n all (l ∷ ls) sum up under same = absurd (let x = up.0 in let y = under.0 in omega arith)
rows-ink faces (suc m) k n all [] sum up under same =
    squeezed-append (row_bytes faces all k) (flat_map (row_bytes faces all) (range_with_len (k + 1) m))
    ∙ ap₂ (λ a b. a ++ b) (ap (shows faces) (same k (omega arith))) (rows-ink faces m (k + 1) n all [] (omega arith) tt tt (λ r h. same r (omega arith)))
rows-ink faces (suc m) k n all (l ∷ ls) sum up under same = elim (cases_lt k l.row) [
  | inl below ↦
      squeezed-append (row_bytes faces all k) (flat_map (row_bytes faces all) (range_with_len (k + 1) m))
      ∙ ap₂ (λ a b. a ++ b) (ap (shows faces) (same k (omega arith) ∙ none_on (k + 1) k (l ∷ ls) (omega arith, up.1) (omega arith)))
      (rows-ink faces m (k + 1) n all (l ∷ ls) (omega arith) (omega arith, up.1) under (λ r h. same r (omega arith)))
  | inr not_below ↦
      (let low = up.0 in
      let is : l.row ≡ k = omega arith in
      squeezed-append (row_bytes faces all k) (flat_map (row_bytes faces all) (range_with_len (k + 1) m))
      ∙ ap₂ (λ a b. a ++ b) (ap (shows faces) (same k (omega arith) ∙ one_on l ls k is up.1) ∙ shows-one faces l)
      (rows-ink faces m (k + 1) n all ls (omega arith) (subst (λ j. Ascends (j + 1) ls) is up.1) under.1
      (λ r h. same r (omega arith) ∙ other_row l ls r (ne_eqb l.row r (omega arith)))))
]

-- ---- a page

counted-from : (a : ℕ) (ls : List Placed) → a ≤ fold (λ most (line : Placed). max most (line.row + 1)) a ls
counted-from a [] = omega arith
counted-from a (l ∷ ls) = let h = counted-from (max a (l.row + 1)) ls in omega arith

counted : (a : ℕ) (ls : List Placed) → Above (fold (λ most (line : Placed). max most (line.row + 1)) a ls) ls
counted a [] = tt
counted a (l ∷ ls) = (let h = counted-from (max a (l.row + 1)) ls in omega arith, counted (max a (l.row + 1)) ls)

-- Lines that each have a row of their own are printed, in order.
pub page-ink : (faces : Faces) (rows : ℕ) (ls : List Placed) → Ascends 0 ls → squeezed (page_bytes faces rows ls) ≡ lines_ink faces ls
page-ink faces rows ls up =
    rows-ink faces (max rows (row_count ls)) 0 (max rows (row_count ls)) ls ls (omega arith) up (above-more (row_count ls) (max rows (row_count ls)) ls (omega arith) (counted 0 ls)) (λ r h. refl)
