-- The bytes of pages whose lines stand on their first rows, one on each.
use Rattle.std.specs.Prelude.{max, map, replicate}
use Rattle.std.specs.List.{flat_map, range_with_len, fold}
use Rattle.std.proofs.lemmas.Bool.{ne_eqb}
use Rattle.std.proofs.lemmas.Grind.{flat_map-append}
use Rattle.std.proofs.lemmas.List.Folds.{flat_map-map}
use Rattle.std.proofs.Common.{◌≡◌, ℕ, zero, suc, ◌+◌, ◌-◌, ◌≤◌, List, [], ◌∷◌, ◌++◌, length, refl, ap, ap₂, sym, subst, ◌∙◌, append-nil, append_assoc, length-append, arith}
use Rattle.nr_vectors.specs.Cell.{trimmed}
use Rattle.nr_page.specs.declared.faces.Faces.{Faces}
use Rattle.nr_vectors.specs.declared.cell.Cell.{Cell}
use Rattle.nr_page.specs.Grid.{Placed, on_row}
use Rattle.nr_page.specs.PageBytes.{row_count, row_bytes, page_bytes}
use Rattle.nr_laws.specs.FilledText.{missing, text_of}
use Rattle.nr_laws.proofs.PlainPages.{Ascends, row_shown, row_line, row_shown-one, other_row, one_on}

-- lines on row k and those after it, one on each, without blanks at their ends
abbrev pub Consecutive : ℕ → List Placed → Type 0
Consecutive k [] = Unit {0}
Consecutive k (l ∷ ls) = (l.row ≡ k) × (trimmed l.cells ≡ l.cells) × Consecutive (k + 1) ls

pub consecutive-afterwards : (k r : ℕ) (ls : List Placed) (cells : List Cell) → Consecutive k ls → trimmed cells ≡ cells → r ≡ k + length ls → Consecutive k (ls ++ record { row = r; cells = cells } ∷ [])
consecutive-afterwards k r [] cells c whole is = (omega arith, whole, tt)
consecutive-afterwards k r (l ∷ ls) cells c whole is = (c.0, c.1, consecutive-afterwards (k + 1) r ls cells c.2 whole (omega arith))

-- the rows of these lines
abbrev pub rows_shown : List Placed → List (List Cell)
rows_shown ls = map (λ (l : Placed). l.cells) ls

ascends-of : (k : ℕ) (ls : List Placed) → Consecutive k ls → Ascends k ls
ascends-of k [] c = tt
ascends-of k (l ∷ ls) c = (let e = c.0 in omega arith, subst (λ j. Ascends (j + 1) ls) (sym c.0) (ascends-of (k + 1) ls c.2))

rows-bytes : (faces : Faces) (m k : ℕ) (all ls : List Placed) → length ls ≤ m → Consecutive k ls → ((r : ℕ) → k ≤ r → on_row all r ≡ on_row ls r)
    → flat_map (row_bytes faces all) (range_with_len k m) ≡ flat_map (λ (l : Placed). row_line faces l.cells) ls ++ replicate (m - length ls) 10
rows-bytes faces zero k all [] few c same = refl
rows-bytes faces zero k all (l ∷ ls) few c same = absurd (omega arith)
rows-bytes faces (suc m) k all [] few c same =
    let less : suc (m - 0) ≡ suc m - 0 = omega arith in
    ap₂ (λ a b. a ++ b) (ap (row_shown faces) (same k (omega arith))) (rows-bytes faces m (k + 1) all [] (omega arith) tt (λ r h. same r (omega arith))) ∙ ap (λ n. replicate n 10) less
rows-bytes faces (suc m) k all (l ∷ ls) few c same =
    let up : Ascends (l.row + 1) ls = subst (λ j. Ascends (j + 1) ls) (sym c.0) (ascends-of (k + 1) ls c.2) in
    let row = c.0 in
    let less : m - length ls ≡ suc m - suc (length ls) = omega arith in
    let rest = flat_map (λ (x : Placed). row_line faces x.cells) ls in
    ap₂ (λ a b. a ++ b) (ap (row_shown faces) (same k (omega arith) ∙ one_on l ls k c.0 up) ∙ row_shown-one faces l ∙ ap (row_line faces) c.1)
    (rows-bytes faces m (k + 1) all ls (omega arith) c.2 (λ r h. same r (omega arith) ∙ other_row l ls r (ne_eqb l.row r (omega arith))))
    ∙ sym (append_assoc (row_line faces l.cells) rest (replicate (m - length ls) 10)) ∙ ap (λ n. (row_line faces l.cells ++ rest) ++ replicate n 10) less

count-most : (a k : ℕ) (ls : List Placed) → Consecutive k ls → fold (λ most (line : Placed). max most (line.row + 1)) a ls ≤ max a (k + length ls)
count-most a k [] c = omega arith
count-most a k (l ∷ ls) c = let row = c.0 in let h = count-most (max a (l.row + 1)) (k + 1) ls c.2 in omega arith

-- A page of as many rows as its length holds: its lines, and empty rows.
pub page-rows : (faces : Faces) (ls : List Placed) → Consecutive 0 ls → length ls ≤ 66 → page_bytes faces 66 ls ≡ flat_map (row_line faces) (rows_shown ls) ++ replicate (66 - length ls) 10
page-rows faces ls c few =
    let h = count-most 0 0 ls c in
    let most : max 66 (row_count ls) ≡ 66 = omega arith in
    ap (λ n. flat_map (row_bytes faces ls) (range_with_len 0 n)) most ∙ rows-bytes faces 66 0 ls ls few c (λ r h. refl)
    ∙ ap (λ z. z ++ replicate (66 - length ls) 10) (sym (flat_map-map (row_line faces) (λ (l : Placed). l.cells) ls))

-- ---- pages of the whole text

pub length-shown : (ls : List Placed) → length (rows_shown ls) ≡ length ls
length-shown [] = refl
length-shown (l ∷ ls) = ap suc (length-shown ls)

-- rows of a full page
pub full-page : (faces : Faces) (ls : List Placed) (more : List (List Cell)) → Consecutive 0 ls → length ls ≡ 66 → page_bytes faces 66 ls ++ text_of faces more ≡ text_of faces (rows_shown ls ++ more)
full-page faces ls more c full =
    let rows = rows_shown ls in
    let long = length-append rows more in
    let count = length-shown ls in
    let all = flat_map (row_line faces) rows in
    let none : 66 - length ls ≡ 0 = omega arith in
    let same : missing (length more) ≡ missing (length (rows ++ more)) = omega arith in
    ap (λ z. z ++ text_of faces more) (page-rows faces ls c (omega arith) ∙ ap (λ n. all ++ replicate n 10) none ∙ append-nil all)
    ∙ sym (append_assoc all (flat_map (row_line faces) more) (replicate (missing (length more)) 10))
    ∙ ap₂ (λ a n. a ++ replicate n 10) (sym (flat_map-append (row_line faces) rows more)) same

-- rows of the last page
pub last-page : (faces : Faces) (ls : List Placed) → Consecutive 0 ls → 1 ≤ length ls → length ls ≤ 66 → page_bytes faces 66 ls ≡ text_of faces (rows_shown ls)
last-page faces ls c some few =
    let count = length-shown ls in
    let same : 66 - length ls ≡ missing (length (rows_shown ls)) = omega arith in
    page-rows faces ls c few ∙ ap (λ n. flat_map (row_line faces) (rows_shown ls) ++ replicate n 10) same
