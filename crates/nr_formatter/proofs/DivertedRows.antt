-- Cells that go into the newest text being built, and the line that they are.
use Rattle.std.proofs.Common.{◌≡◌, ℕ, ◌+◌, ◌≤◌, zero, suc, true, false, List, [], ◌∷◌, ◌++◌, length, map, take, replicate, refl, ap, ap₂, sym, ◌∙◌, append_assoc, arith, length-append, add-zero, zero-add}
use Rattle.std.specs.Option.{option_map}
use Rattle.std.proofs.lemmas.List.{append-nil, length-map, map-append, take_all, take-append-le}
use Rattle.nr_vectors.specs.Cell.{blank, is_blank, trimmed}
use Rattle.nr_vectors.specs.declared.cell.Cell.{Cell}
use Rattle.nr_fill.proofs.Trimming.{written, written-append_some, written-append_none, written-replicate, length-trimmed}
use Rattle.nr_store.specs.declared.element.Element.{Element}
use Rattle.nr_store.specs.declared.element.Element.TheVariants as elements
use Rattle.nr_store.specs.Store.{Stored, Built, charge_of, on_newest, longer, taken, diverted, diverted_end}
use Rattle.nr_store.proofs.Building.{charge_of-grown}
use Rattle.nr_formatter.specs.declared.tasks.Resume.{Resume}
use Rattle.nr_formatter.specs.DiversionRow.{plain, with_cells}

-- so many where a text is being built, and else none
abbrev pub share : List Built → ℕ → ℕ
share [] n = 0
share (b ∷ bs) n = n

pub share-le : (bs : List Built) (m n : ℕ) → m ≤ n → share bs m ≤ share bs n
share-le [] m n h = omega arith
share-le (b ∷ bs) m n h = h

-- ---- cells more

more_in : (xs ys : List Element) (bs : List Built) → on_newest (longer ys) (on_newest (longer xs) bs) ≡ on_newest (longer (xs ++ ys)) bs
more_in xs ys [] = refl
more_in xs ys (b ∷ bs) = ap (λ (t : List Element). let c : Built = record b { text = t } in c ∷ bs) (append_assoc b.text xs ys)

nothing_in : (bs : List Built) → on_newest (longer []) bs ≡ bs
nothing_in [] = refl
nothing_in (b ∷ bs) = ap (λ (t : List Element). let c : Built = record b { text = t } in c ∷ bs) (append-nil b.text)

pub with_cells-with_cells : (xs ys : List Cell) (v : Stored Resume) → with_cells ys (with_cells xs v) ≡ with_cells (xs ++ ys) v
with_cells-with_cells xs ys v =
    ap (λ (bs : List Built). let w : Stored Resume = record v { building = bs } in w) (more_in (map elements.Cell xs) (map elements.Cell ys) v.building)
    ∙ ap (λ zs. let w : Stored Resume = record v { building = on_newest (longer zs) v.building } in w) (sym (map-append elements.Cell xs ys))

pub with_cells-nothing : (v : Stored Resume) → with_cells [] v ≡ v
with_cells-nothing v = ap (λ (bs : List Built). let w : Stored Resume = record v { building = bs } in w) (nothing_in v.building)

charge_in : (cells : List Cell) (v : Stored Resume) (bs : List Built) → v.building ≡ bs → charge_of (with_cells cells v) ≡ charge_of v + share bs (length cells)
charge_in cells v [] is =
    let same : with_cells cells v ≡ v = ap (λ (bs : List Built). let w : Stored Resume = record v { building = on_newest (longer (map elements.Cell cells)) bs } in w) is
    ∙ ap (λ (bs : List Built). let w : Stored Resume = record v { building = bs } in w) (sym is) in
    ap charge_of same ∙ sym (add-zero (charge_of v))
charge_in cells v (b ∷ bs) is =
    let xs = map elements.Cell cells in
    let grown = charge_of-grown xs b bs b.diversion v is in
    let same = ap (λ (cs : List Built). let w : Stored Resume = record v { building = on_newest (longer xs) cs } in charge_of w) is in
    omega (arith, length-map cells elements.Cell)

-- what cells are charged
pub charge_of-with_cells : (cells : List Cell) (v : Stored Resume) → charge_of (with_cells cells v) ≡ charge_of v + share v.building (length cells)
charge_of-with_cells cells v = charge_in cells v v.building refl

-- ---- a line's end

ended_in : (n height : ℕ) (cells : List Cell) (v : Stored Resume) (bs : List Built) → v.building ≡ bs → n ≡ share bs (length cells)
    → diverted_end n height (with_cells cells v) ≡ diverted 0 cells height v
ended_in n height cells v [] is n_is =
    ap (λ (bs : List Built). let w : Stored Resume = record v { building = bs } in diverted_end n height (with_cells cells w)) is
    ∙ ap (λ (bs : List Built). let w : Stored Resume = record v { building = bs } in diverted 0 cells height w) (sym is)
ended_in n height cells v (b ∷ bs) is n_is =
    let xs = map elements.Cell cells in
    let end = elements.LineEnd height ∷ [] in
    let wide : n ≡ 0 + length cells = n_is ∙ sym (zero-add (length cells)) in
    let first = ap (λ (cs : List Built). let w : Stored Resume = record v { building = cs } in diverted_end n height (with_cells cells w)) is in
    let last = ap (λ (cs : List Built). let w : Stored Resume = record v { building = cs } in diverted 0 cells height w) (sym is) in
    let mid = ap₂ (λ (t : List Element) (m : ℕ). let c : Built = record { text = t; diversion = option_map (taken m height) b.diversion } in let w : Stored Resume = record v { building = c ∷ bs } in w) (append_assoc b.text xs end) wide in
    first ∙ mid ∙ last

-- the end after cells that were added one by one
pub diverted_end-with_cells : (n height : ℕ) (cells : List Cell) (v : Stored Resume) → n ≡ share v.building (length cells)
    → diverted_end n height (with_cells cells v) ≡ diverted 0 cells height v
diverted_end-with_cells n height cells v n_is = ended_in n height cells v v.building refl n_is

end_charged : (n height : ℕ) (v : Stored Resume) (bs : List Built) → v.building ≡ bs → charge_of v ≤ charge_of (diverted_end n height v)
end_charged n height v [] is =
    let same : diverted_end n height v ≡ v = ap (λ (bs : List Built). let w : Stored Resume = record v { building = bs } in diverted_end n height w) is
    ∙ ap (λ (bs : List Built). let w : Stored Resume = record v { building = bs } in w) (sym is) in
    let charges = ap charge_of same in
    omega arith
end_charged n height v (b ∷ bs) is =
    let grown = charge_of-grown (elements.LineEnd height ∷ []) b bs (option_map (taken n height) b.diversion) v is in
    let same = ap (λ (cs : List Built). let w : Stored Resume = record v { building = cs } in charge_of (diverted_end n height w)) is in
    omega arith

-- a line is charged what its cells are, and more
pub charge_of-diverted-le : (height : ℕ) (cells : List Cell) (v : Stored Resume) → charge_of (with_cells cells v) ≤ charge_of (diverted 0 cells height v)
charge_of-diverted-le height cells v =
    let n = share v.building (length cells) in
    let same = ap charge_of (diverted_end-with_cells n height cells v refl) in
    let more = end_charged n height (with_cells cells v) (with_cells cells v).building refl in
    omega arith

-- ---- blanks at the end of a row

-- blanks after what ends with none are what is left out
pub trimmed-blanks : (cells : List Cell) (n : ℕ) → trimmed cells ≡ cells → trimmed (cells ++ replicate n blank) ≡ cells
trimmed-blanks cells n all =
    let same = written-append_none cells (replicate n blank) (written-replicate n) in
    let long = length-trimmed cells in
    let few : written cells ≤ length cells = omega (arith, ap length all) in
    ap (λ k. take k (cells ++ replicate n blank)) same ∙ take-append-le (written cells) cells (replicate n blank) few ∙ all

written_one : (cell : Cell) → is_blank cell ≡ false → written (cell ∷ []) ≡ 1
written_one cell differs = rw differs refl

-- a row that ends with no blank has none to leave out
pub trimmed-some : (cells : List Cell) (cell : Cell) → is_blank cell ≡ false → trimmed (cells ++ cell ∷ []) ≡ cells ++ cell ∷ []
trimmed-some cells cell differs =
    let one = written_one cell differs in
    let all = written-append_some cells (cell ∷ []) (omega arith) in
    take_all (written (cells ++ cell ∷ [])) (cells ++ cell ∷ []) (omega (arith, length-append cells (cell ∷ [])))

pub plain-blank : (cell : Cell) → is_blank cell ≡ true → plain cell ≡ blank
plain-blank cell agrees = rw agrees refl

pub plain-some : (cell : Cell) → is_blank cell ≡ false → plain cell ≡ cell
plain-some cell differs = rw differs refl

pub plain-blanks : (n : ℕ) → map plain (replicate n blank) ≡ replicate n blank
plain-blanks zero = refl
plain-blanks (suc n) = ap (λ (zs : List Cell). blank ∷ zs) (plain-blanks n)
