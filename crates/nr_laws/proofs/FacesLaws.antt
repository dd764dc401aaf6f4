-- What is left of the output where faces are taken out of it.
use Prim.Native.Char.{code}
use Rattle.std.specs.Prelude.{max, nat_lt, ◌&&◌}
use Rattle.std.specs.List.{flat_map, range_with_len}
use Rattle.std.specs.Char.{is_ascii_alphanumeric}
use Rattle.std.proofs.lemmas.Bool.{cases_Bool, eqb-true}
use Rattle.std.proofs.lemmas.Bool.Decides.{nat_tests}
use Rattle.std.proofs.Common.{◌≡◌, ℕ, Bool, true, false, ◌==◌, if◌then◌else◌, List, [], ◌∷◌, ◌++◌, refl, ap, sym, subst, ◌∙◌, append_assoc, arith, inl, inr}
use Rattle.nr_vectors.specs.Cell.{is_under}
use Rattle.nr_vectors.specs.declared.cell.Cell.{Cell}
use Rattle.nr_vectors.specs.declared.cell.Look.{Look}
use Rattle.nr_vectors.specs.declared.cell.Look.TheVariants.{Plain, Under, Bold}
use Rattle.nr_page.specs.Faces.{cell_bytes, letters_underlined, over, over_unless_letter, shown_look, struck, struck_out}
use Rattle.nr_page.specs.Grid.{Placed}
use Rattle.nr_page.specs.PageBytes.{page_bytes, row_bytes, row_cells, row_count}
use Rattle.nr_page.specs.declared.faces.Faces.{Faces}
use Rattle.nr_page.specs.declared.faces.Faces.TheVariants.{Letters, All}
use Rattle.nr_units.specs.Source.{Supply}
use Rattle.nr_options.specs.declared.options.Options.{Options}
use Rattle.nr_machine.specs.State.{Ended, State, start}
use Rattle.nr_machine.specs.Printing.{text}
use Rattle.nr_laws.specs.Faces.{FacesOnlyShow, StruckOutIsSame, pages_with, with_faces}
use Rattle.nr_laws.specs.Laws.{nothing_allowed, unlimited, unlimited_text}
use Rattle.nr_laws.proofs.FacesStates.{state_after-facing}
use Rattle.nr_laws.proofs.PlainPages.{if-false}

-- the numbers of the rows of a page
abbrev rows_of : Ended → List ℕ
rows_of p = range_with_len 0 (max p.rows (row_count p.lines))

-- a row, and what goes out after it
row_and : (f : Faces) (lines : List Placed) (row : ℕ) (rows bs : List ℕ)
    → flat_map (row_bytes f lines) (row ∷ rows) ++ bs ≡ flat_map (cell_bytes f) (row_cells lines row) ++ 10 ∷ (flat_map (row_bytes f lines) rows ++ bs)
row_and f lines row rows bs =
    let afterwards = flat_map (row_bytes f lines) rows in
    append_assoc (row_bytes f lines row) afterwards bs ∙ append_assoc (flat_map (cell_bytes f) (row_cells lines row)) (10 ∷ []) (afterwards ++ bs)

-- ---- what is struck over, taken out

-- none of these bytes is a backspace
abbrev NoneIsBackspace : List ℕ → Type 0
NoneIsBackspace [] = Unit {0}
NoneIsBackspace (b ∷ bs) = ((b == 8) ≡ false) × NoneIsBackspace bs

-- nor any after the first: so it is where what is struck over is taken out
abbrev IsClean : List ℕ → Type 0
IsClean [] = Unit {0}
IsClean (b ∷ bs) = NoneIsBackspace bs

over-clean : (b : ℕ) (bs : List ℕ) → IsClean bs → IsClean (over b bs)
over-clean b [] clean = tt
over-clean b (c ∷ cs) clean = by (c == 8) refl
  where
    afterwards : (ds : List ℕ) → NoneIsBackspace ds → IsClean ds
    afterwards [] none = tt
    afterwards (d ∷ ds) none = none.1

    by : (is : Bool) → (c == 8) ≡ is → IsClean (if is then cs else b ∷ c ∷ cs)
    by true is = afterwards cs clean
    by false is = (is, clean)

struck_out-clean : (bs : List ℕ) → IsClean (struck_out bs)
struck_out-clean [] = tt
struck_out-clean (b ∷ bs) = over-clean b (struck_out bs) (struck_out-clean bs)

over-other : (b c : ℕ) (cs : List ℕ) → (c == 8) ≡ false → over b (c ∷ cs) ≡ b ∷ c ∷ cs
over-other b c cs is = if-false (c == 8) cs (b ∷ c ∷ cs) is

-- a byte after one that it is struck over
over-struck : (a b : ℕ) (bs : List ℕ) → (b == 8) ≡ false → IsClean bs → over a (over 8 (over b bs)) ≡ over b bs
over-struck a b [] other clean = ap (over a) (over-other 8 b [] other)
over-struck a b (c ∷ cs) other clean = by (c == 8)
  where
    afterwards : (ds : List ℕ) → NoneIsBackspace ds → over a (over 8 ds) ≡ ds
    afterwards [] none = refl
    afterwards (d ∷ ds) none = ap (over a) (over-other 8 d ds none.0)

    by : (is : Bool) → over a (over 8 (if is then cs else b ∷ c ∷ cs)) ≡ (if is then cs else b ∷ c ∷ cs)
    by true = afterwards cs clean
    by false = ap (over a) (over-other 8 b (c ∷ cs) other)

-- a backspace would show as it is
plain_backspace : (f : Faces) (look : Look) → shown_look f (record { byte = 8; look = look }) ≡ Plain
plain_backspace Letters Plain = refl
plain_backspace Letters Under = refl
plain_backspace Letters Bold = refl
plain_backspace All look = refl

struck-out : (look : Look) (b : ℕ) (bs : List ℕ) → (b == 8) ≡ false → struck_out (struck look b ++ bs) ≡ over b (struck_out bs)
struck-out Plain b bs other = refl
struck-out Under b bs other = over-struck (code "_") b (struck_out bs) other (struck_out-clean bs)
struck-out Bold b bs other = over-struck b b (struck_out bs) other (struck_out-clean bs)

cell_out : (f : Faces) (x : Cell) (bs : List ℕ) → struck_out (cell_bytes f x ++ bs) ≡ over x.byte (struck_out bs)
cell_out f x bs = elim (cases_Bool (x.byte == 8)) [
  | inl is ↦
      let plain : shown_look f x ≡ Plain = ap (λ (b : ℕ). shown_look f (record { byte = b; look = x.look })) (eqb-true x.byte 8 is) ∙ plain_backspace f x.look in
      ap (λ (look : Look). struck_out (struck look x.byte ++ bs)) plain
  | inr other ↦ struck-out (shown_look f x) x.byte bs other
]

module _ (f g : Faces) where
  cells_out : (xs : List Cell) (bs cs : List ℕ) → struck_out bs ≡ struck_out cs → struck_out (flat_map (cell_bytes f) xs ++ bs) ≡ struck_out (flat_map (cell_bytes g) xs ++ cs)
  cells_out [] bs cs same = same
  cells_out (x ∷ xs) bs cs same =
      ap struck_out (append_assoc (cell_bytes f x) (flat_map (cell_bytes f) xs) bs) ∙ cell_out f x (flat_map (cell_bytes f) xs ++ bs)
      ∙ ap (over x.byte) (cells_out xs bs cs same)
      ∙ sym (ap struck_out (append_assoc (cell_bytes g x) (flat_map (cell_bytes g) xs) cs) ∙ cell_out g x (flat_map (cell_bytes g) xs ++ cs))

  rows_out : (lines : List Placed) (rows : List ℕ) (bs cs : List ℕ) → struck_out bs ≡ struck_out cs
      → struck_out (flat_map (row_bytes f lines) rows ++ bs) ≡ struck_out (flat_map (row_bytes g lines) rows ++ cs)
  rows_out lines [] bs cs same = same
  rows_out lines (row ∷ rows) bs cs same =
      let cells = row_cells lines row in
      let rest : struck_out (10 ∷ (flat_map (row_bytes f lines) rows ++ bs)) ≡ struck_out (10 ∷ (flat_map (row_bytes g lines) rows ++ cs)) = ap (over 10) (rows_out lines rows bs cs same) in
      ap struck_out (row_and f lines row rows bs) ∙ cells_out cells _ _ rest ∙ sym (ap struck_out (row_and g lines row rows cs))

  page_out : (c : Bool) (p : Ended) (bs cs : List ℕ) → struck_out bs ≡ struck_out cs
      → struck_out ((if c then page_bytes f p.rows p.lines else []) ++ bs) ≡ struck_out ((if c then page_bytes g p.rows p.lines else []) ++ cs)
  page_out true p bs cs same = rows_out p.lines (rows_of p) bs cs same
  page_out false p bs cs same = same

  pages_out : (pages : List Ended) → struck_out (text (pages_with f pages)) ≡ struck_out (text (pages_with g pages))
  pages_out [] = refl
  pages_out (p ∷ pages) = page_out p.printed p (text (pages_with f pages)) (text (pages_with g pages)) (pages_out pages)

-- ---- but letters and digits that are underlined

-- no cell that shows on these pages is a backspace
abbrev pub NoBackspace : List Cell → Type 0
NoBackspace [] = Unit {0}
NoBackspace (x ∷ xs) = ((x.byte == 8) ≡ false) × NoBackspace xs

abbrev pub ShowNoBackspace : List Ended → Type 0
ShowNoBackspace [] = Unit {0}
ShowNoBackspace (p ∷ pages) = ((row : ℕ) → NoBackspace (row_cells p.lines row)) × ShowNoBackspace pages

-- these bytes don't begin with a backspace
abbrev Begins : List ℕ → Type 0
Begins [] = Unit {0}
Begins (b ∷ bs) = (b == 8) ≡ false

kept-plain : (b : ℕ) (bs : List ℕ) → Begins bs → over_unless_letter b bs ≡ b ∷ bs
kept-plain b [] begins = refl
kept-plain b (c ∷ []) begins = refl
kept-plain b (c ∷ d ∷ ds) begins =
    if-false (c == 8) (if (b == code "_") && is_ascii_alphanumeric d then b ∷ c ∷ d ∷ ds else d ∷ ds) (b ∷ c ∷ d ∷ ds) begins

-- a byte after a byte and a backspace
kept-struck : (a b : ℕ) (bs : List ℕ) → (b == 8) ≡ false → Begins (letters_underlined bs)
    → letters_underlined (a ∷ 8 ∷ b ∷ bs) ≡ (if (a == code "_") && is_ascii_alphanumeric b then a ∷ 8 ∷ b ∷ letters_underlined bs else b ∷ letters_underlined bs)
kept-struck a b bs other begins =
    ap (λ z. over_unless_letter a (over_unless_letter 8 z)) (kept-plain b (letters_underlined bs) begins)
    ∙ ap (over_unless_letter a) (kept-plain 8 (b ∷ letters_underlined bs) other)

letters_cell : (look : Look) (prints letter : Bool) (b : ℕ) (bs : List ℕ) → is_ascii_alphanumeric b ≡ letter → (prints ≡ false → letter ≡ false)
    → ((b == code "_") && is_ascii_alphanumeric b) ≡ false → (b == 8) ≡ false → Begins (letters_underlined bs)
    → letters_underlined (struck (if prints then look else Plain) b ++ bs) ≡ struck (if is_under look && letter then Under else Plain) b ++ letters_underlined bs
letters_cell Plain true letter b bs is apart none other begins = kept-plain b (letters_underlined bs) begins
letters_cell Plain false letter b bs is apart none other begins = kept-plain b (letters_underlined bs) begins
letters_cell Under false true b bs is apart none other begins = absurd (let wrong : true ≡ false = apart refl in cc)
letters_cell Under false false b bs is apart none other begins = kept-plain b (letters_underlined bs) begins
letters_cell Under true true b bs is apart none other begins =
    kept-struck (code "_") b bs other begins
    ∙ ap (λ (c : Bool). if c then code "_" ∷ 8 ∷ b ∷ letters_underlined bs else b ∷ letters_underlined bs) is
letters_cell Under true false b bs is apart none other begins =
    kept-struck (code "_") b bs other begins
    ∙ ap (λ (c : Bool). if c then code "_" ∷ 8 ∷ b ∷ letters_underlined bs else b ∷ letters_underlined bs) is
letters_cell Bold false letter b bs is apart none other begins = kept-plain b (letters_underlined bs) begins
letters_cell Bold true letter b bs is apart none other begins =
    kept-struck b b bs other begins
    ∙ if-false ((b == code "_") && is_ascii_alphanumeric b) (b ∷ 8 ∷ b ∷ letters_underlined bs) (b ∷ letters_underlined bs) none

-- what doesn't print is no letter, and neither is `_`
no_letter : (b : ℕ) → nat_lt (code " ") b ≡ false → is_ascii_alphanumeric b ≡ false
no_letter b is = grind (arith, nat_tests)

under_no_letter : (b : ℕ) (c : Bool) → (b == code "_") ≡ c → (c && is_ascii_alphanumeric b) ≡ false
under_no_letter b true is = ap is_ascii_alphanumeric (eqb-true b (code "_") is)
under_no_letter b false is = refl

cell_left : (x : Cell) (bs : List ℕ) → (x.byte == 8) ≡ false → Begins (letters_underlined bs)
    → letters_underlined (cell_bytes All x ++ bs) ≡ cell_bytes Letters x ++ letters_underlined bs
cell_left x bs other begins =
    letters_cell x.look (nat_lt (code " ") x.byte) (is_ascii_alphanumeric x.byte) x.byte bs refl (no_letter x.byte) (under_no_letter x.byte (x.byte == code "_") refl) other begins

struck_begins : (look : Look) (b : ℕ) (bs : List ℕ) → (b == 8) ≡ false → Begins (struck look b ++ bs)
struck_begins Plain b bs other = other
struck_begins Under b bs other = refl
struck_begins Bold b bs other = other

-- what goes out without faces, after no backspace
cells_begin : (xs : List Cell) (bs : List ℕ) → NoBackspace xs → Begins bs → Begins (flat_map (cell_bytes Letters) xs ++ bs)
cells_begin [] bs none begins = begins
cells_begin (x ∷ xs) bs none begins =
    let afterwards = flat_map (cell_bytes Letters) xs in
    subst Begins (sym (append_assoc (cell_bytes Letters x) afterwards bs)) (struck_begins (shown_look Letters x) x.byte (afterwards ++ bs) none.0)

rows_begin : (lines : List Placed) (rows bs : List ℕ) → ((row : ℕ) → NoBackspace (row_cells lines row)) → Begins bs → Begins (flat_map (row_bytes Letters lines) rows ++ bs)
rows_begin lines [] bs none begins = begins
rows_begin lines (row ∷ rows) bs none begins =
    subst Begins (sym (row_and Letters lines row rows bs)) (cells_begin (row_cells lines row) (10 ∷ (flat_map (row_bytes Letters lines) rows ++ bs)) (none row) refl)

page_begins : (c : Bool) (p : Ended) (bs : List ℕ) → ((row : ℕ) → NoBackspace (row_cells p.lines row)) → Begins bs
    → Begins ((if c then page_bytes Letters p.rows p.lines else []) ++ bs)
page_begins true p bs none begins = rows_begin p.lines (rows_of p) bs none begins
page_begins false p bs none begins = begins

pages_begin : (pages : List Ended) → ShowNoBackspace pages → Begins (text (pages_with Letters pages))
pages_begin [] none = tt
pages_begin (p ∷ pages) none = page_begins p.printed p (text (pages_with Letters pages)) none.0 (pages_begin pages none.1)

cells_left : (xs : List Cell) (bs : List ℕ) → NoBackspace xs → Begins (letters_underlined bs)
    → letters_underlined (flat_map (cell_bytes All) xs ++ bs) ≡ flat_map (cell_bytes Letters) xs ++ letters_underlined bs
cells_left [] bs none begins = refl
cells_left (x ∷ xs) bs none begins =
    let rest = cells_left xs bs none.1 begins in
    ap letters_underlined (append_assoc (cell_bytes All x) (flat_map (cell_bytes All) xs) bs)
    ∙ cell_left x (flat_map (cell_bytes All) xs ++ bs) none.0 (subst Begins (sym rest) (cells_begin xs (letters_underlined bs) none.1 begins))
    ∙ ap (λ z. cell_bytes Letters x ++ z) rest ∙ sym (append_assoc (cell_bytes Letters x) (flat_map (cell_bytes Letters) xs) (letters_underlined bs))

rows_left : (lines : List Placed) (rows bs : List ℕ) → ((row : ℕ) → NoBackspace (row_cells lines row)) → Begins (letters_underlined bs)
    → letters_underlined (flat_map (row_bytes All lines) rows ++ bs) ≡ flat_map (row_bytes Letters lines) rows ++ letters_underlined bs
rows_left lines [] bs none begins = refl
rows_left lines (row ∷ rows) bs none begins =
    let cells = row_cells lines row in
    let all = flat_map (row_bytes All lines) rows ++ bs in
    let rest = rows_left lines rows bs none begins in
    let end : letters_underlined (10 ∷ all) ≡ 10 ∷ letters_underlined all = kept-plain 10 (letters_underlined all) (subst Begins (sym rest) (rows_begin lines rows (letters_underlined bs) none begins)) in
    ap letters_underlined (row_and All lines row rows bs) ∙ cells_left cells (10 ∷ all) (none row) (subst Begins (sym end) refl)
    ∙ ap (λ z. flat_map (cell_bytes Letters) cells ++ z) (end ∙ ap (λ z. 10 ∷ z) rest) ∙ sym (row_and Letters lines row rows (letters_underlined bs))

page_left : (c : Bool) (p : Ended) (bs cs : List ℕ) → ((row : ℕ) → NoBackspace (row_cells p.lines row)) → Begins cs → letters_underlined bs ≡ cs
    → letters_underlined ((if c then page_bytes All p.rows p.lines else []) ++ bs) ≡ (if c then page_bytes Letters p.rows p.lines else []) ++ cs
page_left true p bs cs none begins rest =
    rows_left p.lines (rows_of p) bs none (subst Begins (sym rest) begins) ∙ ap (λ z. page_bytes Letters p.rows p.lines ++ z) rest
page_left false p bs cs none begins rest = rest

pages_left : (pages : List Ended) → ShowNoBackspace pages → letters_underlined (text (pages_with All pages)) ≡ text (pages_with Letters pages)
pages_left [] none = refl
pages_left (p ∷ pages) none =
    page_left p.printed p (text (pages_with All pages)) (text (pages_with Letters pages)) none.0 (pages_begin pages none.1) (pages_left pages none.1)

-- ---- the laws

pub faces_only_show : FacesOnlyShow
faces_only_show f options supply n = state_after-facing f n (start nothing_allowed options supply)

pub struck_out_is_same : StruckOutIsSame
struck_out_is_same f g options supply n =
    let pages = (unlimited options supply n).pages in
    ap (λ (t : State). struck_out (text t.pages)) (faces_only_show f options supply n) ∙ pages_out f g pages
    ∙ sym (ap (λ (t : State). struck_out (text t.pages)) (faces_only_show g options supply n))

pub letters-left : (options : Options) (supply : Supply) (n : ℕ) → ShowNoBackspace (unlimited options supply n).pages
    → letters_underlined (unlimited_text (with_faces All options) supply n) ≡ unlimited_text (with_faces Letters options) supply n
letters-left options supply n none =
    let pages = (unlimited options supply n).pages in
    ap (λ (t : State). letters_underlined (text t.pages)) (faces_only_show All options supply n) ∙ pages_left pages none
    ∙ sym (ap (λ (t : State). text t.pages) (faces_only_show Letters options supply n))
