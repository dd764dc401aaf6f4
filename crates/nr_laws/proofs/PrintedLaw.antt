-- No control byte goes out but the newline, and the backspace of a byte that is struck over another; and beyond ASCII none that is
-- not in the input.
use Prim.Native.Char.{code}
use Rattle.std.specs.Prelude.{map, nat_le, nat_lt, not, max, slice_index_or, ◌||◌}
use Rattle.std.specs.Option.{unwrap_or}
use Rattle.std.specs.List.{All, filter, last_or, flat_map, range_with_len}
use Rattle.std.proofs.lemmas.Bool.{and_parts, eqb-true, leb-true, ltb-true}
use Rattle.std.proofs.Math.Bool.{or-true}
use Rattle.std.proofs.lemmas.List.Elements.{All-nil, All-cons, All-head, All-tail, All-append, All-take, All-weaker}
use Rattle.std.proofs.Math.Seq.{take-append_seam}
use Rattle.std.proofs.Common.{◌≡◌, ℕ, ◌+◌, ◌==◌, Bool, true, false, if◌then◌else◌, List, [], ◌∷◌, ◌++◌, length, Option, None, Some, refl, ap, sym, subst, ◌∙◌, append_assoc, arith}
use Rattle.nr_units.specs.Source.{Supply}
use Rattle.nr_vectors.specs.Cell.{blank, is_blank}
use Rattle.nr_vectors.specs.declared.cell.Cell.{Cell}
use Rattle.nr_vectors.specs.declared.cell.Look.{Look}
use Rattle.nr_vectors.specs.declared.cell.Look.TheVariants.{Plain, Under, Bold}
use Rattle.nr_page.specs.Faces.{cell_bytes, over, shown_look, struck, struck_out}
use Rattle.nr_page.specs.Grid.{Placed, on_row, cells_at, cell_at}
use Rattle.nr_page.specs.PageBytes.{page_bytes, row_bytes, row_cells, row_count, column_count}
use Rattle.nr_page.specs.declared.faces.Faces.{Faces}
use Rattle.nr_options.specs.declared.options.Options.{Options}
use Rattle.nr_machine.specs.Printing.{bytes_of, text}
use Rattle.nr_machine.specs.State.{Ended, start}
use Rattle.nr_laws.specs.Faces.{LettersAreLeft}
use Rattle.nr_options.specs.Limits.{Bounds}
use Rattle.nr_machine.specs.declared.outcome.Outcome.{Outcome}
use Rattle.nr_laws.specs.Laws.{AnswersWith, nothing_allowed, unlimited, unlimited_text}
use Rattle.nr_settings.specs.Characters.{prints}
use Rattle.nr_laws.specs.Printed.{is_among, is_high_control, is_of_row, NoByteIsAdded, NoHighControlGoesOut, NoControlGoesOut, BackspaceStrikes}
use Rattle.nr_laws.proofs.FacesLaws.{NoBackspace, ShowNoBackspace, letters-left}
use Rattle.nr_laws.proofs.OutputLaws.{limits_cut}
use Rattle.nr_laws.proofs.PrintedLines.{IsAmong, AreAmong, IsShown, IsPrinted, ArePrinted, all-among, at, each, either, every, trim}
use Rattle.nr_laws.proofs.PrintedStates.{IsPlaced, ArePlaced, IsClosed, AreClosed, clear-after, starts-clear}

module _ (set : ℕ → Bool) where
  -- ---- what a row shows

  kept-lines : (test : Placed → Bool) (ls : List Placed) → ArePlaced set ls → ArePlaced set (filter test ls)
  kept-lines test [] h = h
  kept-lines test (l ∷ ls) h =
      let rest = kept-lines test ls (All-tail (IsPlaced set) l ls h) in
      either (ArePlaced set) (test l) (l ∷ filter test ls) (filter test ls) (All-cons (IsPlaced set) l (filter test ls) (All-head (IsPlaced set) l ls h) rest) rest

  column-printed : (ls : List Placed) (column : ℕ) → ArePlaced set ls → ArePrinted set (cells_at ls column)
  column-printed [] column h = All-nil (IsPrinted set)
  column-printed (l ∷ ls) column h =
      All-cons (IsPrinted set) (slice_index_or l.cells column blank) (cells_at ls column) (at set l.cells column (All-head (IsPlaced set) l ls h)) (column-printed ls column (All-tail (IsPlaced set) l ls h))

  kept-cells : (test : Cell → Bool) (xs : List Cell) → ArePrinted set xs → ArePrinted set (filter test xs)
  kept-cells test [] h = h
  kept-cells test (x ∷ xs) h =
      let rest = kept-cells test xs (All-tail (IsPrinted set) x xs h) in
      either (ArePrinted set) (test x) (x ∷ filter test xs) (filter test xs) (All-cons (IsPrinted set) x (filter test xs) (All-head (IsPrinted set) x xs h) rest) rest

  abbrev IfPrinted : Option Cell → Type 0
  IfPrinted None = Unit {0}
  IfPrinted (Some x) = IsPrinted set x

  last-printed : (o : Option Cell) (xs : List Cell) → IfPrinted o → ArePrinted set xs → IfPrinted (last_or o xs)
  last-printed o [] is h = is
  last-printed o (x ∷ xs) is h = last-printed (Some x) xs (All-head (IsPrinted set) x xs h) (All-tail (IsPrinted set) x xs h)

  or-blank : (o : Option Cell) → IfPrinted o → IsPrinted set (unwrap_or o blank)
  or-blank None h = refl
  or-blank (Some x) h = h

  place-printed : (ls : List Placed) (row column : ℕ) → ArePlaced set ls → IsPrinted set (cell_at ls row column)
  place-printed ls row column h =
      let test : Cell → Bool = λ cell. not (is_blank cell) in
      let xs = cells_at (on_row ls row) column in
      or-blank (last_or None (filter test xs))
      (last-printed None (filter test xs) tt (kept-cells test xs (column-printed (on_row ls row) column (kept-lines (λ line. line.row == row) ls h))))

  row-printed : (ls : List Placed) (row : ℕ) → ArePlaced set ls → ArePrinted set (row_cells ls row)
  row-printed ls row h =
      let columns = range_with_len 0 (column_count (on_row ls row)) in trim set (map (cell_at ls row) columns) (each set (cell_at ls row) columns (λ column. place-printed ls row column h))

  -- ---- bytes that go out

  prints-of : (b : ℕ) → IsShown set b → prints b ≡ true
  prints-of b is = (and_parts (prints b) (is_among set b) is).0

  among-of : (b : ℕ) → IsShown set b → IsAmong set b
  among-of b is = (and_parts (prints b) (is_among set b) is).1

  -- what is so of each byte that prints, of the newline and of what strikes one over another
  module _ (P : ℕ → Type 0) (each-so : (b : ℕ) → IsShown set b → P b) (newline : P (code "\n")) (back : P 8) (rule : P (code "_")) where
    struck-out : (look : Look) (b : ℕ) → P b → All P (struck look b)
    struck-out Plain b is = All-cons P b [] is (All-nil P)
    struck-out Under b is = All-cons P (code "_") (8 ∷ b ∷ []) rule (All-cons P 8 (b ∷ []) back (All-cons P b [] is (All-nil P)))
    struck-out Bold b is = All-cons P b (8 ∷ b ∷ []) is (All-cons P 8 (b ∷ []) back (All-cons P b [] is (All-nil P)))

    cells-out : (f : Faces) (xs : List Cell) → ArePrinted set xs → All P (flat_map (cell_bytes f) xs)
    cells-out f [] h = All-nil P
    cells-out f (x ∷ xs) h =
        All-append P (cell_bytes f x) (flat_map (cell_bytes f) xs) (struck-out (shown_look f x) x.byte (each-so x.byte (All-head (IsPrinted set) x xs h)))
        (cells-out f xs (All-tail (IsPrinted set) x xs h))

    rows-out : (f : Faces) (ls : List Placed) (rows : List ℕ) → ArePlaced set ls → All P (flat_map (row_bytes f ls) rows)
    rows-out f ls [] h = All-nil P
    rows-out f ls (row ∷ rows) h =
        All-append P (row_bytes f ls row) (flat_map (row_bytes f ls) rows)
        (All-append P (flat_map (cell_bytes f) (row_cells ls row)) (code "\n" ∷ []) (cells-out f (row_cells ls row) (row-printed ls row h))
        (All-cons P (code "\n") [] newline (All-nil P)))
        (rows-out f ls rows h)

    page-out : (p : Ended) → IsClosed set p → All P (bytes_of p)
    page-out p h = either (λ bs. All P bs) p.printed (page_bytes p.faces p.rows p.lines) [] (rows-out p.faces p.lines (range_with_len 0 (max p.rows (row_count p.lines))) h) (All-nil P)

    pages-out : (ps : List Ended) → AreClosed set ps → All P (text ps)
    pages-out [] h = All-nil P
    pages-out (p ∷ ps) h = All-append P (bytes_of p) (text ps) (page-out p (All-head (IsClosed set) p ps h)) (pages-out ps (All-tail (IsClosed set) p ps h))

  -- ---- without what is struck over

  abbrev IsOfRow : ℕ → Type 0
  IsOfRow b = is_of_row b ≡ true

  abbrev AreOfRow : List ℕ → Type 0
  AreOfRow bs = All IsOfRow bs

  of-row : (b : ℕ) → prints b ≡ true → IsOfRow b
  of-row b is = by (prints b) is
    where
      by : (c : Bool) → c ≡ true → (c || (b == code "\n")) ≡ true
      by true is = refl
      by false is = absurd (let wrong : false ≡ true = is in cc)

  no-backspace : (b : ℕ) → IsOfRow b → (b == 8) ≡ false
  no-backspace b is = by (b == 8) refl
    where
      by : (c : Bool) → (b == 8) ≡ c → c ≡ false
      by true eight = absurd (let wrong : false ≡ true = sym (ap is_of_row (eqb-true b 8 eight)) ∙ is in cc)
      by false eight = refl

  over-row : (b : ℕ) (bs : List ℕ) → IsOfRow b → AreOfRow bs → AreOfRow (over b bs)
  over-row b [] is h = All-cons IsOfRow b [] is (All-nil IsOfRow)
  over-row b (c ∷ cs) is h = either AreOfRow (c == 8) cs (b ∷ c ∷ cs) (All-tail IsOfRow c cs h) (All-cons IsOfRow b (c ∷ cs) is h)

  -- a byte goes over another
  over-other : (a : ℕ) (bs : List ℕ) → AreOfRow bs → AreOfRow (over a (over 8 bs))
  over-other a [] h = All-nil IsOfRow
  over-other a (c ∷ cs) h = by (c == 8) (no-backspace c (All-head IsOfRow c cs h))
    where
      by : (d : Bool) → d ≡ false → AreOfRow (over a (if d then cs else 8 ∷ c ∷ cs))
      by true is = absurd (let wrong : true ≡ false = is in cc)
      by false is = h

  struck-row : (look : Look) (b : ℕ) (bs : List ℕ) → prints b ≡ true → AreOfRow (struck_out bs) → AreOfRow (struck_out (struck look b ++ bs))
  struck-row Plain b bs is h = over-row b (struck_out bs) (of-row b is) h
  struck-row Under b bs is h = over-other (code "_") (over b (struck_out bs)) (over-row b (struck_out bs) (of-row b is) h)
  struck-row Bold b bs is h = over-other b (over b (struck_out bs)) (over-row b (struck_out bs) (of-row b is) h)

  cells-row : (f : Faces) (xs : List Cell) (bs : List ℕ) → ArePrinted set xs → AreOfRow (struck_out bs) → AreOfRow (struck_out (flat_map (cell_bytes f) xs ++ bs))
  cells-row f [] bs h rest = rest
  cells-row f (x ∷ xs) bs h rest =
      subst (λ ys. AreOfRow (struck_out ys)) (sym (append_assoc (cell_bytes f x) (flat_map (cell_bytes f) xs) bs))
      (struck-row (shown_look f x) x.byte (flat_map (cell_bytes f) xs ++ bs) (prints-of x.byte (All-head (IsPrinted set) x xs h)) (cells-row f xs bs (All-tail (IsPrinted set) x xs h) rest))

  rows-row : (f : Faces) (ls : List Placed) (rows bs : List ℕ) → ArePlaced set ls → AreOfRow (struck_out bs) → AreOfRow (struck_out (flat_map (row_bytes f ls) rows ++ bs))
  rows-row f ls [] bs h rest = rest
  rows-row f ls (row ∷ rows) bs h rest =
      let afterwards = flat_map (row_bytes f ls) rows in
      let cells = flat_map (cell_bytes f) (row_cells ls row) in
      let one : (cells ++ code "\n" ∷ []) ++ afterwards ++ bs ≡ cells ++ (code "\n" ∷ (afterwards ++ bs)) =
      append_assoc (cells ++ code "\n" ∷ []) afterwards bs ∙ append_assoc cells (code "\n" ∷ []) (afterwards ++ bs) in
      subst (λ ys. AreOfRow (struck_out ys)) (sym one)
      (cells-row f (row_cells ls row) (code "\n" ∷ (afterwards ++ bs)) (row-printed ls row h) (over-row (code "\n") (struck_out (afterwards ++ bs)) refl (rows-row f ls rows bs h rest)))

  page-row : (c : Bool) (p : Ended) (bs : List ℕ) → IsClosed set p → AreOfRow (struck_out bs) → AreOfRow (struck_out ((if c then page_bytes p.faces p.rows p.lines else []) ++ bs))
  page-row true p bs h rest = rows-row p.faces p.lines (range_with_len 0 (max p.rows (row_count p.lines))) bs h rest
  page-row false p bs h rest = rest

  pages-row : (ps : List Ended) → AreClosed set ps → AreOfRow (struck_out (text ps))
  pages-row [] h = All-nil IsOfRow
  pages-row (p ∷ ps) h = page-row p.printed p (text ps) (All-head (IsClosed set) p ps h) (pages-row ps (All-tail (IsClosed set) p ps h))

  -- ---- no cell is a backspace

  cells-none : (xs : List Cell) → ArePrinted set xs → NoBackspace xs
  cells-none [] h = tt
  cells-none (x ∷ xs) h = (no-backspace x.byte (of-row x.byte (prints-of x.byte (All-head (IsPrinted set) x xs h))), cells-none xs (All-tail (IsPrinted set) x xs h))

  pages-none : (ps : List Ended) → AreClosed set ps → ShowNoBackspace ps
  pages-none [] h = tt
  pages-none (p ∷ ps) h = (λ row. cells-none (row_cells p.lines row) (row-printed p.lines row (All-head (IsClosed set) p ps h)), pages-none ps (All-tail (IsClosed set) p ps h))

  -- ---- of a run

  closed : (options : Options) (supply : Supply) (n : ℕ) → AreAmong set supply.bytes → AreClosed set (unlimited options supply n).pages
  closed options supply n among = (clear-after set n (start nothing_allowed options supply) (starts-clear set nothing_allowed options supply among)).clean.pages

-- ---- the laws

-- what is so of each byte that goes out without limits is so of each that goes out under them
cut-out : (P : ℕ → Type 0) (b : Bounds) (options : Options) (supply : Supply) (n : ℕ) (outcome : Outcome) (bytes : List ℕ)
    → AnswersWith b options supply n outcome bytes → All P (unlimited_text options supply (n + 1)) → All P bytes
cut-out P b options supply n outcome bytes answers all =
    let prefix = limits_cut b options supply n outcome bytes answers (n + 1) (omega arith) in
    let whole : All P (bytes ++ prefix.rest) = subst (λ bs. All P bs) prefix.whole_is all in
    subst (λ bs. All P bs) (take-append_seam bytes prefix.rest) (All-take P (length bytes) (bytes ++ prefix.rest) whole)

abbrev pub GoesOut : ℕ → Type 0
GoesOut b = (is_of_row b || b == 8) ≡ true

out : (b : ℕ) → IsShown every b → GoesOut b
out b is = by (prints b) (prints-of every b is)
  where
    by : (c : Bool) → c ≡ true → ((c || (b == code "\n")) || (b == 8)) ≡ true
    by true is = refl
    by false is = absurd (let wrong : false ≡ true = is in cc)

every-closed : (options : Options) (supply : Supply) (n : ℕ) → AreClosed every (unlimited options supply n).pages
every-closed options supply n = closed every options supply n (all-among supply.bytes)

pub no_control_goes_out : NoControlGoesOut
no_control_goes_out b options supply n outcome bytes answers =
    cut-out GoesOut b options supply n outcome bytes answers
    (pages-out every GoesOut out refl refl refl (unlimited options supply (n + 1)).pages (every-closed options supply (n + 1)))

pub no_byte_is_added : NoByteIsAdded
no_byte_is_added set b options supply n outcome bytes among answers =
    cut-out (IsAmong set) b options supply n outcome bytes answers
    (pages-out set (IsAmong set) (among-of set) refl refl refl (unlimited options supply (n + 1)).pages (closed set options supply (n + 1) among))

-- all but the control bytes beyond ASCII
abbrev uncontrolled : ℕ → Bool
uncontrolled b = not (is_high_control b)

no-high : (b : ℕ) → is_among uncontrolled b ≡ true → is_high_control b ≡ false
no-high b is = by (nat_lt b 128) (is_high_control b) refl refl is
  where
    by : (c d : Bool) → nat_lt b 128 ≡ c → is_high_control b ≡ d → (c || not d) ≡ true → d ≡ false
    by c false below high is = refl
    by true true below high is =
        let less = ltb-true b 128 below in
        let least = leb-true 128 b (and_parts (nat_le 128 b) (nat_le b 159) high).0 in
        absurd (omega (arith, less, least))
    by false true below high is = absurd (let wrong : false ≡ true = is in cc)

pub no_high_control_goes_out : NoHighControlGoesOut
no_high_control_goes_out b options supply n outcome bytes none answers =
    let among : AreAmong uncontrolled supply.bytes =
    All-weaker (λ c. is_high_control c ≡ false) (IsAmong uncontrolled) (λ c is. ap (λ high. nat_lt c 128 || not high) is ∙ or-true (nat_lt c 128)) supply.bytes none in
    All-weaker (IsAmong uncontrolled) (λ c. is_high_control c ≡ false) no-high bytes (no_byte_is_added uncontrolled b options supply n outcome bytes among answers)

pub backspace_strikes : BackspaceStrikes
backspace_strikes options supply n = pages-row every (unlimited options supply n).pages (every-closed options supply n)

pub letters_are_left : LettersAreLeft
letters_are_left options supply n = letters-left options supply n (pages-none every (unlimited options supply n).pages (every-closed options supply n))
