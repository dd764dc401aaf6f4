-- What is added to a line's measure.
use Rattle.std.proofs.Common.{◌≡◌, ℕ, ◌+◌, ◌-◌, ◌≤◌, ◌<◌, List, [], ◌∷◌, ◌++◌, length, take, drop, replicate, map, sum_by, Option, None, Some, Result, Ok, Err, refl, ap, arith, inl, inr, length-append}
use Rattle.std.proofs.lemmas.Bool.{lt-ltb, le-ltb, cases_lt}
use Rattle.std.proofs.lemmas.List.{length-map, length-replicate, take-append-drop}
use Rattle.std.proofs.lemmas.List.Sums.{sum_by_push, sum_by-append, sum_by-cons}
use Rattle.nr_vectors.specs.Cell.{blank}
use Rattle.nr_vectors.specs.declared.cell.Cell.{Cell}
use Rattle.nr_vectors.specs.declared.cell.Look.{Look}
use Rattle.nr_fill.specs.declared.line.LineCells.{LineCells}
use Rattle.nr_settings.specs.declared.indents.Margins.{Margins}
use Rattle.nr_fill.specs.declared.piece.CutAfter.{CutAfter}
use Rattle.nr_fill.specs.declared.stops.Pending.{Pending}
use Rattle.nr_fill.specs.declared.stops.Pending.TheVariants.{Nothing, AtPoint, ForStop}
use Rattle.nr_settings.specs.declared.stops.StopKind.{StopKind}
use Rattle.std.specs.Option.{option_map}
use Rattle.nr_fill.specs.Line.{Lined, afforded}
use Rattle.nr_fill.specs.Piece.{Piece, Word, Collected, cells_in, word_or_new, with_word, in_word, word_length, word_cells, word_pieces, text_cells, line_cells, ended, ended_at, add_cell, add_blank, end_word}
use Rattle.nr_fill.specs.Plain.{run_cell}
use Rattle.nr_fill.specs.Runs.{add_blanks, add_run}
use Rattle.nr_fill.proofs.RunLemmas.{add_run-run}
use Rattle.nr_fill.proofs.BlankRuns.{add_blanks-run}
use Rattle.nr_fill.specs.Tabs.{with_field, field_fill, pending_fill, fill_count, filled_by, with_field_filled}

-- what fits is afforded
pub afforded_ok : (v : Lined) → line_cells v.collected ≤ v.limit → ◌≡◌ {A = Result (Unit {0}) LineCells} (Ok tt) (afforded v)
afforded_ok v h = rw (le-ltb v.limit (line_cells v.collected) h) refl

-- and nothing else
pub afforded_err : (v : Lined) → v.limit < line_cells v.collected → ◌≡◌ {A = Result (Unit {0}) LineCells} (Err (record {})) (afforded v)
afforded_err v h = rw (lt-ltb v.limit (line_cells v.collected) h) refl

word_length-new : (gap : ℕ) (w : Option Word) → word_length (word_or_new gap w) ≡ word_cells w
word_length-new gap None = refl
word_length-new gap (Some w) = refl

-- a word that opens has no cells
pub text_cells-with_word : (m : Margins) (c : Collected) → text_cells (with_word m c) ≡ text_cells c
text_cells-with_word m c = let new = word_length-new c.gap c.word in omega arith

word_length-ended_at : (p : Pending) (w : Word) → word_length (ended_at p w) ≡ word_length w
word_length-ended_at Nothing w = refl
word_length-ended_at (AtPoint p) w = let cells = sum_by_push (λ (q : Piece). length q.cells) w.parts w.last in omega arith
word_length-ended_at (ForStop f) w = refl

word_cells-ended : (w : Option Word) (c : Collected) → c.word ≡ w → word_cells (in_word ended c).word ≡ word_cells w
word_cells-ended None c e = rw e refl
word_cells-ended (Some w) c e = rw e (word_length-ended_at w.pending w)

-- a break point ends a piece of the word, which is not counted yet
pub text_cells-ended : (c : Collected) → text_cells (in_word ended c) ≡ text_cells c
text_cells-ended c = let same = word_cells-ended c.word c refl in omega arith

-- one cell more is 1 more
pub line_cells-add_cell : (m : Margins) (b : CutAfter) (x : Cell) (c : Collected) → line_cells (add_cell m b x c) ≡ text_cells c + 1
line_cells-add_cell m b x c =
    let w = word_or_new c.gap c.word in
    let new = word_length-new c.gap c.word in
    let same = word_length-ended_at w.pending w in
    let longer = length-append (ended w).last.cells (x ∷ []) in
    omega arith

-- a run is as many cells more as it has bytes
pub measured_run : (m : Margins) (look : Look) (bs : List ℕ) (c : Collected) → 0 < length bs
    → (text_cells (add_run m look bs c) ≡ text_cells c + length bs) × (line_cells (add_run m look bs c) ≡ text_cells c + length bs)
measured_run m look bs c some =
    let w = word_or_new c.gap c.word in
    let new = word_length-new c.gap c.word in
    let same = word_length-ended_at w.pending w in
    let longer = length-append (ended w).last.cells (map (run_cell look) bs) in
    let many = length-map bs (run_cell look) in
    rw (add_run-run m look bs c some) (omega arith, omega arith)

-- blanks are as many cells more
pub measured_blanks : (m : Margins) (n : ℕ) (c : Collected) → 0 < n → line_cells (add_blanks m n c) ≡ text_cells c + n
measured_blanks m n c some =
    let w = word_or_new c.gap c.word in
    let new = word_length-new c.gap c.word in
    let same = word_length-ended_at w.pending w in
    let longer = length-append (ended w).last.cells (replicate n blank) in
    let many = length-replicate n blank in
    rw (add_blanks-run m n c some) (omega arith)

pub line_cells-add_blank : (m : Margins) (c : Collected) → line_cells (add_blank m c) ≡ text_cells c + 1
line_cells-add_blank m c =
    let w = word_or_new c.gap c.word in
    let new = word_length-new c.gap c.word in
    let same = word_length-ended_at w.pending w in
    let longer = length-append (ended w).last.cells (blank ∷ []) in
    omega arith

word_length-filled_by : (p : Pending) (w : Word) → word_length (filled_by p w) ≡ word_length w + pending_fill p (length w.last.cells)
word_length-filled_by Nothing w = omega arith
word_length-filled_by (AtPoint p) w = omega arith
word_length-filled_by (ForStop f) w =
    let n = fill_count f (length w.last.cells - f.before) in
    let whole = ap length (take-append-drop f.before w.last.cells) in
    omega (
      arith,
      length-append (take f.before w.last.cells ++ replicate n f.fill) (drop f.before w.last.cells),
      length-append (take f.before w.last.cells) (replicate n f.fill),
      length-append (take f.before w.last.cells) (drop f.before w.last.cells),
      length-replicate n f.fill,
    )

word_cells-filled : (w : Option Word) (c : Collected) → c.word ≡ w → word_cells (with_field_filled c).word ≡ word_cells w + field_fill w
word_cells-filled None c e = rw e refl
word_cells-filled (Some w) c e = rw e (word_length-filled_by w.pending w)

-- what the text for a stop is filled up by
pub line_cells-filled : (c : Collected) → line_cells (with_field_filled c) ≡ text_cells c + field_fill c.word
line_cells-filled c = let same = word_cells-filled c.word c refl in omega arith

charge-word_pieces : (w : Option Word) → sum_by (λ (p : Piece). 1 + length p.cells) (word_pieces w) ≡ length (word_pieces w) + word_cells w
charge-word_pieces None = refl
charge-word_pieces (Some w) =
    let one = sum_by_push (λ (p : Piece). 1 + length p.cells) w.parts w.last in
    let parts = charge_of w.parts in
    omega (arith, length-append w.parts (w.last ∷ []))
  where
    charge_of : (ps : List Piece) → sum_by (λ (p : Piece). 1 + length p.cells) ps ≡ length ps + cells_in ps
    charge_of [] = refl
    charge_of (p ∷ ps) =
        let one = sum_by-cons (λ (q : Piece). 1 + length q.cells) p ps in
        let cells = sum_by-cons (λ (q : Piece). length q.cells) p ps in
        let more = charge_of ps in
        omega arith

-- 1 more for each piece of the word
pub line_cells-end_word : (c : Collected) → line_cells (end_word c) ≡ line_cells c + length (word_pieces c.word)
line_cells-end_word c =
    let both = sum_by-append (λ (p : Piece). 1 + length p.cells) c.pieces (word_pieces c.word) in
    let last = charge-word_pieces c.word in
    omega arith

word_cells-with_field : (width : ℕ) (kind : StopKind) (fill : Cell) (w : Option Word) → word_cells (option_map (with_field width kind fill) w) ≡ word_cells w
word_cells-with_field width kind fill None = refl
word_cells-with_field width kind fill (Some w) = refl

-- the text for a stop begins without cells
pub line_cells-with_field : (width : ℕ) (kind : StopKind) (fill : Cell) (c : Collected) → line_cells (in_word (with_field width kind fill) c) ≡ text_cells c
line_cells-with_field width kind fill c = let same = word_cells-with_field width kind fill c.word in omega arith

-- what is afforded is within the limit
pub within_from_afforded : (v : Lined) → ◌≡◌ {A = Result (Unit {0}) LineCells} (Ok tt) (afforded v) → line_cells v.collected ≤ v.limit
within_from_afforded v h = elim (cases_lt v.limit (line_cells v.collected)) [
  | inl above ↦ absurd (let e : ◌≡◌ {A = Result (Unit {0}) LineCells} (Ok tt) (Err (record {})) = (rw (lt-ltb v.limit (line_cells v.collected) above) at h) in cc)
  | inr within ↦ within
]
