-- The lines of a table without bars and rules: on each the fields of a row.
use Rattle.std.proofs.Common.{◌≡◌, ℕ, zero, suc, ◌+◌, ◌-◌, ◌<◌, ◌≤◌, List, [], ◌∷◌, ◌++◌, length, codes, Bool, true, false, not, ◌==◌, ◌&&◌, ◌||◌, if◌then◌else◌, nat_lt, get_or, refl, sym, ◌∙◌, ap, subst, append_assoc, append-nil, length-append, arith}
use Rattle.std.specs.Prelude.{None, Option}
use Rattle.std.proofs.Math.ListN.{get_or-append}
use Rattle.std.proofs.Math.Seq.{get_or-append_seam}
use Rattle.std.proofs.lemmas.Bool.Decides.{nat_tests}
use Rattle.tbl_columns.specs.declared.grid.Cell.{Cell}
use Rattle.tbl_columns.specs.Columns.{is_given}
use Rattle.tbl_columns.specs.Frames.{bars_seen, is_ruled, was_ruled}
use Rattle.tbl_columns.specs.Held.{cell, columns}
use Rattle.tbl_drawing.specs.declared.layout.Layout.{Layout}
use Rattle.tbl_drawing.specs.declared.layout.Step.{Step}
use Rattle.tbl_drawing.specs.declared.layout.StepKind.TheVariants as steps
use Rattle.tbl_drawing.specs.declared.pen.Pen.{Pen}
use Rattle.tbl_drawing.specs.Drawing.{bar_byte, bars_as, column_rule, content, falling, field_strokes, more_lines, own_in, row_bar, row_strokes, text_in, whole}
use Rattle.tbl_drawing.specs.Drawing as drawing
use Rattle.tbl_drawing.specs.Held.{no_step}
use Rattle.tbl_drawing.specs.Lines as lines
use Rattle.tbl_drawing.specs.Lines.{definitions, is_moved, lines_strokes, middle, moves, moves_at, need, nth_strokes, room, row_lines, step_strokes, steps_strokes, tail}
use Rattle.tbl_drawing.specs.Pens.{Stroke, Bytes, after_all, bytes_of, first}
use Rattle.tbl_drawing.specs.Pens as pens
use Rattle.tbl_drawing.specs.Sequences.{joined, some_below}
use Rattle.tbl_drawing.specs.Steps.{step_at}
use Rattle.tbl_drawing.proofs.Tapes.{after_all-append, bytes_of-append}
use Rattle.tbl_table.specs.declared.table.Form.{Form}
use Rattle.tbl_table.specs.declared.table.Item.{Item}
use Rattle.tbl_table.specs.declared.table.Item.TheVariants as items
use Rattle.tbl_table.specs.declared.table.Looks.{Looks}
use Rattle.tbl_table.specs.Held.{is_open, is_rule, item, plain}
use Rattle.tbl_laws.specs.Lines.{AreLines, GoesOut, HasFields, head}
use Rattle.tbl_laws.proofs.DrawnCells.{IsPlain, IsShown, SpanIs, Writes, field_written, fields_then, lines_then, still}
use Rattle.tbl_laws.proofs.Walked.{AreFlat, steps_length, steps_to}

-- ---- what the lines of a table rest on: these fields stand in its columns, and nothing else

-- a field of one row and one column, in one line
pub record IsOwn (f : Cell) (r c : ℕ) : Type 0 where
  pub top : f.top ≡ r
  pub first : f.first ≡ c
  pub falls : f.falls ≡ false
  pub block : f.block ≡ None

pub record IsDrawn (z : Layout) (w rows : ℕ) (field : ℕ → ℕ → List ℕ) : Type 0 where
  pub columns_are : columns z.grid ≡ w
  pub looks : z.grid.table.looks ≡ plain
  pub bars : (r c : ℕ) → r < rows → bars_seen z.grid r c ≡ 0
  pub own : (r c : ℕ) → r < rows → c < w → IsOwn (cell z.grid r c) r c
  pub plain_is : (r c : ℕ) → r < rows → c < w → IsPlain z (cell z.grid r c) (field r c)
  pub spans : (r c : ℕ) → r < rows → c < w → SpanIs z.grid.table.text.items (cell z.grid r c).field.span
  pub steps_are : z.steps.items ≡ steps_to rows
  pub flat : AreFlat z.talls.items
  pub items_are : (k : ℕ) → k < length z.grid.table.items.items → item z.grid.table k ≡ items.Row k
  pub none_defined : (r : ℕ) → r < rows → definitions z r ≡ []
  pub no_room : (r : ℕ) → r < rows → room z r ≡ []

no_row_bar : (z : Layout) (w rows : ℕ) (field : ℕ → ℕ → List ℕ) (r c : ℕ) (was now : Bool) → IsDrawn z w rows field → r < rows → row_bar z r c was now ≡ []
no_row_bar z w rows field r c was now h inside =
    ap (λ (n : ℕ). if n == 0 then [] else bars_as z c (bar_byte z r was now) was n) (h.bars r c inside)

content_is : (z : Layout) (r c line : ℕ) (text : List ℕ) → IsOwn (cell z.grid r c) r c → IsPlain z (cell z.grid r c) text
    → content z r c line ≡ field_strokes z (cell z.grid r c)
content_is z r c line text own plain =
    let f = cell z.grid r c in
    ap (λ (x : Form). if is_rule x && (f.top == r) then column_rule z r c else text_in z r c line f) plain.form
    ∙ ap (λ (n : ℕ). if (n == r) && (f.first == c) then own_in z r c line f else falling z r c line) own.top
    ∙ ap (λ (n : ℕ). if (r == r) && (n == c) then own_in z r c line f else falling z r c line) own.first
    ∙ ap (λ (b : Bool). if b && (c == c) then own_in z r c line f else falling z r c line) (itself r)
    ∙ ap (λ (b : Bool). if b then own_in z r c line f else falling z r c line) (itself c)
    ∙ ap (λ (b : Bool). if b || is_given f.block then falling z r c line else field_strokes z f) own.falls
    ∙ ap (λ (o : Option ℕ). if is_given o then falling z r c line else field_strokes z f) own.block
  where
    itself : (n : ℕ) → (n == n) ≡ true
    itself n = grind (arith, nat_tests)

-- ---- a row

-- what the first numbers give
abbrev pub gathered : {A : Type 0} → (ℕ → A) → ℕ → List A
gathered g zero = []
gathered g (suc n) = gathered g n ++ g n ∷ []

still_then : (begins : Bool) (fs : List (List ℕ)) (f : List ℕ) → still begins (fs ++ f ∷ []) ≡ still (still begins fs) (f ∷ [])
still_then begins [] f = refl
still_then begins ([] ∷ fs) f = still_then begins fs f
still_then begins ((b ∷ bs) ∷ fs) f = still_then false fs f

-- strokes that write these fields on a line
record RowIs (fields : List (List ℕ)) (strokes : List Stroke) : Type 0 where
  written : HasFields true fields (bytes_of strokes first)
  shown : IsShown (still true fields) (after_all strokes first)

row_then : (fields : List (List ℕ)) (text : List ℕ) (before here : List Stroke) → RowIs fields before
    → Writes (still true fields) here text (after_all before first) → RowIs (fields ++ text ∷ []) (before ++ here)
row_then fields text before here was now = record {
  written = subst (HasFields true (fields ++ text ∷ [])) (sym (bytes_of-append before here first))
      (fields_then true fields text (bytes_of before first) (bytes_of here (after_all before first)) was.written now.fields);
  shown = subst (λ (x : Bool). IsShown x (after_all (before ++ here) first)) (sym (still_then true fields text))
      (subst (IsShown (still (still true fields) (text ∷ []))) (sym (after_all-append before here first)) now.shown);
}

row_to : (z : Layout) (w rows : ℕ) (field : ℕ → ℕ → List ℕ) (r c line : ℕ) → IsDrawn z w rows field → r < rows → c ≤ w
    → RowIs (gathered (field r) c) (drawing.row_cells c z r line)
row_to z w rows field r zero line h inside few = record { written = refl; shown = record { place = 0; at = refl; begun = refl } }
row_to z w rows field r (suc c) line h inside few =
    let f = cell z.grid r c in
    let less : c < w = omega (arith, few) in
    let was = row_to z w rows field r c line h inside (omega (arith, few)) in
    let before = drawing.row_cells c z r line in
    let plain = h.plain_is r c inside less in
    let here : drawing.row_cell z r c line ≡ field_strokes z f =
    ap (λ (ks : List Stroke). ks ++ content z r c line) (no_row_bar z w rows field r c (was_ruled z.grid r c) (is_ruled z.grid r c) h inside)
    ∙ content_is z r c line (field r c) (h.own r c inside less) plain in
    subst (λ (ks : List Stroke). RowIs (gathered (field r) (suc c)) (before ++ ks)) (sym here)
    (row_then (gathered (field r) c) (field r c) before (field_strokes z f) was
    (field_written z f (field r c) (still true (gathered (field r) c)) (after_all before first) plain (h.spans r c inside less) was.shown))

-- the line of a row
row_line : (z : Layout) (w rows : ℕ) (field : ℕ → ℕ → List ℕ) (r at : ℕ) (p : Pen) → IsDrawn z w rows field → r < rows
    → (line : List ℕ) × (bytes_of (row_lines z r at) p ≡ line ++ codes "\n") × HasFields true (gathered (field r) w) line
row_line z w rows field r at p h inside =
    let cells = drawing.row_cells w z r at in
    let strokes : row_strokes z r at ≡ cells =
    ap (λ (n : ℕ). drawing.row_cells n z r at ++ row_bar z r n (was_ruled z.grid r n) false) h.columns_are
    ∙ ap (λ (ks : List Stroke). cells ++ ks) (no_row_bar z w rows field r w (was_ruled z.grid r w) false h inside)
    ∙ append-nil cells in (
      bytes_of cells first,
      ap (λ (n : ℕ). bytes_of (whole (row_strokes z r at) ++ more_lines (n - 1) z r at) p) (h.flat r)
          ∙ ap (λ (ks : List Stroke). bytes_of ks p) (append-nil (whole (row_strokes z r at)))
          ∙ ap (λ (ks : List Stroke). bytes_of (whole ks) p) strokes ∙ bytes_of-append cells pens.end first,
      (row_to z w rows field r w at h inside (omega arith)).written,
    )

-- ---- all lines

even_step : (n k : ℕ) → k < n → get_or (steps_to n) (k + k) no_step ≡ step_at (steps.Before k) k
even_step zero k h = absurd (omega (arith, h))
even_step (suc n) k h = by_test (nat_lt k n) refl (λ less. even_step n k less)
  where
    one : List Step
    one = step_at (steps.Before n) n ∷ []

    two : List Step
    two = step_at (steps.Row n) n ∷ []

    long : length (steps_to n) ≡ n + n
    long = steps_length n

    longer : length (steps_to n ++ one) ≡ n + n + 1
    longer = (let a = length-append (steps_to n) one in let b = long in omega (arith, a, b))

    by_test : (b : Bool) → nat_lt k n ≡ b → (k < n → get_or (steps_to n) (k + k) no_step ≡ step_at (steps.Before k) k)
        → get_or ((steps_to n ++ one) ++ two) (k + k) no_step ≡ step_at (steps.Before k) k
    by_test true e before =
        (let less : k < n = grind (arith, nat_tests, e) in
        get_or-append (steps_to n ++ one) two no_step (k + k) (omega (arith, less, longer))
        ∙ get_or-append (steps_to n) one no_step (k + k) (omega (arith, less, long)) ∙ before less)
    by_test false e before =
        (let same : k ≡ n = (let m : n ≤ k = grind (arith, nat_tests, e) in omega (arith, m, h)) in
        get_or-append (steps_to n ++ one) two no_step (k + k) (omega (arith, same, longer))
        ∙ ap (λ (m : ℕ). get_or (steps_to n ++ one) m no_step) (let e : k + k ≡ length (steps_to n) = omega (arith, same, long) in e)
        ∙ get_or-append_seam (steps_to n) (step_at (steps.Before n) n) [] no_step
        ∙ ap (λ (m : ℕ). step_at (steps.Before m) m) (sym same))

odd_step : (n k : ℕ) → k < n → get_or (steps_to n) (suc (k + k)) no_step ≡ step_at (steps.Row k) k
odd_step zero k h = absurd (omega (arith, h))
odd_step (suc n) k h = by_test (nat_lt k n) refl (λ less. odd_step n k less)
  where
    one : List Step
    one = step_at (steps.Before n) n ∷ []

    two : List Step
    two = step_at (steps.Row n) n ∷ []

    long : length (steps_to n) ≡ n + n
    long = steps_length n

    longer : length (steps_to n ++ one) ≡ n + n + 1
    longer = (let a = length-append (steps_to n) one in let b = long in omega (arith, a, b))

    by_test : (b : Bool) → nat_lt k n ≡ b → (k < n → get_or (steps_to n) (suc (k + k)) no_step ≡ step_at (steps.Row k) k)
        → get_or ((steps_to n ++ one) ++ two) (suc (k + k)) no_step ≡ step_at (steps.Row k) k
    by_test true e before =
        (let less : k < n = grind (arith, nat_tests, e) in
        get_or-append (steps_to n ++ one) two no_step (suc (k + k)) (omega (arith, less, longer))
        ∙ get_or-append (steps_to n) one no_step (suc (k + k)) (omega (arith, less, long)) ∙ before less)
    by_test false e before =
        (let same : k ≡ n = (let m : n ≤ k = grind (arith, nat_tests, e) in omega (arith, m, h)) in
        ap (λ (m : ℕ). get_or ((steps_to n ++ one) ++ two) m no_step) (let e : suc (k + k) ≡ length (steps_to n ++ one) = omega (arith, same, longer) in e)
        ∙ get_or-append_seam (steps_to n ++ one) (step_at (steps.Row n) n) [] no_step
        ∙ ap (λ (m : ℕ). step_at (steps.Row m) m) (sym same))

lines_to : (z : Layout) (w rows : ℕ) (field : ℕ → ℕ → List ℕ) (k : ℕ) (p : Pen) → IsDrawn z w rows field → k ≤ rows
    → AreLines (gathered (λ r. gathered (field r) w) k) (bytes_of (joined (k + k) (nth_strokes z)) p)
lines_to z w rows field zero p h few = refl
lines_to z w rows field (suc k) p h few =
    let f = nth_strokes z in
    let inside : k < rows = omega (arith, few) in
    let prefix = joined (k + k) f in
    let none : f (k + k) ≡ Bytes [] ∷ Bytes [] ∷ [] =
    ap (λ (ss : List Step). step_strokes z (get_or ss (k + k) no_step)) h.steps_are
    ∙ ap (step_strokes z) (even_step rows k inside)
    ∙ ap (λ (l : List ℕ). Bytes l ∷ Bytes (room z k) ∷ []) (h.none_defined k inside)
    ∙ ap (λ (l : List ℕ). Bytes [] ∷ Bytes l ∷ []) (h.no_room k inside) in
    let pen = after_all (prefix ++ f (k + k)) p in
    let here : f (suc (k + k)) ≡ row_lines z k k =
    ap (λ (ss : List Step). step_strokes z (get_or ss (suc (k + k)) no_step)) h.steps_are ∙ ap (step_strokes z) (odd_step rows k inside) in
    let (line, is, fields) = row_line z w rows field k k pen h inside in
    let bytes : bytes_of (joined (suc k + suc k) f) p ≡ bytes_of prefix p ++ (line ++ codes "\n") =
    ap (λ (n : ℕ). bytes_of (joined n f) p) (let e : suc k + suc k ≡ suc (suc (k + k)) = omega arith in e)
    ∙ bytes_of-append (prefix ++ f (k + k)) (f (suc (k + k))) p
    ∙ ap (λ (l : List ℕ). l ++ bytes_of (f (suc (k + k))) pen) (bytes_of-append prefix (f (k + k)) p ∙ ap (λ (ks : List Stroke). bytes_of prefix p ++ bytes_of ks (after_all prefix p)) none ∙ append-nil (bytes_of prefix p))
    ∙ ap (λ (ks : List Stroke). bytes_of prefix p ++ bytes_of ks pen) here
    ∙ ap (λ (l : List ℕ). bytes_of prefix p ++ l) is in
    subst (AreLines (gathered (λ r. gathered (field r) w) (suc k))) (sym bytes)
    (lines_then (gathered (λ r. gathered (field r) w) k) (gathered (field k) w) (bytes_of prefix p) line
    (lines_to z w rows field k p h (omega (arith, few))) fields)

-- no request stands among them
none_moves : (n : ℕ) (z : Layout) → ((k : ℕ) → k < n → item z.grid.table k ≡ items.Row k) → some_below n (moves_at z) ≡ false
none_moves zero z h = refl
none_moves (suc n) z h =
    ap (λ (b : Bool). b || moves_at z n) (none_moves n z (λ k less. h k (omega (arith, less))))
    ∙ ap (λ (i : Item). moves z i) (h n (omega arith))

-- no box, and not in the middle
head_is : (z : Layout) (count : ℕ) → z.grid.table.looks ≡ plain → lines.head z count true ≡ head
head_is z count looks =
    ap (λ (x : Looks). head ++ (if not (is_open x.frame) then codes ".nr *box 1\n" else []) ++ (if x.center then middle z else [])
    ++ (if (not (is_open x.frame) && not x.nokeep) && true then need count else [])) looks

pub lines_go_out : (z : Layout) (w rows count : ℕ) (field : ℕ → ℕ → List ℕ) (p : Pen) → IsDrawn z w rows field
    → GoesOut (gathered (λ r. gathered (field r) w) rows) (bytes_of (lines_strokes z true count true) p)
lines_go_out z w rows count field p h =
    let all = joined (rows + rows) (nth_strokes z) in
    let long = steps_length rows in
    let all_is : steps_strokes z ≡ all = ap (λ (ss : List Step). joined (length ss) (nth_strokes z)) h.steps_are ∙ ap (λ (n : ℕ). joined n (nth_strokes z)) long in
    let unmoved : is_moved z ≡ false = none_moves (length z.grid.table.items.items) z h.items_are in (
      bytes_of all p,
      ap (λ (l : List ℕ). l ++ (lines.indent z ++ bytes_of (steps_strokes z ++ Bytes tail ∷ []) p)) (head_is z count h.looks)
          ∙ ap (λ (b : Bool). head ++ ((if b then codes ".nr *O \\n(.i\n" else []) ++ bytes_of (steps_strokes z ++ Bytes tail ∷ []) p)) unmoved
          ∙ ap (λ (ks : List Stroke). head ++ bytes_of (ks ++ Bytes tail ∷ []) p) all_is
          ∙ ap (λ (l : List ℕ). head ++ l) (bytes_of-append all (Bytes tail ∷ []) p)
          ∙ ap (λ (l : List ℕ). head ++ (bytes_of all p ++ l)) (append-nil tail)
          ∙ sym (append_assoc head (bytes_of all p) tail),
      lines_to z w rows field rows p h (omega arith),
    )
