-- A table that is wider than the line fits once it is narrowed.
use Rattle.std.proofs.Common.{◌≡◌, ℕ, zero, suc, ◌+◌, ◌-◌, ◌<◌, ◌≤◌, ◌==◌, ◌&&◌, not, min, max, Bool, true, false, nat_lt, List, [], ◌∷◌, length, get_or, Option, None, Some, inl, inr, refl, sym, ap, subst, arith, ◌∙◌, if◌then◌else◌}
use Rattle.std.specs.Prelude.{◌⊎◌}
use Rattle.std.proofs.lemmas.Bool.Decides.{nat_tests}
use Rattle.nr_vectors.specs.Items.{Items}
use Rattle.tbl_blocks.specs.declared.blocks.Blocks.{Blocks}
use Rattle.tbl_blocks.specs.Blocks.{without_lines}
use Rattle.tbl_columns.specs.declared.grid.Block.{Block}
use Rattle.tbl_columns.specs.declared.grid.Cell.{Cell}
use Rattle.tbl_columns.specs.declared.grid.Column.{Column}
use Rattle.tbl_columns.specs.declared.grid.Grid.{Grid}
use Rattle.tbl_columns.specs.Cells.{columns_over}
use Rattle.tbl_columns.specs.Columns.{Dealing, beside, dealing, dealt, dealt_at, is_given, left_for, needs, span_width, spans, together, wider, widened, with_column, with_width}
use Rattle.tbl_columns.specs.Frames.{laid_out, left_edge, right_edge, table_end}
use Rattle.tbl_columns.specs.Held.{block_in, cell_of, column, columns, fresh, no_block, no_cell, text}
use Rattle.tbl_columns.specs.Laws.{FieldsStand, IsNarrowable, LeastSpansFit, LeastsFit, TablesFit, TextsFit, gaps, least_end, least_together, leasts}
use Rattle.tbl_columns.specs.Measured.{by_blocks, by_fields, line_shared, measured_columns, measured_table}
use Rattle.tbl_columns.specs.Narrow.{block_counted, blocks_counted, cells_taken, first_least, is_too_wide, keeps_line, least, least_by_fields, least_in, least_of_cell, line_kept, lines_kept, long_fields_read, long_read, made_narrow, may_break, narrowed, with_long_fields}
use Rattle.tbl_columns.specs.Shares.{line_room}
use Rattle.tbl_columns.specs.Texts.{all_filled_within, counted_cell, filled_within, read_words, with_blocks}
use Rattle.tbl_table.specs.Lists.{in_turn, put}
use Rattle.tbl_table.specs.Sums.{sum}
use Rattle.tbl_columns.proofs.Choices.{taken}
use Rattle.tbl_columns.proofs.Ends.{Alike, around, around_alike, extent, gap_at, laid_alike, laid_end, laid_width, most, total, total_alike, total_has, total_least, width_at}
use Rattle.tbl_columns.proofs.Narrowing.{Took, alike_both, took}
use Rattle.tbl_columns.proofs.Same.{put_own}
use Rattle.tbl_columns.proofs.SpansFit.{with_grows}
use Rattle.tbl_columns.proofs.Turns.{if_same, set_has, turn_has, turn_same}
use Rattle.tbl_columns.proofs.Within.{Going, IsWithin, all_within, bare_cell, begun, bound, together_same}

-- ---- where nothing lacks nothing is dealt out

turn_none : {T : Type 0} (f : ℕ → T → T) (x : T) → ((n : ℕ) → f n x ≡ x) → (k : ℕ) → in_turn k f x ≡ x
turn_none f x same zero = refl
turn_none f x same (suc k) = ap (f k) (turn_none f x same k) ∙ same k

put_none : (c : ℕ) (x : Column) (g : Grid) → x ≡ column g c → record g { columns = put c x g.columns } ≡ g
put_none c x g e =
    ap (λ (y : Column). record g { columns = put c y g.columns }) e
    ∙ ap (λ (cs : Items Column). record g { columns = cs }) (put_own c fresh g.columns)

wider_none : (more : ℕ) (c : Column) → more ≡ 0 → c.width ≤ most → wider more c ≡ c
wider_none more c none small =
    let is : sum c.width more ≡ c.width = omega (arith, none, small) in
    ap (λ (w : ℕ). record c { width = w }) is

dealt_none : (all last c : ℕ) (g : Grid) → ((i : ℕ) → width_at g i ≤ most) → dealt_at 0 all last c (dealing g 0) ≡ dealing g 0
dealt_none all last c g small =
    let more : ℕ = 0 - left_for 0 all (last - c) in
    let none : more ≡ 0 = omega arith in
    let rest : 0 - more ≡ 0 = omega arith in
    ap (λ (u : Grid). dealing u (0 - more)) (put_none c (wider more (column g c)) g (wider_none more (column g c) none (small c)))
    ∙ ap (dealing g) rest

widened_none : (first last width : ℕ) (g : Grid) → ((i : ℕ) → width_at g i ≤ most) → width ≤ span_width g first last → widened first last width g ≡ g
widened_none first last width g small h =
    let all : ℕ = columns_over first last in
    let none : width - span_width g first last ≡ 0 = omega (arith, h) in
    ap (λ (w : ℕ). (dealt first last w g).grid) none
    ∙ ap (λ (d : Dealing). d.grid) (turn_none (λ n. dealt_at 0 all last (first + n)) (dealing g 0) (λ n. dealt_none all last (first + n) g small) all)

-- a block that fits makes no column wider
counted_none : (n : ℕ) (g : Grid) → ((i : ℕ) → width_at g i ≤ most)
    → (spans (cell_of g n) ≡ true → needs (cell_of g n) ≤ span_width g (cell_of g n).first (cell_of g n).last)
    → (spans (cell_of g n) ≡ false → needs (cell_of g n) ≤ width_at g (cell_of g n).first)
    → counted_cell n g ≡ g
counted_none n g small over alone = by_spans (spans (cell_of g n)) refl
  where
    by_spans : (b : Bool) → spans (cell_of g n) ≡ b
        → (if b then widened (cell_of g n).first (cell_of g n).last (needs (cell_of g n)) g
        else record g {
          columns = put (cell_of g n).first
              (with_width (max (column g (cell_of g n).first).width (needs (cell_of g n))) (column g (cell_of g n).first)) g.columns;
        }) ≡ g
    by_spans true e = widened_none (cell_of g n).first (cell_of g n).last (needs (cell_of g n)) g small (over e)
    by_spans false e =
        let f : Cell = cell_of g n in
        let fits : needs f ≤ width_at g f.first = alone e in
        let is : max (column g f.first).width (needs f) ≡ (column g f.first).width = omega (arith, fits) in
        put_none f.first (with_width (max (column g f.first).width (needs f)) (column g f.first)) g
        (ap (λ (w : ℕ). with_width w (column g f.first)) is)

-- ---- what the least widths are of

least_grows : (g : Grid) (c l : ℕ) (fs : List Cell) → l ≤ least_by_fields g c l fs
least_grows g c l [] = omega arith
least_grows g c l (f ∷ fs) =
    let b : Bool = (f.first == c) && not (spans f) in
    let now : l ≤ (if b then max (least_of_cell g f) l else l) = by b in
    let rest : (if b then max (least_of_cell g f) l else l) ≤ least_by_fields g c (if b then max (least_of_cell g f) l else l) fs =
    least_grows g c (if b then max (least_of_cell g f) l else l) fs in
    omega (arith, now, rest)
  where
    by : (b : Bool) → l ≤ (if b then max (least_of_cell g f) l else l)
    by true = omega arith
    by false = omega arith

alone_true : (a b : ℕ) (s : Bool) → a ≡ b → s ≡ false → ((a == b) && not s) ≡ true
alone_true a b true e h = absurd (cc)
alone_true a b false e h = let is : (a == b) ≡ true = grind (arith, nat_tests, e) in ap (λ (t : Bool). t && not false) is

least_has : (g : Grid) (l n : ℕ) (fs : List Cell) (c : ℕ) → n < length fs → (get_or fs n no_cell).first ≡ c → spans (get_or fs n no_cell) ≡ false
    → least_of_cell g (get_or fs n no_cell) ≤ least_by_fields g c l fs
least_has g l n [] c h at alone = absurd (omega (arith, h))
least_has g l zero (f ∷ fs) c h at alone =
    let agreed : (if (f.first == c) && not (spans f) then max (least_of_cell g f) l else l) ≡ max (least_of_cell g f) l =
    taken ((f.first == c) && not (spans f)) (max (least_of_cell g f) l) l (alone_true f.first c (spans f) at alone) in
    let rest : (if (f.first == c) && not (spans f) then max (least_of_cell g f) l else l)
    ≤ least_by_fields g c (if (f.first == c) && not (spans f) then max (least_of_cell g f) l else l) fs =
    least_grows g c (if (f.first == c) && not (spans f) then max (least_of_cell g f) l else l) fs in
    omega (arith, agreed, rest)
least_has g l (suc n) (f ∷ fs) c h at alone =
    least_has g (if (f.first == c) && not (spans f) then max (least_of_cell g f) l else l) n fs c (omega (arith, h)) at alone

least_spans : (n : ℕ) (g h : Grid) (first last : ℕ) → ((i : ℕ) → i < n → least g (first + i) ≤ width_at h (first + i))
    → ((c : ℕ) → gap_at h c ≡ gap_at g c) → least_together n g first last ≤ together n h first last
least_spans zero g h first last fits gap = omega arith
least_spans (suc n) g h first last fits gap =
    let here : least g (first + n) ≤ width_at h (first + n) = fits n (omega arith) in
    let in_all : min (least g (first + n)) most ≤ min (width_at h (first + n)) most = omega (arith, here) in
    with_grows (nat_lt (first + n) last) (least_together n g first last) (together n h first last)
    (with_width (least g (first + n)) (column g (first + n))) (column h (first + n))
    (least_spans n g h first last (λ i p. fits i (omega (arith, p))) gap) in_all (gap (first + n))

-- ---- fields that are set in lines

given_inside : (fs : List Cell) (n : ℕ) → is_given (get_or fs n no_cell).block ≡ true → n < length fs
given_inside [] n h = absurd (cc)
given_inside (f ∷ fs) zero h = omega arith
given_inside (f ∷ fs) (suc n) h = let rest : n < length fs = given_inside fs n h in omega (arith, rest)

if_has : {T : Type 0} (P : T → Type 0) (b : Bool) (x y : T) → P x → P y → P (if b then x else y)
if_has P true x y p q = p
if_has P false x y p q = q

-- one that is kept in one line has no block
kept_cell : (t : Grid) (i : ℕ) → is_given (cell_of (lines_kept t) i).block ≡ true → cell_of (lines_kept t) i ≡ cell_of t i
kept_cell t i =
    turn_has (λ (u : Grid). is_given (cell_of u i).block ≡ true → cell_of u i ≡ cell_of t i) line_kept step (length t.cells.items) t (λ given. refl)
  where
    step : (n : ℕ) (u : Grid) → (is_given (cell_of u i).block ≡ true → cell_of u i ≡ cell_of t i)
        → is_given (cell_of (line_kept n u) i).block ≡ true → cell_of (line_kept n u) i ≡ cell_of t i
    step n u p =
        if_has (λ (v : Grid). is_given (cell_of v i).block ≡ true → cell_of v i ≡ cell_of t i)
        (keeps_line (cell_of u n) u) (record u { cells = put n (record (cell_of u n) { block = None }) u.cells }) u
        (set_has (λ (x : Cell). is_given x.block ≡ true → x ≡ cell_of t i) u.cells.items n (record (cell_of u n) { block = None }) no_cell i p
        (λ e given. absurd (cc))) p

kept_same : {B : Type 0} (K : Grid → B) → ((u : Grid) (n : ℕ) (x : Cell) → K (record u { cells = put n x u.cells }) ≡ K u) → (t : Grid)
    → K (lines_kept t) ≡ K t
kept_same K same t =
    turn_same K line_kept
    (λ n u. if_same K (keeps_line (cell_of u n) u) (record u { cells = put n (record (cell_of u n) { block = None }) u.cells }) u (K u)
    (same u n (record (cell_of u n) { block = None })) refl) (length t.cells.items) t

long_same : {B : Type 0} (K : Grid → B) → ((u : Grid) (n : ℕ) → K (read_words n (cell_of u n) u) ≡ K u) → (m : Grid)
    → K (with_long_fields m) ≡ K (record m { narrowed = true })
long_same K same m =
    turn_same K long_read
    (λ n u. if_same K (may_break u (cell_of u n)) (read_words n (cell_of u n) u) u (K u) (same u n) refl)
    (length m.cells.items) (record m { narrowed = true })

least_same : (k long : Grid) (f f0 : Cell) (o : Option ℕ) → f.block ≡ o → is_given o ≡ true → bare_cell f ≡ bare_cell f0 → k.texts ≡ long.texts
    → least_of_cell k f ≡ least_of_cell long f0
least_same k long f f0 None e given bare texts = absurd (cc)
least_same k long f f0 (Some p) e given bare texts =
    let at : f0.block ≡ Some p = ap (λ (x : Cell). x.block) (sym bare) ∙ e in
    ap (λ (o : Option ℕ). least_in f (block_in k o)) e
    ∙ ap (λ (ts : Items Block). sum (get_or ts.items p no_block).word (beside f)) texts
    ∙ ap (λ (x : Cell). sum (text long p).word (beside x)) bare
    ∙ sym (ap (λ (o : Option ℕ). least_in f0 (block_in long o)) at)

span_alone : (g : Grid) (first last : ℕ) → nat_lt first last ≡ false → span_width g first last ≤ width_at g first
span_alone g first last e = by_count (columns_over first last) refl
  where
    by_count : (k : ℕ) → columns_over first last ≡ k → together k g first last ≤ width_at g first
    by_count zero is = omega arith
    by_count (suc zero) is =
        let at : first + 0 ≡ first = omega arith in
        subst (λ (n : ℕ). with_column (nat_lt n last) 0 (column g n) ≤ width_at g first) (sym at)
        (subst (λ (b : Bool). with_column b 0 (column g first) ≤ width_at g first) (sym e) (omega arith))
    by_count (suc (suc k)) is =
        let low : last ≤ first = grind (arith, nat_tests, e) in
        absurd (omega (arith, is, low))

-- so no block that is filled makes a column wider
module _ (taken_cells : ℕ) (long t h : Grid) (took_all : Took taken_cells (least long) long t) (going : Going (lines_kept t) (length (lines_kept t).cells.items) h)
    (small : (i : ℕ) → width_at h i ≤ most) (stand : FieldsStand long) (fit : LeastsFit long) (over_fit : LeastSpansFit long) where
  columns_are : h.columns ≡ t.columns
  columns_are = going.columns ∙ kept_same (λ (u : Grid). u.columns) (λ u n x. refl) t

  cell_is : (n : ℕ) → is_given (cell_of h n).block ≡ true → bare_cell (cell_of h n) ≡ bare_cell (cell_of long n)
  cell_is n given =
      let bare : bare_cell (cell_of h n) ≡ bare_cell (cell_of (lines_kept t) n) = going.cell n in
      let kept : cell_of (lines_kept t) n ≡ cell_of t n = kept_cell t n (ap (λ (x : Cell). is_given x.block) (sym bare) ∙ given) in
      bare ∙ ap bare_cell (kept ∙ ap (λ (cs : Items Cell). get_or cs.items n no_cell) took_all.cells)

  bound_by : (n : ℕ) → is_given (cell_of h n).block ≡ true
      → needs (cell_of h n) ≤ max (span_width h (cell_of h n).first (cell_of h n).last) (least_of_cell long (cell_of long n))
  bound_by n given =
      let f : Cell = cell_of h n in
      let k : Grid = lines_kept t in
      let inside : n < length k.cells.items = given_inside k.cells.items n (ap (λ (x : Cell). is_given x.block) (sym (going.cell n)) ∙ given) in
      let within : needs f ≤ bound k f = going.fits n inside given in
      let texts : k.texts ≡ long.texts = kept_same (λ (u : Grid). u.texts) (λ u i x. refl) t ∙ took_all.texts in
      let least_is : least_of_cell k f ≡ least_of_cell long (cell_of long n) = least_same k long f (cell_of long n) f.block refl given (cell_is n given) texts in
      let span : span_width h f.first f.last ≡ span_width k f.first f.last = together_same (columns_over f.first f.last) k h f.first f.last going.columns in
      omega (arith, within, least_is, span)

  inside_long : (n : ℕ) → is_given (cell_of h n).block ≡ true → n < length long.cells.items
  inside_long n given = given_inside long.cells.items n (ap (λ (x : Cell). is_given x.block) (sym (cell_is n given)) ∙ given)

  over : (n : ℕ) → is_given (cell_of h n).block ≡ true → spans (cell_of h n) ≡ true
      → needs (cell_of h n) ≤ span_width h (cell_of h n).first (cell_of h n).last
  over n given wide =
      let f : Cell = cell_of h n in
      let o : Cell = cell_of long n in
      let here : n < length long.cells.items = inside_long n given in
      let wide_too : spans o ≡ true = ap spans (sym (cell_is n given)) ∙ wide in
      let first_of : least_of_cell long o ≤ least_together (columns_over o.first o.last) long o.first o.last = over_fit n here wide_too in
      let last_in : o.last < columns long = (stand n here).1 in
      let all : least_together (columns_over o.first o.last) long o.first o.last ≤ together (columns_over o.first o.last) t o.first o.last =
      least_spans (columns_over o.first o.last) long t o.first o.last
      (λ i p. took_all.no_less (o.first + i) (fit (o.first + i) (omega (arith, p, last_in)))) took_all.alike.gap in
      let span : span_width h o.first o.last ≡ span_width t o.first o.last = together_same (columns_over o.first o.last) t h o.first o.last columns_are in
      let at : span_width h f.first f.last ≡ span_width h o.first o.last = ap (λ (x : Cell). span_width h x.first x.last) (cell_is n given) in
      let needed = bound_by n given in
      omega (arith, first_of, all, span, at, needed)

  alone : (n : ℕ) → is_given (cell_of h n).block ≡ true → spans (cell_of h n) ≡ false → needs (cell_of h n) ≤ width_at h (cell_of h n).first
  alone n given narrow =
      let f : Cell = cell_of h n in
      let o : Cell = cell_of long n in
      let here : n < length long.cells.items = inside_long n given in
      let alone_too : spans o ≡ false = ap spans (sym (cell_is n given)) ∙ narrow in
      let by_cell : least_of_cell long o ≤ least long o.first = least_has long (first_least long o.first) n long.cells.items o.first here refl alone_too in
      let by_fit : least long o.first ≤ width_at t o.first = took_all.no_less o.first (fit o.first ((stand n here).0)) in
      let same : width_at h o.first ≡ width_at t o.first = ap (λ (cs : Items Column). (get_or cs.items o.first fresh).width) columns_are in
      let at : width_at h f.first ≡ width_at h o.first = ap (λ (x : Cell). width_at h x.first) (cell_is n given) in
      let span : span_width h f.first f.last ≤ width_at h f.first = span_alone h f.first f.last narrow in
      let needed = bound_by n given in
      omega (arith, by_cell, by_fit, same, at, span, needed)

  each_stays : (n : ℕ) → block_counted n h ≡ h
  each_stays n = by_given (is_given (cell_of h n).block) refl
    where
      by_given : (b : Bool) → is_given (cell_of h n).block ≡ b → (if b then counted_cell n h else h) ≡ h
      by_given true e = counted_none n h small (over n e) (alone n e)
      by_given false e = refl

  blocks_stay : blocks_counted h ≡ h
  blocks_stay = turn_none block_counted h each_stays (length h.cells.items)

-- ---- where a table ends

extent_same : (n : ℕ) (g h : Grid) → Alike g h → ((c : ℕ) → width_at h c ≡ width_at g c) → extent n h ≡ extent n g
extent_same n g h a w =
    let round : around h ≡ around g = around_alike g h a in
    let gap : total n (gap_at h) ≡ total n (gap_at g) = total_alike n (gap_at h) (gap_at g) (λ c p. a.gap c) in
    let width : total (suc n) (width_at h) ≡ total (suc n) (width_at g) = total_alike (suc n) (width_at h) (width_at g) (λ c p. w c) in
    omega (arith, round, gap, width)

alike_by : (g h : Grid) → h.columns ≡ g.columns → h.table ≡ g.table → h.edges ≡ g.edges → Alike g h
alike_by g h cs t e = record {
  table = t;
  edges = e;
  count = ap (λ (xs : Items Column). length xs.items) cs;
  gap = λ c. ap (λ (xs : Items Column). (get_or xs.items c fresh).gap) cs;
}

width_by : (g h : Grid) → h.columns ≡ g.columns → (c : ℕ) → width_at h c ≡ width_at g c
width_by g h cs c = ap (λ (xs : Items Column). (get_or xs.items c fresh).width) cs

past : {T : Type 0} (xs : List T) (n : ℕ) (d : T) → length xs ≤ n → get_or xs n d ≡ d
past [] n d h = refl
past (x ∷ xs) zero d h = absurd (omega (arith, h))
past (x ∷ xs) (suc n) d h = past xs n d (omega (arith, h))

width_most : (n : ℕ) (g : Grid) → columns g ≡ suc n → extent n g ≤ most → (c : ℕ) → width_at g c ≤ most
width_most n g count e c = by_place (nat_lt c (suc n)) refl
  where
    by_place : (b : Bool) → nat_lt c (suc n) ≡ b → width_at g c ≤ most
    by_place true is =
        let inside : c < suc n = grind (arith, nat_tests, is) in
        let part : width_at g c ≤ total (suc n) (width_at g) = total_has (suc n) c (width_at g) inside in
        omega (arith, part, e)
    by_place false is =
        let beyond : suc n ≤ c = grind (arith, nat_tests, is) in
        let none : width_at g c ≡ 0 = ap (λ (x : Column). x.width) (past g.columns.items c fresh (omega (arith, beyond, count))) in
        omega (arith, none)

leasts_are : (n : ℕ) (g : Grid) → leasts n g ≡ total n (least g)
leasts_are zero g = refl
leasts_are (suc n) g = ap (λ (k : ℕ). k + least g n) (leasts_are n g)

gaps_are : (n : ℕ) (g : Grid) → gaps n g ≡ total n (gap_at g)
gaps_are zero g = refl
gaps_are (suc n) g = ap (λ (k : ℕ). k + gap_at g n) (gaps_are n g)

-- columns from which cells were taken end within the line
taken_within : (n over room : ℕ) (long t : Grid) → columns long ≡ suc n → extent n long ≤ room + over → Took (over + 1) (least long) long t
    → around long + (leasts (columns long) long + gaps (columns long - 1) long + 1) ≤ room → extent n t ≤ room
taken_within n over room long t count end took_all leasts_fit = by_fewer took_all.fewer
  where
    by_fewer : ((total (columns long) (width_at t) + (over + 1) ≤ total (columns long) (width_at long)) ⊎ ((c : ℕ) → c < columns long → width_at t c ≤ least long c))
        → extent n t ≤ room
    by_fewer (inl less) =
        let round : around t ≡ around long = around_alike long t took_all.alike in
        let gap : total n (gap_at t) ≡ total n (gap_at long) = total_alike n (gap_at t) (gap_at long) (λ c p. took_all.alike.gap c) in
        let fewer : total (suc n) (width_at t) + (over + 1) ≤ total (suc n) (width_at long) =
        subst (λ (k : ℕ). total k (width_at t) + (over + 1) ≤ total k (width_at long)) count less in
        omega (arith, round, gap, fewer, end)
    by_fewer (inr narrow) =
        let round : around t ≡ around long = around_alike long t took_all.alike in
        let gap : total n (gap_at t) ≡ total n (gap_at long) = total_alike n (gap_at t) (gap_at long) (λ c p. took_all.alike.gap c) in
        let all : total (suc n) (width_at t) ≤ total (suc n) (least long) =
        total_least (suc n) (width_at t) (least long) (λ c p. narrow c (subst (λ (k : ℕ). c < k) (sym count) p)) in
        let by_least : leasts (columns long) long ≡ total (suc n) (least long) = ap (λ (k : ℕ). leasts k long) count ∙ leasts_are (suc n) long in
        let one_less : suc n - 1 ≡ n = omega arith in
        let by_gap : gaps (columns long - 1) long ≡ total n (gap_at long) =
        ap (λ (k : ℕ). gaps (k - 1) long) count ∙ ap (λ (k : ℕ). gaps k long) one_less ∙ gaps_are n long in
        omega (arith, round, gap, all, by_least, by_gap, leasts_fit)

-- so do these once blocks are filled
end_within : (n room end : ℕ) (m long t h : Grid) → Alike m long → ((c : ℕ) → width_at long c ≡ width_at m c) → columns m ≡ suc n
    → end ≡ min (extent n m) most → room < end → end < most → Took (sum end 1 - room) (least long) long t
    → around long + (leasts (columns long) long + gaps (columns long - 1) long + 1) ≤ room
    → Alike t h → ((c : ℕ) → width_at h c ≡ width_at t c) → extent n h ≤ room
end_within n room end m long t h to_long long_width count is past_room little took_all leasts_fit to_h h_width =
    let over : ℕ = end - room in
    let before : extent n long ≡ extent n m = extent_same n m long to_long long_width in
    let as_many : sum end 1 - room ≡ over + 1 = omega (arith, past_room, little) in
    let reach : extent n long ≤ room + over = omega (arith, before, is, past_room, little) in
    let left : extent n t ≤ room =
    taken_within n over room long t (to_long.count ∙ count) reach
    (subst (λ (c : ℕ). Took c (least long) long t) as_many took_all) leasts_fit in
    subst (λ (k : ℕ). k ≤ room) (sym (extent_same n t h to_h h_width)) left

reach_most : (extent room end : ℕ) → extent ≤ room → room < end → end < most → extent ≤ most
reach_most extent room end a b c = omega (arith, a, b, c)

ends_within : (extent room end : ℕ) → end ≡ min extent most → extent ≤ room → end ≤ room
ends_within extent room end e h = omega (arith, e, h)

too_wide : (fits nofit : Bool) (room end : ℕ) → (fits && not nofit && nat_lt room end) ≡ true → room < end
too_wide true true room end e = absurd (cc)
too_wide true false room end e = grind (arith, nat_tests, e)
too_wide false nofit room end e = absurd (cc)

texts_fit : (long k : Grid) → k.texts ≡ long.texts → k.blocks ≡ long.blocks → TextsFit long → TextsFit k
texts_fit long k texts blocks fit =
    subst (λ (bs : Blocks). TextsFit (record long { texts = k.texts; blocks = bs })) (sym blocks)
    (subst (λ (ts : Items Block). TextsFit (record long { texts = ts })) (sym texts) fit)

least_around : (g : Grid) (room : ℕ) → least_end g ≤ room → around g + (leasts (columns g) g + gaps (columns g - 1) g + 1) ≤ room
unfolding around
least_around g room h = h

narrow_fits : (n : ℕ) (m : Grid) → columns m ≡ suc n → table_end m ≡ min (extent n m) most → is_too_wide m ≡ true → IsNarrowable m
    → least_end (with_long_fields m) ≤ line_room m → table_end (made_narrow (sum (table_end m) 1 - line_room m) m) ≤ line_room m
narrow_fits n m count end wide can leasts_fit =
    let long : Grid = with_long_fields m in
    let cells : ℕ = sum (table_end m) 1 - line_room m in
    let t : Grid = cells_taken cells (least long) long in
    let k : Grid = lines_kept t in
    let h : Grid = all_filled_within k in
    let past_room : line_room m < table_end m = too_wide m.room.fits m.table.looks.nofit (line_room m) (table_end m) wide in
    let long_columns : long.columns ≡ m.columns = long_same (λ (u : Grid). u.columns) (λ u i. refl) m in
    let long_table : long.table ≡ m.table = long_same (λ (u : Grid). u.table) (λ u i. refl) m in
    let long_edges : long.edges ≡ m.edges = long_same (λ (u : Grid). u.edges) (λ u i. refl) m in
    let to_long : Alike m long = alike_by m long long_columns long_table long_edges in
    let took_all : Took cells (least long) long t = took cells (least long) long (subst (λ (c : ℕ). c ≤ 64) (sym to_long.count) can.0) in
    let kept_texts : k.texts ≡ long.texts = kept_same (λ (u : Grid). u.texts) (λ u i x. refl) t ∙ took_all.texts in
    let kept_blocks : k.blocks ≡ long.blocks = kept_same (λ (u : Grid). u.blocks) (λ u i x. refl) t ∙ took_all.blocks in
    let going : Going k (length k.cells.items) h =
    all_within k (length k.cells.items) (with_blocks (without_lines k.blocks) k) (texts_fit long k kept_texts kept_blocks can.5) (begun k) in
    let h_columns : h.columns ≡ t.columns = going.columns ∙ kept_same (λ (u : Grid). u.columns) (λ u i x. refl) t in
    let h_table : h.table ≡ t.table = going.table ∙ kept_same (λ (u : Grid). u.table) (λ u i x. refl) t in
    let h_edges : h.edges ≡ t.edges = going.edges ∙ kept_same (λ (u : Grid). u.edges) (λ u i x. refl) t in
    let to_h : Alike t h = alike_by t h h_columns h_table h_edges in
    let h_count : columns h ≡ suc n = to_h.count ∙ took_all.alike.count ∙ to_long.count ∙ count in
    let fits : extent n h ≤ line_room m =
    end_within n (line_room m) (table_end m) m long t h to_long (width_by m long long_columns) count end past_room can.1 took_all
    (least_around long (line_room m) leasts_fit) to_h (width_by t h h_columns) in
    let small : (i : ℕ) → width_at h i ≤ most = width_most n h h_count (reach_most (extent n h) (line_room m) (table_end m) fits past_room can.1) in
    let stay : blocks_counted h ≡ h = blocks_stay cells long t h took_all going small can.2 can.3 can.4 in
    subst (λ (u : Grid). table_end (laid_out u) ≤ line_room m) (sym stay)
    (ends_within (extent n h) (line_room m) (table_end (laid_out h)) (laid_end n h h_count) fits)

-- ---- the law

none_end : (g : Grid) → columns g ≡ 0 → table_end g ≡ 0
none_end g e = ap (λ (c : ℕ). if c == 0 then 0 else sum (sum (column g (c - 1)).right (right_edge g)) g.edges.right) e

laid_fits : (x : Grid) → is_too_wide (laid_out x) ≡ true → IsNarrowable (laid_out x) → least_end (with_long_fields (laid_out x)) ≤ line_room (laid_out x)
    → table_end (narrowed (laid_out x)) ≤ line_room (laid_out x)
laid_fits x wide can leasts_fit = by_count (columns (laid_out x)) refl
  where
    none_past : (room end : ℕ) → end ≡ 0 → room < end → ⊥
    none_past room end e h = omega (arith, e, h)

    by_count : (c : ℕ) → columns (laid_out x) ≡ c → table_end (narrowed (laid_out x)) ≤ line_room (laid_out x)
    by_count zero e =
        absurd (none_past (line_room (laid_out x)) (table_end (laid_out x)) (none_end (laid_out x) e)
        (too_wide (laid_out x).room.fits (laid_out x).table.looks.nofit (line_room (laid_out x)) (table_end (laid_out x)) wide))
    by_count (suc n) e =
        let alike : Alike x (laid_out x) = laid_alike x in
        let same : extent n (laid_out x) ≡ extent n x = extent_same n x (laid_out x) alike (laid_width x) in
        let ended : table_end (laid_out x) ≡ min (extent n (laid_out x)) most =
        laid_end n x (sym alike.count ∙ e) ∙ ap (λ (k : ℕ). min k most) (sym same) in
        let narrow : table_end (made_narrow (sum (table_end (laid_out x)) 1 - line_room (laid_out x)) (laid_out x)) ≤ line_room (laid_out x) =
        narrow_fits n (laid_out x) e ended wide can leasts_fit in
        let agreed : narrowed (laid_out x) ≡ made_narrow (sum (table_end (laid_out x)) 1 - line_room (laid_out x)) (laid_out x) =
        taken (is_too_wide (laid_out x)) (made_narrow (sum (table_end (laid_out x)) 1 - line_room (laid_out x)) (laid_out x)) (laid_out x) wide in
        subst (λ (u : Grid). table_end u ≤ line_room (laid_out x)) (sym agreed) narrow

pub tables_fit : TablesFit
tables_fit g wide can leasts_fit = laid_fits (line_shared (by_blocks (by_fields g))) wide can leasts_fit
