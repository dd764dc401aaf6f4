-- Each line of a field stands on one of the lines of a table that goes out.
use Rattle.std.specs.Prelude.{◌⊎◌}
use Rattle.std.proofs.Common.{◌≡◌, ℕ, zero, suc, ◌+◌, ◌*◌, ◌<◌, ◌≤◌, min, Bool, true, false, ◌==◌, ◌&&◌, not, length, get_or, Option, None, Some, refl, sym, ap, subst, arith, ◌∙◌, inl, inr, if◌then◌else◌}
use Rattle.std.proofs.lemmas.Bool.Decides.{nat_tests}
use Rattle.std.proofs.lemmas.List.{get_or_past}
use Rattle.nr_vectors.specs.Items.{Items}
use Rattle.tbl_columns.specs.declared.grid.Block.{Block}
use Rattle.tbl_columns.specs.declared.grid.Cell.{Cell}
use Rattle.tbl_columns.specs.declared.grid.Column.{Column}
use Rattle.tbl_columns.specs.declared.grid.Grid.{Grid}
use Rattle.tbl_columns.specs.declared.grid.Placed.{Placed}
use Rattle.tbl_columns.specs.Cells.{placed_cells}
use Rattle.tbl_columns.specs.Columns.{columns_read, is_given, read_column}
use Rattle.tbl_columns.specs.Held.{block_in, cell_number, cell_of, columns, forgotten_cells, height_of, no_block, no_place, rows_in}
use Rattle.tbl_columns.specs.Measured.{measured_part, measured_table, placed_table}
use Rattle.tbl_columns.proofs.Turns.{turn_has}
use Rattle.tbl_drawing.specs.declared.layout.Layout.{Layout}
use Rattle.tbl_drawing.specs.declared.layout.Step.{Step}
use Rattle.tbl_drawing.specs.declared.layout.StepKind.{StepKind}
use Rattle.tbl_drawing.specs.declared.layout.StepKind.TheVariants as steps
use Rattle.tbl_drawing.specs.declared.layout.Tall.{Tall}
use Rattle.tbl_drawing.specs.Heights.{counts, first_heights, heights_read, heights_settled, lines_settled, rows_raised}
use Rattle.tbl_drawing.specs.Held.{lines_of, step, tall}
use Rattle.tbl_drawing.specs.Laws.{FieldsStandOnce, IsRead, StandsBeside, StandsOn, StandsOnce, lines_after}
use Rattle.tbl_drawing.specs.Steps.{lines_taken, steps_taken, walked}
use Rattle.tbl_drawing.specs.Tables.{columns_opened, columns_renewed, columns_stand, measured, part_measured, placed, ready, table_measured}
use Rattle.tbl_drawing.proofs.Below.{below_or, by_cases}
use Rattle.tbl_drawing.proofs.BlocksFit.{block_found}
use Rattle.tbl_drawing.proofs.GoneDown.{GoesDown, all_go_down}
use Rattle.tbl_drawing.proofs.Kept.{Keeps, blocks_read_keeps, keeps_then, part_keeps, table_keeps}
use Rattle.tbl_drawing.proofs.Once.{IsPlaced, Reached, steps_reached}
use Rattle.tbl_drawing.proofs.OnceStands.{Fits, HasLines, LineFound, placed_once}
use Rattle.tbl_drawing.proofs.PlacedRows.{Begins, InRange, RowsPlaced, all_placed, within}
use Rattle.tbl_drawing.proofs.RowHeights.{Raised, all_raised, heights_are, heights_count, heights_fit, heights_lines, heights_plain}
use Rattle.tbl_drawing.proofs.RowPlaced.{entry, most}
use Rattle.tbl_drawing.proofs.OverRows.{Over}
use Rattle.tbl_table.specs.declared.table.Item.TheVariants as items
use Rattle.tbl_table.specs.declared.table.Table.{Table}
use Rattle.tbl_table.specs.Held.{item, none_of}
use Rattle.tbl_table.specs.Sums.{sum}
use Rattle.tbl_table.specs.Table.{width}

-- ---- the columns are those of the formats, and all else stays

pub record Opened (g h : Grid) : Type 0 where
  pub table : h.table ≡ g.table
  pub numbers : h.numbers ≡ g.numbers
  pub places : h.placed ≡ g.placed
  pub cells : h.cells ≡ g.cells

read_opens : (g : Grid) → Opened g (columns_read g)
read_opens g =
    turn_has (Opened g) read_column (λ n x h. record { table = h.table; numbers = h.numbers; places = h.places; cells = h.cells }) (width g.table)
    (record g { columns = none_of g.columns }) (record { table = refl; numbers = refl; places = refl; cells = refl })

-- ---- a table whose fields are placed and whose columns are measured

pub record Ready (l m x : Layout) : Type 0 where
  pub steps : x.steps ≡ l.steps
  pub talls : x.talls ≡ l.talls
  pub begins : x.begins ≡ l.begins
  pub opens : Opened l.grid m.grid
  pub kept : Keeps (placed_cells m.grid) x.grid

record Opens (l m : Layout) : Type 0 where
  steps : m.steps ≡ l.steps
  talls : m.talls ≡ l.talls
  begins : m.begins ≡ l.begins
  opens : Opened l.grid m.grid

opened_so : (l : Layout) → Opens l (columns_opened l)
opened_so l =
    by_cases (Opens l) (columns_stand l) l (columns_renewed l)
    (λ e. record { steps = refl; talls = refl; begins = refl; opens = record { table = refl; numbers = refl; places = refl; cells = refl } })
    (λ e. record { steps = refl; talls = refl; begins = refl; opens = read_opens l.grid })

ready_so : (l m : Layout) → Opens l m → Ready l m (measured (placed m))
ready_so l m o =
    let a : Grid = placed_cells m.grid in
    let b : Grid = placed_table m.grid in
    by_cases (Ready l m) m.measured (part_measured (placed m)) (table_measured (placed m))
    (λ e. record {
      steps = o.steps;
      talls = o.talls;
      begins = o.begins;
      opens = o.opens;
      kept = keeps_then a b (measured_part b) (blocks_read_keeps a) (part_keeps b);
    })
    (λ e. record {
      steps = o.steps;
      talls = o.talls;
      begins = o.begins;
      opens = o.opens;
      kept = keeps_then a b (measured_table b) (blocks_read_keeps a) (table_keeps b);
    })

pub is_ready : (l : Layout) → Ready l (columns_opened l) (ready l)
is_ready l = ready_so l (columns_opened l) (opened_so l)

-- ---- of what was read

record Stands (l x : Layout) : Type 0 where
  is_placed : IsPlaced x.grid
  rows : length x.grid.table.rows.items ≡ length l.grid.table.rows.items
  listed : length x.grid.table.items.items ≡ length l.grid.table.items.items
  places : length x.grid.placed.items ≡ min (length l.grid.table.rows.items) l.grid.placed.capacity
  ranges : length l.grid.table.rows.items ≤ l.grid.placed.capacity → (n : ℕ) → n < length x.grid.cells.items
      → ((cell_of x.grid n).top < length x.grid.placed.items) × InRange x.grid n
  read : IsRead x.grid.table
  over : length l.grid.table.rows.items ≤ l.grid.placed.capacity → (n : ℕ) → n < length x.grid.cells.items → Over x.grid n

wide_by : (k w : ℕ) → 0 < w → k ≤ k * w
wide_by k zero h = absurd (let no : ⊥ = omega (arith, h) in no)
wide_by k (suc w) h = omega arith

stands : (l m x : Layout) → IsRead l.grid.table → Ready l m x → length l.grid.table.rows.items * columns m.grid ≤ l.grid.numbers.capacity
    → l.grid.numbers.capacity ≤ most → Stands l x
stands l m x r q fits small =
    let g : Grid = m.grid in
    let s : Grid = forgotten_cells g in
    let a : Grid = placed_cells g in
    let u : Grid = x.grid in
    let w : ℕ = columns s in
    let k : ℕ = length g.table.rows.items in
    let rows_are : k ≡ length l.grid.table.rows.items = ap (λ (t : Table). length t.rows.items) q.opens.table in
    let room : s.numbers.capacity ≡ l.grid.numbers.capacity = ap (λ (xs : Items ℕ). xs.capacity) q.opens.numbers in
    let fit : k * w ≤ s.numbers.capacity = subst (λ (n : ℕ). n * w ≤ s.numbers.capacity) (sym rows_are) (omega (arith, fits, room)) in
    let few : s.numbers.capacity ≤ most = omega (arith, small, room) in
    let p : RowsPlaced s k a = all_placed g (fit, few) in
    let same : columns u ≡ w = q.kept.heads ∙ ap (λ (xs : Items Column). length xs.items) p.heads in
    let table : u.table ≡ l.grid.table = q.kept.table ∙ p.table ∙ q.opens.table in
    let many : length u.table.items.items ≡ length l.grid.table.items.items = ap (λ (t : Table). length t.items.items) table in
    let rows : length u.table.rows.items ≡ length l.grid.table.rows.items = ap (λ (t : Table). length t.rows.items) table in
    let items_are : (i : ℕ) → item u.table i ≡ item l.grid.table i = λ i. ap (λ (t : Table). item t i) table in
    let begins : (n : ℕ) → n < length u.cells.items → Begins w k a n = λ n inside. p.begins n (omega (arith, inside, q.kept.count)) in
    let cap : a.placed.capacity ≡ l.grid.placed.capacity = p.places ∙ ap (λ (ps : Items Placed). ps.capacity) q.opens.places in
    let owned : (n : ℕ) → n < length u.cells.items → (get_or u.placed.items (cell_of u n).top no_place).own ≡ true = λ n inside.
    ap (λ (i : ℕ). (get_or u.placed.items i no_place).own) (q.kept.tops n)
    ∙ ap (λ (ps : Items Placed). (get_or ps.items (cell_of a n).top no_place).own) q.kept.placed
    ∙ (begins n inside).3 in
    record {
      is_placed = record {
        first = λ n inside.
            let o : Begins w k a n = begins n inside in
            let f : Cell = cell_of a n in
            let less : f.top * w + f.first < k * w = within w k f.top f.first o.0 o.1 in
            ap (λ (i : ℕ). cell_number u i (cell_of u n).first) (q.kept.tops n)
            ∙ ap (λ (i : ℕ). cell_number u f.top i) (q.kept.firsts n)
            ∙ ap (λ (c : ℕ). entry u.numbers (sum (min (f.top * c) most) f.first)) same
            ∙ ap (λ (xs : Items ℕ). entry xs (sum (min (f.top * w) most) f.first)) q.kept.numbers
            ∙ ap (entry a.numbers) (let is : sum (min (f.top * w) most) f.first ≡ f.top * w + f.first = omega (arith, less, fit, few) in is)
            ∙ o.2;
        own = owned;
        among = λ n inside.
            let o : Begins w k a n = begins n inside in
            let i = r.among (cell_of a n).top (omega (arith, o.0, rows_are)) in
            (i.0, omega (arith, i.1, many), items_are i.0 ∙ i.2 ∙ ap (λ (t : ℕ). items.Row t) (sym (q.kept.tops n)));
        held = λ i n inside e. omega (arith, r.held i n (omega (arith, inside, many)) (sym (items_are i) ∙ e), rows);
        order = λ i j b c less inside e h.
            r.order i j b c less (omega (arith, inside, many)) (sym (items_are i) ∙ e) (sym (items_are j) ∙ h);
      };
      rows = rows;
      listed = many;
      places =
          ap (λ (ps : Items Placed). length ps.items) q.kept.placed ∙ p.count
          ∙ ap (λ (n : ℕ). min n a.placed.capacity) rows_are
          ∙ ap (λ (c : ℕ). min (length l.grid.table.rows.items) c) (p.places ∙ ap (λ (ps : Items Placed). ps.capacity) q.opens.places);
      ranges = λ wide n inside.
          let o : Begins w k a n = begins n inside in
          let i : InRange a n = p.ranges n (omega (arith, inside, q.kept.count)) (omega (arith, o.0, rows_are, wide, cap)) in
          let is : get_or u.placed.items (cell_of u n).top no_place ≡ get_or a.placed.items (cell_of a n).top no_place =
          ap (λ (t : ℕ). get_or u.placed.items t no_place) (q.kept.tops n)
          ∙ ap (λ (ps : Items Placed). get_or ps.items (cell_of a n).top no_place) q.kept.placed in (
            omega (arith, q.kept.tops n, o.0, rows_are, wide, cap, p.count, ap (λ (ps : Items Placed). length ps.items) q.kept.placed),
            (omega (arith, i.0, ap (λ (y : Placed). y.cells) is), omega (arith, i.1, ap (λ (y : Placed). y.cells_end) is)),
          );
      read = subst IsRead (sym table) r;
      over = λ wide n inside.
          let o : GoesDown w k a n = all_go_down g (fit, few) (omega (arith, wide, rows_are, cap, p.places)) n (omega (arith, inside, q.kept.count)) in
          let b : Begins w k a n = begins n inside in
          let f : Cell = cell_of a n in
          let broad : k ≤ k * w = wide_by k w (omega (arith, b.1)) in
          record {
            order = omega (arith, o.span.0, q.kept.tops n, q.kept.bottoms n);
            inside = omega (arith, o.span.1, q.kept.bottoms n, rows, rows_are);
            small = omega (arith, o.span.1, q.kept.bottoms n, broad, fit, few);
            first = omega (arith, b.1, q.kept.firsts n, same);
            stands = λ t low high.
                let under : t < k = omega (arith, high, o.span.1, q.kept.bottoms n) in
                let less : t * w + f.first < k * w = within w k t f.first under b.1 in
                ap (λ (i : ℕ). cell_number u t i) (q.kept.firsts n)
                ∙ ap (λ (c : ℕ). entry u.numbers (sum (min (t * c) most) f.first)) same
                ∙ ap (λ (xs : Items ℕ). entry xs (sum (min (t * w) most) f.first)) q.kept.numbers
                ∙ ap (entry a.numbers) (let is : sum (min (t * w) most) f.first ≡ t * w + f.first = omega (arith, less, fit, few) in is)
                ∙ o.span.2 t (omega (arith, low, q.kept.tops n)) (omega (arith, high, q.kept.bottoms n));
            own =
                ap (λ (i : ℕ). (get_or u.placed.items i no_place).own) (q.kept.bottoms n)
                ∙ ap (λ (ps : Items Placed). (get_or ps.items f.bottom no_place).own) q.kept.placed
                ∙ o.own;
            begins = owned n inside;
          };
    }

-- ---- rows have their heights

-- a table on whose lines fields are put
record Laid (x t : Layout) : Type 0 where
  grid : t.grid ≡ x.grid
  steps : t.steps.capacity ≡ x.steps.capacity
  begins : t.begins ≡ x.begins
  talls : length x.grid.table.rows.items ≤ length t.talls.items
  lines : HasLines t
  fits : (n : ℕ) → n < length x.grid.cells.items → sum (counts x.grid n) 0 ≤ lines_of (tall t (cell_of x.grid n).top)

by_own : (x : Layout) → length x.grid.table.rows.items ≡ length x.grid.placed.items → length x.grid.table.rows.items ≤ x.talls.capacity
    → ((n : ℕ) → n < length x.grid.cells.items → ((cell_of x.grid n).top < length x.grid.placed.items) × InRange x.grid n)
    → Laid x (heights_read x)
by_own x places room ranges =
    let is = heights_are x in
    record {
      grid = ap (λ (y : Layout). y.grid) is;
      steps = ap (λ (y : Layout). y.steps.capacity) is;
      begins = ap (λ (y : Layout). y.begins) is;
      talls = omega (arith, heights_count x, places, room);
      lines = heights_lines x;
      fits = λ n inside.
          let r = ranges n inside in
          heights_fit x (cell_of x.grid n).top n (omega (arith, places, room)) r.0 r.1.0 r.1.1;
    }

by_blocks : (x : Layout) (ends : Bool) → IsPlaced x.grid → 4 * length x.grid.table.items.items + 4 ≤ x.steps.capacity → Laid x (heights_read x)
    → Laid x (rows_raised (first_heights ends x))
by_blocks x ends p room d =
    let t : Layout = heights_read x in
    let v : Layout = first_heights ends x in
    let u : Layout = rows_raised v in
    let g : Grid = t.grid in
    let listed : length g.table.items.items ≡ length x.grid.table.items.items = ap (λ (h : Grid). length h.table.items.items) d.grid in
    let count : length g.table.rows.items ≡ length x.grid.table.rows.items = ap (λ (h : Grid). length h.table.rows.items) d.grid in
    let m : Reached t (length g.table.items.items) (suc (suc (suc (4 * length g.table.items.items + 1)))) (walked ends t) =
    steps_reached t ends (subst IsPlaced (sym d.grid) p) (omega (arith, d.talls, count)) (omega (arith, room, listed, d.steps)) in
    let h : Raised v u = all_raised v in
    record {
      grid = h.grid ∙ m.grid ∙ d.grid;
      steps = ap (λ (ss : Items Step). ss.capacity) h.steps ∙ m.room ∙ d.steps;
      begins = h.begins ∙ m.begins ∙ d.begins;
      talls = omega (arith, d.talls, m.count, h.count);
      lines = λ r. omega (arith, d.lines r, m.tall_as r, h.lines r);
      fits = λ n inside.
          let r : ℕ = (cell_of x.grid n).top in omega (arith, d.fits n inside, m.tall_as r, h.lines r);
    }

-- ---- the law

-- what a field has of lines
height_is : (g : Grid) (n : ℕ) → (b : Bool) → b ≡ false → (if b then 1 else height_of g (cell_of g n)) ≡ height_of g (cell_of g n)
height_is g n false e = refl
height_is g n true e = cc

one_line : (g : Grid) (f : Cell) → (b : Option ℕ) → is_given b ≡ false → rows_in (block_in g b) ≡ 1
one_line g f None e = refl
one_line g f (Some p) e = cc

both : (a b : Bool) → a ≡ true → b ≡ true → (a && b) ≡ true
both true b h k = k
both false b h k = h

right : (a b : Bool) → (a && b) ≡ true → b ≡ true
right true b h = h
right false b h = absurd (differ h)
  where
    differ : false ≡ true → ⊥
    differ e = cc

-- where no block is held
no_lines : (g : Grid) → length g.texts.items ≡ 0 → (b : Option ℕ) → is_given b ≡ true → rows_in (block_in g b) ≡ 0
no_lines g none None e = absurd (differ e)
  where
    differ : false ≡ true → ⊥
    differ e = cc
no_lines g none (Some p) e = ap (λ (b : Block). b.rows) (get_or_past g.texts.items p no_block (omega (arith, none)))

field_fits : (x t : Layout) (ends : Bool) (n k : ℕ) → Laid x t → n < length x.grid.cells.items → k < height_of x.grid (cell_of x.grid n)
    → (((cell_of x.grid n).falls && is_given (cell_of x.grid n).block) ≡ true → LineFound (steps_taken ends t) n k) → Fits t ends n k
field_fits x t ends n k d inside less found =
    let g : Grid = x.grid in
    let f : Cell = cell_of g n in
    let is : cell_of t.grid n ≡ f = ap (λ (h : Grid). cell_of h n) d.grid in
    let top : lines_of (tall t (cell_of t.grid n).top) ≡ lines_of (tall t f.top) = ap (λ (c : Cell). lines_of (tall t c.top)) is in
    record {
      stays = λ e.
          let own : f.falls ≡ false = ap (λ (c : Cell). c.falls) (sym is) ∙ e in
          let high : counts g n ≡ height_of g f = height_is g n f.falls own in
          elim (below_or k (lines_of (tall t (cell_of t.grid n).top))) [
            | inl h ↦ inl h
            | inr h ↦ inr (let full : lines_of (tall t (cell_of t.grid n).top) ≡ 18446744073709551615 = omega (arith, h, less, high, d.fits n inside, top) in full)
          ];
      goes = λ e.
          let falls : f.falls ≡ true = ap (λ (c : Cell). c.falls) (sym is) ∙ e in
          let given : is_given (cell_of t.grid n).block ≡ is_given f.block = ap (λ (c : Cell). is_given c.block) is in
          choose falls given (is_given f.block) refl;
    }
  where
    choose : (cell_of x.grid n).falls ≡ true → is_given (cell_of t.grid n).block ≡ is_given (cell_of x.grid n).block
        → (b : Bool) → is_given (cell_of x.grid n).block ≡ b
        → ((is_given (cell_of t.grid n).block ≡ false) × (k ≡ 0)) ⊎ ((is_given (cell_of t.grid n).block ≡ true) × LineFound (steps_taken ends t) n k)
    choose falls given true e =
        inr (given ∙ e, found (both (cell_of x.grid n).falls (is_given (cell_of x.grid n).block) falls e))
    choose falls given false e =
        let one : height_of x.grid (cell_of x.grid n) ≡ 1 = one_line x.grid (cell_of x.grid n) (cell_of x.grid n).block e in
        inl (given ∙ e, omega (arith, one, less))

laid_once : (x t : Layout) (ends : Bool) (n k : ℕ) → IsPlaced x.grid → Laid x t → 4 * length x.grid.table.items.items + 4 ≤ x.steps.capacity
    → sum (walked ends t).walk.line (walked ends t).walk.more < 18446744073709551615
    → length x.grid.cells.items ≤ x.begins.capacity → n < length x.grid.cells.items → Fits t ends n k
    → StandsOnce (lines_settled (steps_taken ends t)) n k
laid_once x t ends n k p d room few begins inside fits =
    placed_once t ends n k (subst IsPlaced (sym d.grid) p)
    (omega (arith, d.talls, ap (λ (h : Grid). length h.table.rows.items) d.grid))
    (omega (arith, room, d.steps, ap (λ (h : Grid). length h.table.items.items) d.grid)) d.lines
    (omega (arith, few))
    (omega (arith, begins, ap (λ (h : Grid). length h.cells.items) d.grid, ap (λ (b : Items ℕ). b.capacity) d.begins))
    (omega (arith, inside, ap (λ (h : Grid). length h.cells.items) d.grid))
    fits

-- whether the lines of a table are the first says nothing of where fields stand
measured_once : (x : Layout) (b : Bool) (n k : ℕ) → StandsOnce x n k → StandsOnce (record x { measured = b }) n k
measured_once x b n k s = record {
  which = s.which;
  on = s.on;
  there = forth x b s.which s.on n k s.there;
  only = λ i o h. s.only i o (back x b i o n k h);
}
  where
    beside : (x : Layout) (b : Bool) (kind : StepKind) (n : ℕ) → StandsBeside x kind n → StandsBeside (record x { measured = b }) kind n
    beside x b (steps.Row r) n s = s
    beside x b (steps.Bars r lines) n s = s
    beside x b (steps.Rule above None) n s = s
    beside x b (steps.Rule above (Some r)) n s = s
    beside x b (steps.Edge above) n s = s
    beside x b (steps.Request q) n s = s
    beside x b (steps.Beyond r) n s = s
    beside x b (steps.Before r) n s = s

    beside_back : (x : Layout) (b : Bool) (kind : StepKind) (n : ℕ) → StandsBeside (record x { measured = b }) kind n → StandsBeside x kind n
    beside_back x b (steps.Row r) n s = s
    beside_back x b (steps.Bars r lines) n s = s
    beside_back x b (steps.Rule above None) n s = s
    beside_back x b (steps.Rule above (Some r)) n s = s
    beside_back x b (steps.Edge above) n s = s
    beside_back x b (steps.Request q) n s = s
    beside_back x b (steps.Beyond r) n s = s
    beside_back x b (steps.Before r) n s = s

    lines_same : (x : Layout) (b : Bool) (kind : StepKind) → lines_after kind (record x { measured = b }) ≡ lines_after kind x
    lines_same x b (steps.Row r) = refl
    lines_same x b (steps.Bars r lines) = refl
    lines_same x b (steps.Rule above below) = refl
    lines_same x b (steps.Edge above) = refl
    lines_same x b (steps.Request q) = refl
    lines_same x b (steps.Beyond r) = refl
    lines_same x b (steps.Before r) = refl

    forth : (x : Layout) (b : Bool) (i o n k : ℕ) → StandsOn x i o n k → StandsOn (record x { measured = b }) i o n k
    forth x b i o n k h = record {
      there = h.there;
      after = h.after;
      before = omega (arith, h.before, lines_same x b (step x i).kind);
      beside = beside x b (step x i).kind n h.beside;
      line = h.line;
    }

    back : (x : Layout) (b : Bool) (i o n k : ℕ) → StandsOn (record x { measured = b }) i o n k → StandsOn x i o n k
    back x b i o n k h = record {
      there = h.there;
      after = h.after;
      before = omega (arith, h.before, lines_same x b (step x i).kind);
      beside = beside_back x b (step x i).kind n h.beside;
      line = h.line;
    }

-- by fields of their own rows, or by blocks that go on over several, too
settled_once : (x : Layout) (ends : Bool) (n k : ℕ) → IsPlaced x.grid → IsRead x.grid.table → ((i : ℕ) → i < length x.grid.cells.items → Over x.grid i)
    → 4 * length x.grid.table.items.items + 4 ≤ x.steps.capacity → Laid x (heights_read x)
    → length x.grid.cells.items ≤ x.begins.capacity → n < length x.grid.cells.items → k < height_of x.grid (cell_of x.grid n)
    → (b : Bool) → b ≡ (length x.grid.texts.items == 0) → (if b then lines_taken ends (heights_read x) else lines_taken ends (rows_raised (first_heights ends x))) < 18446744073709551615
    → StandsOnce (lines_settled (if b then first_heights ends x else steps_taken ends (rows_raised (first_heights ends x)))) n k
settled_once x ends n k p read over room own begins inside less true texts few =
    let none : length x.grid.texts.items ≡ 0 = no_texts (length x.grid.texts.items) (sym texts) in
    laid_once x (heights_read x) ends n k p own room few begins inside
    (field_fits x (heights_read x) ends n k own inside less
    (λ e.
    let rows : height_of x.grid (cell_of x.grid n) ≡ 0 =
    no_lines x.grid none (cell_of x.grid n).block (right (cell_of x.grid n).falls (is_given (cell_of x.grid n).block) e) in
    absurd (let no : ⊥ = omega (arith, rows, less) in no)))
  where
    no_texts : (m : ℕ) → (m == 0) ≡ true → m ≡ 0
    no_texts m h = grind (arith, nat_tests, h)
settled_once x ends n k p read over room own begins inside less false texts few =
    let raised : Laid x (rows_raised (first_heights ends x)) = by_blocks x ends p room own in
    let t : Layout = heights_read x in
    let grid : x.grid ≡ t.grid = sym own.grid in
    laid_once x (rows_raised (first_heights ends x)) ends n k p raised room few begins inside
    (field_fits x (rows_raised (first_heights ends x)) ends n k raised inside less
    (λ e.
    block_found t ends n k (subst IsPlaced grid p) (subst (λ (g : Grid). IsRead g.table) grid read)
    (λ i low. subst (λ (g : Grid). Over g i) grid (over i (omega (arith, low, ap (λ (g : Grid). length g.cells.items) grid))))
    (omega (arith, own.talls, ap (λ (g : Grid). length g.table.rows.items) grid))
    (omega (arith, room, own.steps, ap (λ (g : Grid). length g.table.items.items) grid))
    (heights_plain x) (omega (arith, inside, ap (λ (g : Grid). length g.cells.items) grid))
    (ap (λ (g : Grid). (cell_of g n).falls && is_given (cell_of g n).block) (sym grid) ∙ e)
    (omega (arith, less, ap (λ (g : Grid). height_of g (cell_of g n)) grid))
    (omega (arith, few))))

pub fields_stand_once : FieldsStandOnce
fields_stand_once l ends n k r h inside less =
    let x : Layout = ready l in
    let q : Ready l (columns_opened l) x = is_ready l in
    let s : Stands l x = stands l (columns_opened l) x r q h.numbers h.small in
    let room : 4 * length x.grid.table.items.items + 4 ≤ x.steps.capacity =
    omega (arith, h.steps, s.listed, ap (λ (ss : Items Step). ss.capacity) q.steps) in
    let begins : length x.grid.cells.items ≤ x.begins.capacity = omega (arith, h.begins, ap (λ (b : Items ℕ). b.capacity) q.begins) in
    let own : Laid x (heights_read x) =
    by_own x (omega (arith, s.rows, s.places, h.placed)) (omega (arith, s.rows, h.talls, ap (λ (ts : Items Tall). ts.capacity) q.talls)) (s.ranges h.placed) in
    measured_once (lines_settled (heights_settled ends x)) (not ends) n k
    (settled_once x ends n k s.is_placed s.read (s.over h.placed) room own begins inside less (length x.grid.texts.items == 0) refl h.lines)
