-- A block that goes on over rows below has room for all its lines from its first row to the end of its last.
use Rattle.std.proofs.Common.{◌≡◌, ℕ, zero, suc, ◌+◌, ◌-◌, ◌*◌, ◌/◌, ◌<◌, ◌≤◌, min, Bool, true, false, ◌&&◌, nat_lt, length, get_or, refl, sym, ap, subst, arith, ◌∙◌, length-set, inl, inr}
use Rattle.std.proofs.lemmas.List.{get_or-set_same}
use Rattle.nr_vectors.specs.Items.{Items}
use Rattle.tbl_columns.specs.declared.grid.Cell.{Cell}
use Rattle.tbl_columns.specs.declared.grid.Grid.{Grid}
use Rattle.tbl_columns.specs.Columns.{is_given}
use Rattle.tbl_columns.specs.Held.{cell_of, height_of, placed}
use Rattle.tbl_columns.proofs.Turns.{set_has, set_keeps, set_same}
use Rattle.tbl_drawing.specs.declared.layout.Layout.{Layout}
use Rattle.tbl_drawing.specs.declared.layout.Tall.{Tall}
use Rattle.tbl_drawing.specs.Heights.{free_lines, line_wanted, lines_added, lines_given, lines_over, missing, raised_at, raised_below, row_end, rows_raised, stand_line, with_more}
use Rattle.tbl_drawing.specs.Held.{lines_of, step, tall, tall_of}
use Rattle.tbl_drawing.specs.Laws.{IsRead}
use Rattle.tbl_drawing.specs.Steps.{row_line, row_on_step, stepped, steps_taken, walked}
use Rattle.tbl_drawing.proofs.Below.{by_cases, equal_or, not_below_by, two}
use Rattle.tbl_drawing.proofs.LinesAdded.{Heightened, rows_lower}
use Rattle.tbl_drawing.proofs.Locks.{above_next, more_above}
use Rattle.tbl_drawing.proofs.Once.{Drawn, IsPlaced, Reached, at, end_of, height, steps_reached}
use Rattle.tbl_drawing.proofs.OnceStands.{LineFound}
use Rattle.tbl_drawing.proofs.OverRows.{Over}
use Rattle.tbl_drawing.proofs.RowsCovered.{RowsStand, rows_stand}
use Rattle.tbl_drawing.proofs.WalkHas.{Stays, walk_has}
use Rattle.tbl_table.specs.declared.table.Stand.{Stand}
use Rattle.tbl_table.specs.declared.table.Stand.TheVariants as stands
use Rattle.tbl_table.specs.Lists.{in_turn, put}
use Rattle.tbl_table.specs.Sums.{sum}

abbrev most : ℕ
most = 18446744073709551615

-- ---- what a walk keeps of a table

abbrev Rest : Layout → Layout → Type 0
Rest t l = l ≡ record t { talls = l.talls; steps = l.steps }

rest_stays : (t : Layout) → Stays (λ w. Rest t w.layout)
rest_stays t = record {
  step = λ kind lines w q. ap (λ (l : Layout). record l { steps = (stepped kind lines w).layout.steps }) q;
  walk = λ w x q. q;
  tall = λ n w q. ap (λ (l : Layout). record l { talls = (row_on_step n w.layout).talls }) q;
}

walk_rest : (t : Layout) (ends : Bool) → Rest t (steps_taken ends t)
walk_rest t ends = walk_has (λ w. Rest t w.layout) (rest_stays t) t ends refl

abbrev Talls : Layout → Layout → Type 0
Talls t l = (r : ℕ) → ((tall l r).more ≡ (tall t r).more) × ((tall l r).height ≡ (tall t r).height)

talls_stay : (t : Layout) → Stays (λ w. Talls t w.layout)
talls_stay t = record {
  step = λ kind lines w q. q;
  walk = λ w x q. q;
  tall = λ n w q. λ r. (
    set_same (λ (y : Tall). y.more) w.layout.talls.items n (record (tall w.layout n) { step = length w.layout.steps.items }) (tall_of 1) refl r ∙ (q r).0,
    set_same (λ (y : Tall). y.height) w.layout.talls.items n (record (tall w.layout n) { step = length w.layout.steps.items }) (tall_of 1) refl r ∙ (q r).1,
  );
}

walk_talls : (t : Layout) (ends : Bool) → Talls t (steps_taken ends t)
walk_talls t ends = walk_has (λ w. Talls t w.layout) (talls_stay t) t ends (λ r. (refl, refl))

-- ---- lines that rows got

abbrev NoFewer : Layout → Layout → Type 0
NoFewer l m = (i : ℕ) → (tall l i).more ≤ (tall m i).more

added_least : (k : ℕ) (l m : Layout) (r a b : ℕ) → NoFewer l m → a ≤ b → lines_added k l r a ≤ lines_added k m r b
added_least zero l m r a b h less = less
added_least (suc k) l m r a b h less =
    added_least k l m (r + 1) (sum a (tall l r).more) (sum b (tall m r).more) h (omega (arith, less, h r))

added_more : (k : ℕ) (l m : Layout) (r a b n : ℕ) → NoFewer l m → sum a n ≤ b → sum (lines_added k l r a) n ≤ lines_added k m r b
added_more zero l m r a b n h less = less
added_more (suc k) l m r a b n h less =
    added_more k l m (r + 1) (sum a (tall l r).more) (sum b (tall m r).more) n h (omega (arith, less, h r))

-- where one of them gets more
added_gets : (k : ℕ) (l m : Layout) (r a b row n : ℕ) → NoFewer l m → (tall m row).more ≡ sum (tall l row).more n → r ≤ row → row < r + k → a ≤ b
    → sum (lines_added k l r a) n ≤ lines_added k m r b
added_gets zero l m r a b row n h is low high less = absurd (let no : ⊥ = omega (arith, low, high) in no)
added_gets (suc k) l m r a b row n h is low high less =
    elim (equal_or r row) [
      | inl same ↦
          (let here : (tall m r).more ≡ sum (tall l r).more n =
          subst (λ (i : ℕ). (tall m i).more ≡ sum (tall l i).more n) (sym same) is in
          added_more k l m (r + 1) (sum a (tall l r).more) (sum b (tall m r).more) n h (omega (arith, here, less)))
      | inr ne ↦ added_gets k l m (r + 1) (sum a (tall l r).more) (sum b (tall m r).more) row n h is (omega (arith, low, ne)) (omega (arith, high))
          (omega (arith, less, h r))
    ]

added_span : (k : ℕ) (l : Layout) (r a : ℕ) → lines_added k l r a + more_above l r ≤ a + more_above l (r + k)
added_span zero l r a =
    let e : r ≡ r + 0 = omega arith in
    let same : more_above l r ≡ more_above l (r + 0) = ap (more_above l) e in
    omega (arith, same)
added_span (suc k) l r a =
    let before : lines_added k l (r + 1) (sum a (tall l r).more) + more_above l (r + 1) ≤ sum a (tall l r).more + more_above l (r + 1 + k) =
    added_span k l (r + 1) (sum a (tall l r).more) in
    let e : r + 1 ≡ suc r = omega arith in
    let f : r + 1 + k ≡ r + suc k = omega arith in
    let next : more_above l (r + 1) ≡ more_above l r + (tall l r).more = ap (more_above l) e ∙ above_next l r in
    let last : more_above l (r + 1 + k) ≡ more_above l (r + suc k) = ap (more_above l) f in
    omega (arith, before, next, last)

-- ---- rows are made higher in turn

abbrev with_talls : Layout → Items Tall → Layout
with_talls v ts = record v { talls = ts }

abbrev nth : Items Tall → ℕ → Tall
nth ts r = get_or ts.items r (tall_of 1)

abbrev GoesOn : Grid → ℕ → Type 0
GoesOn g n = ((cell_of g n).falls && is_given (cell_of g n).block) ≡ true

record Lifted (v : Layout) (j : ℕ) (ts : Items Tall) : Type 0 where
  count : length ts.items ≡ length v.talls.items
  step : (r : ℕ) → (nth ts r).step ≡ (tall v r).step
  height : (r : ℕ) → (nth ts r).height ≡ (tall v r).height
  small : (r : ℕ) → (nth ts r).more ≤ most
  quiet : (r : ℕ) → (placed v.grid r).own ≡ false → (nth ts r).more ≡ 0
  fit : (n : ℕ) → n < j → GoesOn v.grid n → min (height_of v.grid (cell_of v.grid n)) most ≤ lines_over (with_talls v ts) (cell_of v.grid n)

record LiftedTo (v : Layout) (j : ℕ) (x : Layout) : Type 0 where
  ts : Items Tall
  is : x ≡ with_talls v ts
  lifted : Lifted v j ts

-- by the lines at which the first row and the last begin
over_is : (l : Layout) (f : Cell) (top bottom : ℕ) → row_line l f.top ≡ top → row_line l f.bottom ≡ bottom
    → lines_over l f ≡ sum (sum (bottom - top) (lines_added (sum f.bottom 1 - f.top) l f.top 0)) (tall l f.bottom).height
over_is l f top bottom t b =
    let got : ℕ = lines_added (sum f.bottom 1 - f.top) l f.top 0 in
    ap (λ (x : ℕ). sum (sum (x - row_line l f.top) got) (tall l f.bottom).height) b
    ∙ ap (λ (x : ℕ). sum (sum (bottom - x) got) (tall l f.bottom).height) t

more_over : (before got more high now : ℕ) → got ≤ more → now ≡ high → sum (sum before got) high ≤ sum (sum before more) now
more_over before got more high now h e = omega (arith, h, e)

over_least : (v : Layout) (ts us : Items Tall) (f : Cell) → ((r : ℕ) → (nth us r).step ≡ (nth ts r).step) → ((r : ℕ) → (nth us r).height ≡ (nth ts r).height)
    → NoFewer (with_talls v ts) (with_talls v us) → lines_over (with_talls v ts) f ≤ lines_over (with_talls v us) f
over_least v ts us f same high h =
    let l : Layout = with_talls v ts in
    let m : Layout = with_talls v us in
    let top : row_line m f.top ≡ row_line l f.top = ap (λ (i : ℕ). (step v i).line) (same f.top) in
    let bottom : row_line m f.bottom ≡ row_line l f.bottom = ap (λ (i : ℕ). (step v i).line) (same f.bottom) in
    let k : ℕ = sum f.bottom 1 - f.top in
    let lines : lines_added k l f.top 0 ≤ lines_added k m f.top 0 = added_least k l m f.top 0 0 h (omega arith) in
    let is : lines_over m f ≡ sum (sum (row_line l f.bottom - row_line l f.top) (lines_added k m f.top 0)) (nth us f.bottom).height =
    over_is m f (row_line l f.top) (row_line l f.bottom) top bottom in
    subst (λ (x : ℕ). lines_over l f ≤ x) (sym is)
    (more_over (row_line l f.bottom - row_line l f.top) (lines_added k l f.top 0) (lines_added k m f.top 0) (nth ts f.bottom).height
    (nth us f.bottom).height lines (high f.bottom))

-- what is missing is given
over_gets : (v : Layout) (ts us : Items Tall) (f : Cell) → f.top ≤ f.bottom → f.bottom < most → ((r : ℕ) → (nth us r).step ≡ (nth ts r).step)
    → ((r : ℕ) → (nth us r).height ≡ (nth ts r).height)
    → NoFewer (with_talls v ts) (with_talls v us)
    → (nth us f.bottom).more ≡ sum (nth ts f.bottom).more (missing (with_talls v ts) f)
    → min (height_of v.grid f) most ≤ lines_over (with_talls v us) f
over_gets v ts us f order few same high h gets =
    let l : Layout = with_talls v ts in
    let m : Layout = with_talls v us in
    let top : row_line m f.top ≡ row_line l f.top = ap (λ (i : ℕ). (step v i).line) (same f.top) in
    let bottom : row_line m f.bottom ≡ row_line l f.bottom = ap (λ (i : ℕ). (step v i).line) (same f.bottom) in
    let k : ℕ = sum f.bottom 1 - f.top in
    let lines : sum (lines_added k l f.top 0) (missing l f) ≤ lines_added k m f.top 0 =
    added_gets k l m f.top 0 0 f.bottom (missing l f) h gets order (omega (arith, order, few)) (omega arith) in
    let before : ℕ = row_line l f.bottom - row_line l f.top in
    let is : lines_over m f ≡ sum (sum before (lines_added k m f.top 0)) (nth us f.bottom).height =
    over_is m f (row_line l f.top) (row_line l f.bottom) top bottom in
    subst (λ (x : ℕ). min (height_of v.grid f) most ≤ x) (sym is)
    (filled (height_of v.grid f) before (lines_added k l f.top 0) (nth ts f.bottom).height
    (sum (sum before (lines_added k m f.top 0)) (nth us f.bottom).height)
    (more_over before (sum (lines_added k l f.top 0) (missing l f)) (lines_added k m f.top 0) (nth ts f.bottom).height (nth us f.bottom).height lines
    (high f.bottom)))
  where
    filled : (all before got last now : ℕ) → sum (sum before (sum got (all - sum (sum before got) last))) last ≤ now → min all most ≤ now
    filled all before got last now h = omega (arith, h)

raised_so : (v : Layout) (j : ℕ) (ts : Items Tall) → Over v.grid j → (placed v.grid (cell_of v.grid j).bottom).own ≡ true
    → (cell_of v.grid j).bottom < length v.talls.items → Lifted v j ts
    → LiftedTo v (suc j) (lines_given (missing (with_talls v ts) (cell_of v.grid j)) (cell_of v.grid j).bottom (with_talls v ts))
raised_so v j ts o own inside h =
    let f : Cell = cell_of v.grid j in
    let l : Layout = with_talls v ts in
    let m : ℕ = missing l f in
    let x : Tall = with_more m (nth ts f.bottom) in
    let us : Items Tall = put f.bottom x ts in
    let same : (r : ℕ) → (nth us r).step ≡ (nth ts r).step = λ r. set_same (λ (y : Tall). y.step) ts.items f.bottom x (tall_of 1) refl r in
    let high : (r : ℕ) → (nth us r).height ≡ (nth ts r).height = λ r. set_same (λ (y : Tall). y.height) ts.items f.bottom x (tall_of 1) refl r in
    let few : NoFewer l (with_talls v us) = λ r.
    set_keeps (λ (y : Tall). y.more) ts.items f.bottom x (tall_of 1) (omega (arith, h.small f.bottom)) r in
    let gets : (nth us f.bottom).more ≡ sum (nth ts f.bottom).more m =
    ap (λ (y : Tall). y.more) (get_or-set_same ts.items f.bottom x (tall_of 1) (omega (arith, inside, h.count))) in
    record {
      ts = us;
      is = refl;
      lifted = record {
        count = length-set ts.items f.bottom x ∙ h.count;
        step = λ r. same r ∙ h.step r;
        height = λ r. high r ∙ h.height r;
        small = λ r. set_has (λ (y : Tall). y.more ≤ most) ts.items f.bottom x (tall_of 1) r (h.small r) (λ e. omega arith);
        quiet = λ r no.
            set_has (λ (y : Tall). y.more ≡ 0) ts.items f.bottom x (tall_of 1) r (h.quiet r no)
            (λ e. absurd (differ (sym no ∙ ap (λ (i : ℕ). (placed v.grid i).own) e ∙ own)));
        fit = λ n less goes.
            elim (two n j (omega (arith, less))) [
              | inl before ↦
                  (let was : min (height_of v.grid (cell_of v.grid n)) most ≤ lines_over l (cell_of v.grid n) = h.fit n before goes in
                  let now : lines_over l (cell_of v.grid n) ≤ lines_over (with_talls v us) (cell_of v.grid n) =
                  over_least v ts us (cell_of v.grid n) same high few in
                  omega (arith, was, now))
              | inr last ↦ subst (λ (i : ℕ). min (height_of v.grid (cell_of v.grid i)) most ≤ lines_over (with_talls v us) (cell_of v.grid i)) (sym last)
                  (over_gets v ts us f o.order o.small same high few gets)
            ];
      };
    }
  where
    differ : false ≡ true → ⊥
    differ e = cc

-- a row stays as high as it is
stays_so : (v : Layout) (j : ℕ) (ts : Items Tall) → (GoesOn v.grid j → missing (with_talls v ts) (cell_of v.grid j) ≡ 0) → Lifted v j ts
    → LiftedTo v (suc j) (with_talls v ts)
stays_so v j ts none h = record {
  ts = ts;
  is = refl;
  lifted = record {
    count = h.count;
    step = h.step;
    height = h.height;
    small = h.small;
    quiet = h.quiet;
    fit = λ n less goes.
        elim (two n j (omega (arith, less))) [
          | inl before ↦ h.fit n before goes
          | inr last ↦ subst (λ (i : ℕ). min (height_of v.grid (cell_of v.grid i)) most ≤ lines_over (with_talls v ts) (cell_of v.grid i)) (sym last)
              (none_missing (height_of v.grid (cell_of v.grid j)) (lines_over (with_talls v ts) (cell_of v.grid j)) (none (subst (GoesOn v.grid) last goes)))
        ];
  };
}
  where
    none_missing : (all now : ℕ) → all - now ≡ 0 → min all most ≤ now
    none_missing all now h = omega (arith, h)

one_lifted : (v : Layout) (j : ℕ) (x : Layout) → Over v.grid j → (cell_of v.grid j).bottom < length v.talls.items → LiftedTo v j x
    → LiftedTo v (suc j) (raised_at j x)
one_lifted v j x o inside h =
    let f : Cell = cell_of v.grid j in
    let l : Layout = with_talls v h.ts in
    subst (λ (y : Layout). LiftedTo v (suc j) (raised_at j y)) (sym h.is)
    (by_cases (LiftedTo v (suc j)) (f.falls && is_given f.block) (raised_below f l) l
    (λ e.
    by_cases (LiftedTo v (suc j)) (nat_lt 0 (missing l f)) (lines_given (missing l f) f.bottom l) l
    (λ some. raised_so v j h.ts o o.own inside h.lifted)
    (λ some. stays_so v j h.ts (λ goes. no_more (missing l f) (not_below_by 0 (missing l f) some)) h.lifted))
    (λ e. stays_so v j h.ts (λ goes. absurd (differ (sym e ∙ goes))) h.lifted))
  where
    differ : false ≡ true → ⊥
    differ e = cc

    no_more : (n : ℕ) → n ≤ 0 → n ≡ 0
    no_more n h = omega (arith, h)

all_lifted : (v : Layout) (j : ℕ) → ((n : ℕ) → n < length v.grid.cells.items → Over v.grid n) → length v.grid.table.rows.items ≤ length v.talls.items
    → ((r : ℕ) → (tall v r).more ≡ 0) → j ≤ length v.grid.cells.items → LiftedTo v j (in_turn j raised_at v)
all_lifted v zero over many plain h = record {
  ts = v.talls;
  is = refl;
  lifted = record {
    count = refl;
    step = λ r. refl;
    height = λ r. refl;
    small = λ r. omega (arith, plain r);
    quiet = λ r no. plain r;
    fit = λ n less goes. absurd (let no : ⊥ = omega (arith, less) in no);
  };
}
all_lifted v (suc j) over many plain h =
    let o : Over v.grid j = over j (omega (arith, h)) in
    one_lifted v j (in_turn j raised_at v) o (omega (arith, o.inside, many)) (all_lifted v j over many plain (omega (arith, h)))

-- ---- so its lines stand there

-- the heights before and after, by the lines at which its first row and its last begin, and those that rows above these got
between : (all top bottom got high more above below : ℕ) → min all most ≤ sum (sum (bottom - top) got) high → top ≤ bottom → got + above ≤ below + more
    → sum (sum bottom below) (sum high more) < most
    → sum top above + all ≤ sum (sum bottom below) (sum high more)
between all top bottom got high more above below fit order span few =
    let plain : sum (sum bottom below) (sum high more) ≡ bottom + below + high + more = omega (arith, few) in
    let left : sum top above ≤ top + above = omega arith in
    let small : bottom + below + high + more < most = omega (arith, few, plain) in
    let over : sum (sum (bottom - top) got) high ≤ bottom - top + got + high = omega arith in
    let less : bottom - top + got + high < most = omega (arith, order, span, small) in
    let whole : all ≤ bottom - top + got + high = omega (arith, fit, over, less) in
    omega (arith, whole, left, plain, order, span)

wanted : (s : Stand) (top free all last k : ℕ) → top + all ≤ last → free ≡ last - top - all → last < most → k < all
    → (top ≤ stand_line s top free + k) × (stand_line s top free + k < last)
wanted stands.Top top free all last k fits is few less = (omega arith, omega (arith, fits, less))
wanted stands.Middle top free all last k fits is few less =
    let half : free / 2 ≤ free = omega arith in
    (omega (arith, fits, is, few, less, half), omega (arith, fits, is, few, less, half))
wanted stands.Low top free all last k fits is few less = (omega (arith, fits, is, few, less), omega (arith, fits, is, few, less))

moved : (a b c x y z : ℕ) → a ≡ x → b ≡ y → c ≡ z → x + y ≤ z → a + b ≤ c
moved a b c x y z e f g h = omega (arith, e, f, g, h)

record Facts (t : Layout) : Type 0 where
  placed : IsPlaced t.grid
  read : IsRead t.grid.table
  over : (n : ℕ) → n < length t.grid.cells.items → Over t.grid n
  many : length t.grid.table.rows.items ≤ length t.talls.items
  room : 4 * length t.grid.table.items.items + 4 ≤ t.steps.capacity
  plain : (r : ℕ) → (tall t r).more ≡ 0

lines_found : (t : Layout) (ends : Bool) (n k : ℕ) (ts : Items Tall) → Facts t → n < length t.grid.cells.items
    → Lifted (steps_taken ends t) (length (steps_taken ends t).grid.cells.items) ts → GoesOn t.grid n → k < height_of t.grid (cell_of t.grid n)
    → (walked ends (with_talls (steps_taken ends t) ts)).walk.line < most
    → LineFound (steps_taken ends (with_talls (steps_taken ends t) ts)) n k
lines_found t ends n k ts q inside h goes less few =
    let v : Layout = steps_taken ends t in
    let z : Layout = with_talls v ts in
    let w : Layout = steps_taken ends z in
    let m : Reached t (length t.grid.table.items.items) (suc (suc (suc (4 * length t.grid.table.items.items + 1)))) (walked ends t) =
    steps_reached t ends q.placed q.many q.room in
    let grid : v.grid ≡ t.grid = m.grid in
    let is_placed : IsPlaced z.grid = subst IsPlaced (sym grid) q.placed in
    let is_read : IsRead z.grid.table = subst (λ (g : Grid). IsRead g.table) (sym grid) q.read in
    let o : Over t.grid n = q.over n inside in
    let over : Over z.grid n = subst (λ (g : Grid). Over g n) (sym grid) o in
    let many : length z.grid.table.rows.items ≤ length z.talls.items =
    omega (arith, q.many, m.count, h.count, ap (λ (g : Grid). length g.table.rows.items) grid) in
    let room : 4 * length z.grid.table.items.items + 4 ≤ z.steps.capacity =
    omega (arith, q.room, m.room, ap (λ (g : Grid). length g.table.items.items) grid) in
    let g : Reached z (length z.grid.table.items.items) (suc (suc (suc (4 * length z.grid.table.items.items + 1)))) (walked ends z) =
    steps_reached z ends is_placed many room in
    let talls : Talls t v = walk_talls t ends in
    let high : Heightened t z = record {
      same = ap (λ (l : Layout). with_talls l ts) (walk_rest t ends);
      room = m.room;
      count = h.count ∙ m.count;
      lines = λ r. omega (arith, h.height r, (talls r).1, q.plain r);
      quiet = λ r no. h.quiet r (ap (λ (x : Grid). (placed x r).own) grid ∙ no);
    } in
    let f : Cell = cell_of v.grid n in
    let old : RowsStand v n = rows_stand t n ends q.placed q.read o q.many q.room in
    let new : RowsStand w n = rows_stand z n ends is_placed is_read over many room in
    let rows_are : length t.grid.table.rows.items ≡ length v.grid.table.rows.items =
    ap (λ (x : Grid). length x.table.rows.items) (sym grid) in
    let top_is : row_line w f.top ≡ sum (row_line v f.top) (more_above z f.top) =
    rows_lower t z ends high q.placed q.read q.many q.room f.top (omega (arith, over.order, over.inside, rows_are))
    (ap (λ (x : Grid). (placed x f.top).own) (sym grid) ∙ over.begins) in
    let bottom_is : row_line w f.bottom ≡ sum (row_line v f.bottom) (more_above z f.bottom) =
    rows_lower t z ends high q.placed q.read q.many q.room f.bottom (omega (arith, over.inside, rows_are))
    (ap (λ (x : Grid). (placed x f.bottom).own) (sym grid) ∙ over.own) in
    let i = is_read.among f.bottom over.inside in
    let d : Drawn (walked ends z) f.bottom = g.drawn i.0 f.bottom i.1 i.2 over.own in
    let under : end_of z (at w.steps.items (tall w f.bottom).step) ≤ (walked ends z).walk.line = g.lie.below (tall w f.bottom).step d.0 in
    let last : height z (at w.steps.items (tall w f.bottom).step).kind ≡ lines_of (tall z f.bottom) = ap (height z) d.1 in
    let ends_below : sum (row_line w f.bottom) (lines_of (tall z f.bottom)) < most = omega (arith, under, last, few) in
    let reach : ℕ = sum f.bottom 1 - f.top in
    let got : ℕ = lines_added reach z f.top 0 in
    let span : got + more_above z f.top ≤ 0 + more_above z (f.top + reach) = added_span reach z f.top 0 in
    let to : f.top + reach ≡ suc f.bottom = omega (arith, over.order, over.small) in
    let span_is : more_above z (f.top + reach) ≡ more_above z f.bottom + (tall z f.bottom).more = ap (more_above z) to ∙ above_next z f.bottom in
    let goes_v : GoesOn v.grid n = ap (λ (x : Grid). (cell_of x n).falls && is_given (cell_of x n).block) grid ∙ goes in
    let fit : min (height_of v.grid f) most ≤ lines_over z f =
    h.fit n (omega (arith, inside, ap (λ (x : Grid). length x.cells.items) grid)) goes_v in
    let zt : row_line z f.top ≡ row_line v f.top = ap (λ (j : ℕ). (step v j).line) (h.step f.top) in
    let zb : row_line z f.bottom ≡ row_line v f.bottom = ap (λ (j : ℕ). (step v j).line) (h.step f.bottom) in
    let room_is : sum (row_line v f.top) (more_above z f.top) + height_of v.grid f
    ≤ sum (sum (row_line v f.bottom) (more_above z f.bottom)) (sum (tall z f.bottom).height (tall z f.bottom).more) =
    between (height_of v.grid f) (row_line v f.top) (row_line v f.bottom) got (tall z f.bottom).height (tall z f.bottom).more
    (more_above z f.top) (more_above z f.bottom)
    (subst (λ (x : ℕ). min (height_of v.grid f) most ≤ x) (over_is z f (row_line v f.top) (row_line v f.bottom) zt zb) fit) old.order
    (omega (arith, span, span_is)) (subst (λ (x : ℕ). sum x (lines_of (tall z f.bottom)) < most) bottom_is ends_below) in
    let c : Cell = cell_of w.grid n in
    let same : c ≡ f = ap (λ (x : Grid). cell_of x n) g.grid in
    let all : height_of w.grid c ≡ height_of v.grid f = ap (λ (x : Grid). height_of x (cell_of x n)) g.grid in
    let all_is : height_of w.grid c ≡ height_of t.grid (cell_of t.grid n) = all ∙ ap (λ (x : Grid). height_of x (cell_of x n)) grid in
    let top : row_line w c.top ≡ row_line w f.top = ap (λ (x : Cell). row_line w x.top) same in
    let last_end : row_end w c.bottom ≡ sum (row_line w f.bottom) (lines_of (tall z f.bottom)) =
    ap (λ (x : Cell). row_end w x.bottom) same ∙ ap (λ (x : ℕ). sum (row_line w f.bottom) x) (g.tall_as f.bottom) in
    let there = wanted c.key.stand (row_line w c.top) (free_lines w c) (height_of w.grid c) (row_end w c.bottom) k
    (moved (row_line w c.top) (height_of w.grid c) (row_end w c.bottom) (sum (row_line v f.top) (more_above z f.top)) (height_of v.grid f)
    (sum (sum (row_line v f.bottom) (more_above z f.bottom)) (sum (tall z f.bottom).height (tall z f.bottom).more))
    (top ∙ top_is) all (last_end ∙ ap (λ (x : ℕ). sum x (lines_of (tall z f.bottom))) bottom_is) room_is)
    refl (subst (λ (x : ℕ). x < most) (sym last_end) ends_below) (subst (λ (x : ℕ). k < x) (sym all_is) less) in
    new.found (line_wanted w c + k) there.0 there.1

pub block_found : (t : Layout) (ends : Bool) (n k : ℕ) → IsPlaced t.grid → IsRead t.grid.table
    → ((i : ℕ) → i < length t.grid.cells.items → Over t.grid i)
    → length t.grid.table.rows.items ≤ length t.talls.items → 4 * length t.grid.table.items.items + 4 ≤ t.steps.capacity
    → ((r : ℕ) → (tall t r).more ≡ 0) → n < length t.grid.cells.items
    → ((cell_of t.grid n).falls && is_given (cell_of t.grid n).block) ≡ true → k < height_of t.grid (cell_of t.grid n)
    → (walked ends (rows_raised (steps_taken ends t))).walk.line < most
    → LineFound (steps_taken ends (rows_raised (steps_taken ends t))) n k
block_found t ends n k placed read over many room plain inside goes less few =
    let v : Layout = steps_taken ends t in
    let m : Reached t (length t.grid.table.items.items) (suc (suc (suc (4 * length t.grid.table.items.items + 1)))) (walked ends t) =
    steps_reached t ends placed many room in
    let grid : v.grid ≡ t.grid = m.grid in
    let q : Facts t = record { placed = placed; read = read; over = over; many = many; room = room; plain = plain } in
    let h : LiftedTo v (length v.grid.cells.items) (rows_raised v) =
    all_lifted v (length v.grid.cells.items)
    (λ i low. subst (λ (x : Grid). Over x i) (sym grid) (over i (omega (arith, low, ap (λ (x : Grid). length x.cells.items) grid))))
    (omega (arith, many, m.count, ap (λ (x : Grid). length x.table.rows.items) grid)) (λ r. (walk_talls t ends r).0 ∙ plain r) (omega arith) in
    subst (λ (x : Layout). LineFound (steps_taken ends x) n k) (sym h.is)
    (lines_found t ends n k h.ts q inside h.lifted goes less (subst (λ (x : Layout). (walked ends x).walk.line < most) h.is few))
