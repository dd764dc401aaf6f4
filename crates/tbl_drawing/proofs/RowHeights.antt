-- Rows have a line at least, and keep them where they become higher.
use Rattle.std.proofs.Common.{◌≡◌, ℕ, zero, suc, ◌+◌, ◌-◌, ◌<◌, ◌≤◌, min, max, ◌&&◌, nat_lt, List, [], ◌∷◌, ◌++◌, length, get_or, refl, sym, ap, arith, ◌∙◌, length-append, length-set, inl, inr}
use Rattle.std.proofs.Math.ListN.{get_or-append}
use Rattle.std.proofs.Math.Seq.{get_or-append_seam}
use Rattle.nr_vectors.specs.Items.{Items}
use Rattle.tbl_columns.specs.declared.grid.Cell.{Cell}
use Rattle.tbl_columns.specs.declared.grid.Grid.{Grid}
use Rattle.tbl_columns.specs.declared.grid.Placed.{Placed}
use Rattle.tbl_columns.specs.Columns.{is_given}
use Rattle.tbl_columns.specs.Held.{cell_of, placed}
use Rattle.tbl_columns.proofs.Turns.{if_true, set_keeps, turn_has}
use Rattle.tbl_drawing.specs.declared.layout.Layout.{Layout}
use Rattle.tbl_drawing.specs.declared.layout.Tall.{Tall}
use Rattle.tbl_drawing.specs.Heights.{counts, height_read, heights_read, highest, missing, own_height, raised_at, raised_below, rows_raised, with_more, without_talls}
use Rattle.tbl_drawing.specs.Held.{lines_of, tall, tall_of}
use Rattle.tbl_drawing.proofs.Below.{below_by, below_is, by_cases, not_below_by, two}
use Rattle.tbl_drawing.proofs.OnceStands.{HasLines}
use Rattle.tbl_table.specs.Held.{none_of}
use Rattle.tbl_table.specs.Lists.{added, in_turn, put}
use Rattle.tbl_table.specs.Sums.{sum}

-- ---- by their own fields

abbrev first_talls : ℕ → Layout → Items Tall
first_talls zero l = none_of l.talls
first_talls (suc k) l = added (tall_of (own_height l.grid (placed l.grid k))) (first_talls k l)

read_is : (k : ℕ) (l : Layout) → in_turn k height_read (without_talls l) ≡ record l { talls = first_talls k l }
read_is zero l = refl
read_is (suc k) l = ap (λ (x : Layout). height_read k x) (read_is k l)

pub heights_are : (l : Layout) → heights_read l ≡ record l { talls = first_talls (length l.grid.placed.items) l }
heights_are l = read_is (length l.grid.placed.items) l

talls_room : (k : ℕ) (l : Layout) → (first_talls k l).capacity ≡ l.talls.capacity
talls_room zero l = refl
talls_room (suc k) l = talls_room k l

added_count : (x : Tall) (xs : Items Tall) (k : ℕ) → length xs.items ≡ min k xs.capacity → length (added x xs).items ≡ min (suc k) xs.capacity
added_count x xs k count =
    by_cases (λ (ts : List Tall). length ts ≡ min (suc k) xs.capacity) (nat_lt (length xs.items) xs.capacity) (xs.items ++ x ∷ []) xs.items
    (λ e. let room : length xs.items < xs.capacity = below_by (length xs.items) xs.capacity e in
    omega (arith, length-append xs.items (x ∷ []), room, count))
    (λ e. let full : xs.capacity ≤ length xs.items = not_below_by (length xs.items) xs.capacity e in omega (arith, full, count))

talls_count : (k : ℕ) (l : Layout) → length (first_talls k l).items ≡ min k (first_talls k l).capacity
talls_count zero l = omega arith
talls_count (suc k) l = added_count (tall_of (own_height l.grid (placed l.grid k))) (first_talls k l) k (talls_count k l)

pub heights_count : (l : Layout) → length (heights_read l).talls.items ≡ min (length l.grid.placed.items) l.talls.capacity
heights_count l =
    let n : ℕ = length l.grid.placed.items in
    ap (λ (x : Layout). length x.talls.items) (heights_are l) ∙ talls_count n l ∙ ap (λ (c : ℕ). min n c) (talls_room n l)

-- ---- what all of a list have, one more has

append_has : {T : Type 0} (P : T → Type 0) (xs : List T) (x d : T) → P x → ((r : ℕ) → P (get_or xs r d)) → (r : ℕ) → P (get_or (xs ++ x ∷ []) r d)
append_has P [] x d p h zero = p
append_has P [] x d p h (suc r) = h zero
append_has P (y ∷ ys) x d p h zero = h zero
append_has P (y ∷ ys) x d p h (suc r) = append_has P ys x d p (λ k. h (suc k)) r

highest_least : (k : ℕ) (g : Grid) (n most : ℕ) → most ≤ highest k g n most
highest_least zero g n most = omega arith
highest_least (suc k) g n most =
    let h : max (counts g n) most ≤ highest k g (n + 1) (max (counts g n) most) = highest_least k g (n + 1) (max (counts g n) most) in
    omega (arith, h)

some_line : (h : ℕ) → 1 ≤ h → 1 ≤ lines_of (tall_of h)
some_line h e = omega (arith, e)

talls_lines : (k : ℕ) (l : Layout) (r : ℕ) → 1 ≤ lines_of (get_or (first_talls k l).items r (tall_of 1))
talls_lines zero l r = omega arith
talls_lines (suc k) l r =
    let p : Placed = placed l.grid k in
    let x : Tall = tall_of (own_height l.grid p) in
    let xs : Items Tall = first_talls k l in
    by_cases (λ (ts : List Tall). 1 ≤ lines_of (get_or ts r (tall_of 1))) (nat_lt (length xs.items) xs.capacity) (xs.items ++ x ∷ []) xs.items
    (λ e. append_has (λ (y : Tall). 1 ≤ lines_of y) xs.items x (tall_of 1) (some_line (own_height l.grid p) (highest_least (p.cells_end - p.cells) l.grid p.cells 1)) (talls_lines k l) r)
    (λ e. talls_lines k l r)

talls_plain : (k : ℕ) (l : Layout) (r : ℕ) → (get_or (first_talls k l).items r (tall_of 1)).more ≡ 0
talls_plain zero l r = refl
talls_plain (suc k) l r =
    let x : Tall = tall_of (own_height l.grid (placed l.grid k)) in
    let xs : Items Tall = first_talls k l in
    by_cases (λ (ts : List Tall). (get_or ts r (tall_of 1)).more ≡ 0) (nat_lt (length xs.items) xs.capacity) (xs.items ++ x ∷ []) xs.items
    (λ e. append_has (λ (y : Tall). y.more ≡ 0) xs.items x (tall_of 1) refl (talls_plain k l) r)
    (λ e. talls_plain k l r)

-- no row has more lines than its fields
pub heights_plain : (l : Layout) (r : ℕ) → (tall (heights_read l) r).more ≡ 0
heights_plain l r = ap (λ (x : Layout). (tall x r).more) (heights_are l) ∙ talls_plain (length l.grid.placed.items) l r

pub heights_lines : (l : Layout) → HasLines (heights_read l)
heights_lines l r =
    let is : lines_of (tall (heights_read l) r) ≡ lines_of (get_or (first_talls (length l.grid.placed.items) l).items r (tall_of 1)) =
    ap (λ (x : Layout). lines_of (tall x r)) (heights_are l) in
    omega (arith, is, talls_lines (length l.grid.placed.items) l r)

-- a row is as high as each of its fields that doesn't go on

highest_has : (k : ℕ) (g : Grid) (m most n : ℕ) → m ≤ n → n < m + k → counts g n ≤ highest k g m most
highest_has zero g m most n low less = absurd (none m n low less)
  where
    none : (m n : ℕ) → m ≤ n → n < m + 0 → ⊥
    none m n low less = omega (arith, low, less)
highest_has (suc k) g m most n low less =
    elim (two m n (omega (arith, low))) [
      | inl under ↦ highest_has k g (m + 1) (max (counts g m) most) n (omega (arith, under)) (omega (arith, less))
      | inr here ↦
          (let least : max (counts g m) most ≤ highest k g (m + 1) (max (counts g m) most) = highest_least k g (m + 1) (max (counts g m) most) in
          omega (arith, least, ap (counts g) here))
    ]

talls_at : (k : ℕ) (l : Layout) (r : ℕ) → k ≤ l.talls.capacity → r < k
    → get_or (first_talls k l).items r (tall_of 1) ≡ tall_of (own_height l.grid (placed l.grid r))
talls_at zero l r room less = absurd (none r less)
  where
    none : (m : ℕ) → m < 0 → ⊥
    none m less = omega (arith, less)
talls_at (suc k) l r room less =
    let x : Tall = tall_of (own_height l.grid (placed l.grid k)) in
    let xs : Items Tall = first_talls k l in
    let count : length xs.items ≡ k = omega (arith, talls_count k l, talls_room k l, room) in
    let is : (added x xs).items ≡ xs.items ++ x ∷ [] =
    if_true (nat_lt (length xs.items) xs.capacity) (xs.items ++ x ∷ []) xs.items
    (below_is (length xs.items) xs.capacity (omega (arith, count, talls_room k l, room))) in
    elim (two r k (omega (arith, less))) [
      | inl under ↦ ap (λ (ts : List Tall). get_or ts r (tall_of 1)) is
          ∙ get_or-append xs.items (x ∷ []) (tall_of 1) r (omega (arith, under, count))
          ∙ talls_at k l r (omega (arith, room)) under
      | inr last ↦ ap (λ (ts : List Tall). get_or ts r (tall_of 1)) is
          ∙ ap (λ (i : ℕ). get_or (xs.items ++ x ∷ []) i (tall_of 1)) (last ∙ sym count)
          ∙ get_or-append_seam xs.items x [] (tall_of 1)
          ∙ ap (λ (i : ℕ). tall_of (own_height l.grid (placed l.grid i))) (sym last)
    ]

pub heights_fit : (l : Layout) (r n : ℕ) → length l.grid.placed.items ≤ l.talls.capacity → r < length l.grid.placed.items
    → (placed l.grid r).cells ≤ n → n < (placed l.grid r).cells_end → sum (counts l.grid n) 0 ≤ lines_of (tall (heights_read l) r)
heights_fit l r n room inside low less =
    let p : Placed = placed l.grid r in
    let k : ℕ = length l.grid.placed.items in
    let is : tall (heights_read l) r ≡ tall_of (own_height l.grid p) =
    ap (λ (x : Layout). tall x r) (heights_are l) ∙ talls_at k l r room inside in
    let high : counts l.grid n ≤ own_height l.grid p = highest_has (p.cells_end - p.cells) l.grid p.cells 1 n low (omega (arith, low, less)) in
    omega (arith, high, ap (λ (t : Tall). lines_of t) is)

-- ---- by blocks that go on over rows below

pub record Raised (v x : Layout) : Type 0 where
  pub grid : x.grid ≡ v.grid
  pub steps : x.steps ≡ v.steps
  pub begins : x.begins ≡ v.begins
  pub count : length x.talls.items ≡ length v.talls.items
  pub lines : (r : ℕ) → lines_of (tall v r) ≤ lines_of (tall x r)

raised_itself : (v : Layout) → Raised v v
raised_itself v = record { grid = refl; steps = refl; begins = refl; count = refl; lines = λ r. omega arith }

more_lines : (t : Tall) (m : ℕ) → lines_of t ≤ lines_of (with_more m t)
more_lines t m = omega arith

below_raised : (v : Layout) (f : Cell) (x : Layout) → Raised v x → Raised v (raised_below f x)
below_raised v f x h =
    let y : Tall = with_more (missing x f) (tall x f.bottom) in
    by_cases (Raised v) (nat_lt 0 (missing x f)) (record x { talls = put f.bottom y x.talls }) x
    (λ e. record {
      grid = h.grid;
      steps = h.steps;
      begins = h.begins;
      count = length-set x.talls.items f.bottom y ∙ h.count;
      lines = λ r.
          let now : lines_of (tall x r) ≤ lines_of (tall (record x { talls = put f.bottom y x.talls }) r) =
          set_keeps (λ (t : Tall). lines_of t) x.talls.items f.bottom y (tall_of 1) (more_lines (tall x f.bottom) (missing x f)) r in
          omega (arith, h.lines r, now);
    })
    (λ e. h)

at_raised : (v : Layout) (n : ℕ) (x : Layout) → Raised v x → Raised v (raised_at n x)
at_raised v n x h =
    let f : Cell = cell_of x.grid n in
    by_cases (Raised v) (f.falls && is_given f.block) (raised_below f x) x (λ e. below_raised v f x h) (λ e. h)

pub all_raised : (v : Layout) → Raised v (rows_raised v)
all_raised v = turn_has (Raised v) raised_at (at_raised v) (length v.grid.cells.items) v (raised_itself v)
