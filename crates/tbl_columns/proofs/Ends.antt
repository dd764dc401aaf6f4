-- Where a table ends: after the widths of its columns, the spaces between them and what stands at its edges.
use Rattle.std.proofs.Common.{◌≡◌, ℕ, zero, suc, ◌+◌, ◌-◌, ◌<◌, ◌≤◌, ◌==◌, min, max, false, length, get_or, refl, sym, ap, subst, arith, ◌∙◌, length-set, if◌then◌else◌}
use Rattle.std.proofs.lemmas.Bool.Decides.{nat_tests}
use Rattle.std.proofs.lemmas.List.{get_or-set_same}
use Rattle.tbl_columns.specs.declared.grid.Column.{Column}
use Rattle.tbl_columns.specs.declared.grid.Edges.{Edges}
use Rattle.tbl_columns.specs.declared.grid.Grid.{Grid}
use Rattle.tbl_columns.specs.Frames.{Laying, column_laid, count, framing, laid, laid_at, laid_out, laying, left_edge, most_bars_in, right_edge, table_end}
use Rattle.tbl_columns.specs.Held.{column, columns, fresh}
use Rattle.tbl_table.specs.declared.table.Table.{Table}
use Rattle.tbl_table.specs.Held.{bars_in, is_boxed, line}
use Rattle.tbl_table.specs.Lists.{in_turn, put}
use Rattle.tbl_table.specs.Sums.{sum}
use Rattle.tbl_columns.proofs.Choices.{left}
use Rattle.tbl_columns.proofs.Turns.{set_same, turn_same}

abbrev pub most : ℕ
most = 18446744073709551615

abbrev pub width_at : Grid → ℕ → ℕ
width_at g c = (column g c).width

abbrev pub gap_at : Grid → ℕ → ℕ
gap_at g c = (column g c).gap

-- of the first numbers
abbrev pub total : ℕ → (ℕ → ℕ) → ℕ
total zero w = 0
total (suc n) w = total n w + w n

-- ---- grids that differ in the columns' widths and places alone

pub record Alike (g h : Grid) : Type 0 where
  pub table : h.table ≡ g.table
  pub edges : h.edges ≡ g.edges
  pub count : columns h ≡ columns g
  pub gap : (c : ℕ) → gap_at h c ≡ gap_at g c

bars_alike : (n c : ℕ) (g h : Grid) → h.table ≡ g.table → most_bars_in n h c ≡ most_bars_in n g c
bars_alike zero c g h e = refl
bars_alike (suc n) c g h e =
    ap (λ (t : Table). max (bars_in t (line t n) c) (most_bars_in n h c)) e
    ∙ ap (λ (m : ℕ). max (bars_in g.table (line g.table n) c) m) (bars_alike n c g h e)

edge_alike : (c : ℕ) (g h : Grid) → h.table ≡ g.table
    → min (max (most_bars_in (length h.table.lines.items) h c) (count (is_boxed h.table))) 1
    ≡ min (max (most_bars_in (length g.table.lines.items) g c) (count (is_boxed g.table))) 1
edge_alike c g h e =
    ap (λ (t : Table). min (max (most_bars_in (length t.lines.items) h c) (count (is_boxed t))) 1) e
    ∙ ap (λ (m : ℕ). min (max m (count (is_boxed g.table))) 1) (bars_alike (length g.table.lines.items) c g h e)

pub left_alike : (g h : Grid) → Alike g h → left_edge h ≡ left_edge g
left_alike g h a = edge_alike 0 g h a.table

pub right_alike : (g h : Grid) → Alike g h → right_edge h ≡ right_edge g
right_alike g h a =
    edge_alike (columns h) g h a.table
    ∙ ap (λ (c : ℕ). min (max (most_bars_in (length g.table.lines.items) g c) (count (is_boxed g.table))) 1) a.count

-- ---- where a table of some columns ends, if numbers were without end

unfoldable pub around : Grid → ℕ
around g = left_edge g + right_edge g + (g.edges.left + g.edges.right)

abbrev pub extent : ℕ → Grid → ℕ
extent n g = around g + total n (gap_at g) + total (suc n) (width_at g)

pub around_alike : (g h : Grid) → Alike g h → around h ≡ around g
unfolding around
around_alike g h a =
    ap (λ (n : ℕ). n + right_edge h + (h.edges.left + h.edges.right)) (left_alike g h a)
    ∙ ap (λ (n : ℕ). left_edge g + n + (h.edges.left + h.edges.right)) (right_alike g h a)
    ∙ ap (λ (e : Edges). left_edge g + right_edge g + (e.left + e.right)) a.edges

pub total_alike : (n : ℕ) (v w : ℕ → ℕ) → ((c : ℕ) → c < n → v c ≡ w c) → total n v ≡ total n w
total_alike zero v w e = refl
total_alike (suc n) v w e =
    let before : total n v ≡ total n w = total_alike n v w (λ c h. e c (omega (arith, h))) in
    let last : v n ≡ w n = e n (omega arith) in
    omega (arith, before, last)

pub total_least : (n : ℕ) (v w : ℕ → ℕ) → ((c : ℕ) → c < n → v c ≤ w c) → total n v ≤ total n w
total_least zero v w e = omega arith
total_least (suc n) v w e =
    let before : total n v ≤ total n w = total_least n v w (λ c h. e c (omega (arith, h))) in
    let last : v n ≤ w n = e n (omega arith) in
    omega (arith, before, last)

pub total_has : (n c : ℕ) (w : ℕ → ℕ) → c < n → w c ≤ total n w
total_has zero c w h = absurd (omega (arith, h))
total_has (suc n) c w h = has (λ p. total_has n c w p) (n - c) refl
  where
    has : (c < n → w c ≤ total n w) → (d : ℕ) → n - c ≡ d → w c ≤ total n w + w n
    has later zero e =
        let is : n ≡ c = omega (arith, e, h) in
        let same : w n ≡ w c = ap w is in
        omega (arith, same)
    has later (suc d) e =
        let before : w c ≤ total n w = later (omega (arith, e)) in
        omega (arith, before)

-- ---- columns are laid out

laid_keeps : {B : Type 0} (K : Column → B) → ((left : ℕ) (x : Column) → K (laid left x) ≡ K x) → (c k : ℕ) (l : Laying)
    → K (column (in_turn k laid_at l).grid c) ≡ K (column l.grid c)
laid_keeps K same c k l =
    turn_same (λ (x : Laying). K (column x.grid c)) laid_at
    (λ n x. set_same K x.grid.columns.items n (laid x.place (column x.grid n)) fresh (same x.place (column x.grid n)) c) k l

laid_count : (k : ℕ) (l : Laying) → columns (in_turn k laid_at l).grid ≡ columns l.grid
laid_count k l =
    turn_same (λ (x : Laying). columns x.grid) laid_at (λ n x. length-set x.grid.columns.items n (laid x.place (column x.grid n))) k l

laid_alike_by : (k : ℕ) (l : Laying) → Alike l.grid (in_turn k laid_at l).grid
laid_alike_by k l = record {
  table = turn_same (λ (x : Laying). x.grid.table) laid_at (λ n x. refl) k l;
  edges = turn_same (λ (x : Laying). x.grid.edges) laid_at (λ n x. refl) k l;
  count = laid_count k l;
  gap = λ c. laid_keeps (λ (x : Column). x.gap) (λ left x. refl) c k l;
}

pub laid_alike : (g : Grid) → Alike g (laid_out g)
laid_alike g = laid_alike_by (columns g) (laying g (sum (left_edge g) g.edges.left))

pub laid_width : (g : Grid) (c : ℕ) → width_at (laid_out g) c ≡ width_at g c
laid_width g c = laid_keeps (λ (x : Column). x.width) (λ left x. refl) c (columns g) (laying g (sum (left_edge g) g.edges.left))

-- where the next column begins
place_at : (k : ℕ) (g : Grid) (p : ℕ) → p ≤ most
    → (in_turn k laid_at (laying g p)).place ≡ min (p + total k (width_at g) + total k (gap_at g)) most
place_at zero g p h = omega (arith, h)
place_at (suc k) g p h =
    let l : Laying = in_turn k laid_at (laying g p) in
    let before : l.place ≡ min (p + total k (width_at g) + total k (gap_at g)) most = place_at k g p h in
    let width : (column l.grid k).width ≡ width_at g k = laid_keeps (λ (x : Column). x.width) (λ left x. refl) k k (laying g p) in
    let gap : (column l.grid k).gap ≡ gap_at g k = laid_keeps (λ (x : Column). x.gap) (λ left x. refl) k k (laying g p) in
    omega (arith, before, width, gap)

right_at : (n : ℕ) (g : Grid) (p : ℕ) → p ≤ most → n < columns g
    → (column (in_turn (suc n) laid_at (laying g p)).grid n).right ≡ min (p + total n (gap_at g) + total (suc n) (width_at g)) most
right_at n g p h inside =
    let l : Laying = in_turn n laid_at (laying g p) in
    let place : l.place ≡ min (p + total n (width_at g) + total n (gap_at g)) most = place_at n g p h in
    let width : (column l.grid n).width ≡ width_at g n = laid_keeps (λ (x : Column). x.width) (λ left x. refl) n n (laying g p) in
    let there : n < columns l.grid = subst (λ (k : ℕ). n < k) (sym (laid_count n (laying g p))) inside in
    let agreed : (column (column_laid n l.place l.grid).grid n).right ≡ sum l.place (column l.grid n).width =
    ap (λ (x : Column). x.right) (get_or-set_same l.grid.columns.items n (laid l.place (column l.grid n)) fresh there) in
    omega (arith, place, width, agreed)

last_end : (n : ℕ) (g h : Grid) → columns h ≡ suc n → table_end h ≡ sum (sum (column h n).right (right_edge h)) h.edges.right
last_end n g h is =
    ap (λ (k : ℕ). if k == 0 then 0 else sum (sum (column h (k - 1)).right (right_edge h)) h.edges.right) is
    ∙ left (suc n == 0) 0 (sum (sum (column h (suc n - 1)).right (right_edge h)) h.edges.right) (not_zero n)
    ∙ ap (λ (k : ℕ). sum (sum (column h k).right (right_edge h)) h.edges.right) (one_less n)
  where
    one_less : (k : ℕ) → suc k - 1 ≡ k
    one_less k = omega arith

    not_zero : (k : ℕ) → (suc k == 0) ≡ false
    not_zero k = grind (arith, nat_tests)

sums_up : (l a s w r b right re be end : ℕ) → right ≡ min (sum l a + s + w) most → re ≡ r → be ≡ b → end ≡ sum (sum right re) be
    → end ≡ min (l + r + (a + b) + s + w) most
sums_up l a s w r b right re be end p q h e = omega (arith, p, q, h, e)

pub laid_end : (n : ℕ) (g : Grid) → columns g ≡ suc n → table_end (laid_out g) ≡ min (extent n g) most
unfolding around
laid_end n g is =
    let p : ℕ = sum (left_edge g) g.edges.left in
    let h : Grid = laid_out g in
    let alike : Alike g h = laid_alike g in
    let right : (column h n).right ≡ min (p + total n (gap_at g) + total (suc n) (width_at g)) most =
    ap (λ (k : ℕ). (column (in_turn k laid_at (laying g p)).grid n).right) is ∙ right_at n g p (sum_most (left_edge g) g.edges.left) (subst (λ (k : ℕ). n < k) (sym is) (below n)) in
    let edge : right_edge h ≡ right_edge g = right_alike g h alike in
    let space : h.edges.right ≡ g.edges.right = ap (λ (e : Edges). e.right) alike.edges in
    let at : table_end h ≡ sum (sum (column h n).right (right_edge h)) h.edges.right = last_end n g h (alike.count ∙ is) in
    sums_up (left_edge g) g.edges.left (total n (gap_at g)) (total (suc n) (width_at g)) (right_edge g) g.edges.right
    (column h n).right (right_edge h) h.edges.right (table_end h) right edge space at
  where
    sum_most : (a b : ℕ) → sum a b ≤ most
    sum_most a b = omega arith

    below : (k : ℕ) → k < suc k
    below k = omega arith
