-- Rows go out in their order.
use Rattle.std.proofs.Common.{◌≡◌, ℕ, zero, suc, ◌+◌, ◌*◌, ◌<◌, ◌≤◌, Bool, true, false, ◌&&◌, ◌||◌, not, nat_lt, List, [], ◌∷◌, ◌++◌, length, take, Option, None, Some, refl, sym, ap, subst, arith, ◌∙◌, append_assoc, length-append, if◌then◌else◌}
use Rattle.std.proofs.Math.Seq.{take-suc}
use Rattle.std.proofs.lemmas.Bool.Decides.{nat_tests}
use Rattle.std.proofs.lemmas.List.{append-nil, take_all}
use Rattle.nr_vectors.specs.Items.{Items}
use Rattle.tbl_columns.specs.declared.grid.Grid.{Grid}
use Rattle.tbl_columns.specs.declared.grid.Placed.{Placed}
use Rattle.tbl_columns.specs.Held.{placed}
use Rattle.tbl_drawing.specs.declared.layout.Layout.{Layout}
use Rattle.tbl_drawing.specs.declared.layout.Step.{Step}
use Rattle.tbl_drawing.specs.declared.layout.StepKind.{StepKind}
use Rattle.tbl_drawing.specs.declared.layout.StepKind.TheVariants as steps
use Rattle.tbl_drawing.specs.Held.{lines_of, tall}
use Rattle.tbl_drawing.specs.Laws.{RowsGoOut, own_row, own_rows, row_of, rows_of}
use Rattle.tbl_drawing.specs.Steps.{Walking, asked, beyond_stepped, closed_box, closed_rule, closes_rule, has_beyond, on_step, other, released, released_beside, row_asked, row_beside, ruled, space_in, step_at, steps_taken, stepped, walk_begun, walk_ended, walked_at, walked_item, walked_line, walked_own_row, walked_row_in, walking_on, without_steps}
use Rattle.tbl_table.specs.declared.table.Item.{Item}
use Rattle.tbl_table.specs.declared.table.Item.TheVariants as items
use Rattle.tbl_table.specs.declared.table.Span.{Span}
use Rattle.tbl_table.specs.Held.{is_boxed, is_double, item}
use Rattle.tbl_table.specs.Lists.{added, in_turn}

-- ---- rows of lists one after the other

rows_of-append : (a b : List Step) → rows_of (a ++ b) ≡ rows_of a ++ rows_of b
rows_of-append [] b = refl
rows_of-append (s ∷ a) b = ap (λ (l : List ℕ). row_of s.kind ++ l) (rows_of-append a b) ∙ sym (append_assoc (row_of s.kind) (rows_of a) (rows_of b))

own_rows-append : (t : Layout) (a b : List Item) → own_rows t (a ++ b) ≡ own_rows t a ++ own_rows t b
own_rows-append t [] b = refl
own_rows-append t (i ∷ a) b = ap (λ (l : List ℕ). own_row t i ++ l) (own_rows-append t a b) ∙ sym (append_assoc (own_row t i) (own_rows t a) (own_rows t b))

-- ---- a table on the way: so many lines at most, with these rows; what was read stays

record Reached (t : Layout) (lines : ℕ) (rows : List ℕ) (u : Layout) : Type 0 where
  few : length u.steps.items ≤ lines
  room : u.steps.capacity ≡ t.steps.capacity
  are : rows_of u.steps.items ≡ rows
  grid : u.grid ≡ t.grid

more_lines : {t : Layout} {lines : ℕ} {rows : List ℕ} {u : Layout} (n : ℕ) → lines ≤ n → Reached t lines rows u → Reached t n rows u
more_lines n h m = record { few = omega (arith, h, m.few); room = m.room; are = m.are; grid = m.grid }

with_rows : {t : Layout} {lines : ℕ} {rows : List ℕ} {u : Layout} (more : List ℕ) → rows ≡ more → Reached t lines rows u → Reached t lines more u
with_rows more e m = record { few = m.few; room = m.room; are = m.are ∙ e; grid = m.grid }

added_items : (s : Step) (xs : Items Step) → length xs.items < xs.capacity → (added s xs).items ≡ xs.items ++ s ∷ []
added_items s xs h = fits (nat_lt (length xs.items) xs.capacity) (grind (arith, nat_tests, h))
  where
    fits : (b : Bool) → b ≡ true → (if b then xs.items ++ s ∷ [] else xs.items) ≡ xs.items ++ s ∷ []
    fits true e = refl
    fits false e = cc

step_reached : (t : Layout) (lines : ℕ) (rows : List ℕ) (kind : StepKind) (n : ℕ) (w : Walking) → lines < t.steps.capacity → Reached t lines rows w.layout
    → Reached t (suc lines) (rows ++ row_of kind) (stepped kind n w).layout
step_reached t lines rows kind n w h m =
    let s : Step = step_at kind w.walk.line in
    let inside : length w.layout.steps.items < w.layout.steps.capacity = omega (arith, h, m.few, m.room) in
    let are : (added s w.layout.steps).items ≡ w.layout.steps.items ++ s ∷ [] = added_items s w.layout.steps inside in
    let more : length (w.layout.steps.items ++ s ∷ []) ≡ length w.layout.steps.items + 1 = length-append w.layout.steps.items (s ∷ []) in
    record {
      few = omega (arith, ap length are, more, m.few);
      room = m.room;
      are =
          ap rows_of are ∙ rows_of-append w.layout.steps.items (s ∷ [])
          ∙ ap (λ (l : List ℕ). l ++ (row_of kind ++ [])) m.are ∙ ap (λ (l : List ℕ). rows ++ l) (append-nil (row_of kind));
      grid = m.grid;
    }

-- a line that is no row
other_reached : (t : Layout) (lines : ℕ) (rows : List ℕ) (kind : StepKind) (n : ℕ) (w : Walking) → row_of kind ≡ [] → lines < t.steps.capacity
    → Reached t lines rows w.layout → Reached t (suc lines) rows (stepped kind n w).layout
other_reached t lines rows kind n w e h m =
    with_rows rows (ap (λ (l : List ℕ). rows ++ l) e ∙ append-nil rows) (step_reached t lines rows kind n w h m)

if_reached : (t : Layout) (lines : ℕ) (rows : List ℕ) (b : Bool) (x y : Walking) → Reached t lines rows x.layout → Reached t lines rows y.layout
    → Reached t lines rows (if b then x else y).layout
if_reached t lines rows true x y m k = m
if_reached t lines rows false x y m k = k

released_reached : (t : Layout) (lines : ℕ) (rows : List ℕ) (below : Option ℕ) (w : Walking) → lines < t.steps.capacity → Reached t lines rows w.layout
    → Reached t (suc lines) rows (released below w).layout
released_reached t lines rows below w h m =
    if_reached t (suc lines) rows w.walk.ruled (stepped (steps.Rule w.walk.last below) 1 w) w
    (other_reached t lines rows (steps.Rule w.walk.last below) 1 w refl h m) (more_lines (suc lines) (omega arith) m)

-- ---- an item

released_some_reached : (t : Layout) (lines : ℕ) (rows : List ℕ) (w : Walking) → lines < t.steps.capacity → Reached t lines rows w.layout
    → Reached t (suc lines) rows (released_beside w).layout
released_some_reached t lines rows w h m = released_reached t lines rows (row_beside w.layout w.walk) w h m

request_reached : (t : Layout) (lines : ℕ) (rows : List ℕ) (space last : Option ℕ) (s : Span) (w : Walking) → suc lines < t.steps.capacity
    → Reached t lines rows w.layout → Reached t (suc (suc lines)) rows (asked space last s w).layout
request_reached t lines rows None last s w h m =
    more_lines (suc (suc lines)) (omega arith) (other_reached t lines rows (steps.Request s) 0 w refl (omega (arith, h)) m)
request_reached t lines rows (Some n) None s w h m =
    more_lines (suc (suc lines)) (omega arith) (other_reached t lines rows (steps.Request s) 0 w refl (omega (arith, h)) m)
request_reached t lines rows (Some n) (Some r) s w h m =
    other_reached t (suc lines) rows (steps.Bars r n) n (ruled false (released_beside w)) refl h
    (released_some_reached t lines rows w (omega (arith, h)) m)

row_step_reached : (t : Layout) (lines : ℕ) (rows : List ℕ) (n : ℕ) (w : Walking) → Reached t lines rows w.layout
    → Reached t lines rows (on_step n w).layout
row_step_reached t lines rows n w m = record { few = m.few; room = m.room; are = m.are; grid = m.grid }

own_row_reached : (t : Layout) (lines : ℕ) (rows : List ℕ) (n : ℕ) (w : Walking) → lines + 4 ≤ t.steps.capacity
    → Reached t lines rows w.layout → Reached t (suc (suc (suc lines))) (rows ++ n ∷ []) (walked_own_row n w).layout
own_row_reached t lines rows n w h m =
    let before : Walking = stepped (steps.Before n) 0 w in
    let under : Walking = released (Some n) before in
    let stands : Walking = on_step n under in
    let m1 : Reached t (suc lines) rows before.layout = other_reached t lines rows (steps.Before n) 0 w refl (omega (arith, h)) m in
    let m2 : Reached t (suc (suc lines)) rows under.layout = released_reached t (suc lines) rows (Some n) before (omega (arith, h)) m1 in
    let m3 : Reached t (suc (suc lines)) rows stands.layout = row_step_reached t (suc (suc lines)) rows n under m2 in
    step_reached t (suc (suc lines)) rows (steps.Row n) (lines_of (tall stands.layout n)) stands (omega (arith, h)) m3

line_reached : (t : Layout) (lines : ℕ) (rows : List ℕ) (n : ℕ) (w : Walking) → lines + 4 ≤ t.steps.capacity
    → Reached t lines rows w.layout → (b : Bool)
    → Reached t (suc (suc (suc lines))) (rows ++ (if b then n ∷ [] else [])) (if b then walked_own_row n w else stepped (steps.Before n) 0 w).layout
line_reached t lines rows n w h m true = own_row_reached t lines rows n w h m
line_reached t lines rows n w h m false =
    with_rows (rows ++ []) (sym (append-nil rows))
    (more_lines (suc (suc (suc lines))) (omega arith) (other_reached t lines rows (steps.Before n) 0 w refl (omega (arith, h)) m))

beyond_reached : (t : Layout) (lines : ℕ) (rows : List ℕ) (n : ℕ) (p : Placed) (w : Walking) → lines < t.steps.capacity → Reached t lines rows w.layout
    → Reached t (suc lines) rows (beyond_stepped n p w).layout
beyond_reached t lines rows n p w h m =
    if_reached t (suc lines) rows (has_beyond w.layout n p) (other (steps.Beyond n) w) w
    (other_reached t lines rows (steps.Beyond n) 0 w refl h m) (more_lines (suc lines) (omega arith) m)

row_reached : (t : Layout) (lines : ℕ) (rows : List ℕ) (n : ℕ) (p : Placed) (w : Walking) → lines + 4 ≤ t.steps.capacity
    → Reached t lines rows w.layout
    → Reached t (suc (suc (suc (suc lines)))) (rows ++ (if p.own then n ∷ [] else [])) (walked_row_in p n w).layout
row_reached t lines rows n p w h m =
    beyond_reached t (suc (suc (suc lines))) (rows ++ (if p.own then n ∷ [] else [])) n p (walked_line p n w) (omega (arith, h))
    (line_reached t lines rows n w h m p.own)

item_reached : (t : Layout) (lines : ℕ) (rows : List ℕ) (i : Item) (w : Walking) → lines + 4 ≤ t.steps.capacity → Reached t lines rows w.layout
    → Reached t (suc (suc (suc (suc lines)))) (rows ++ own_row t i) (walked_item i w).layout
item_reached t lines rows items.Rule w h m =
    with_rows (rows ++ []) (sym (append-nil rows))
    (more_lines (suc (suc (suc (suc lines)))) (omega arith) (released_some_reached t lines rows w (omega (arith, h)) m))
item_reached t lines rows (items.Request s) w h m =
    with_rows (rows ++ []) (sym (append-nil rows))
    (more_lines (suc (suc (suc (suc lines)))) (omega arith)
    (request_reached t lines rows (space_in w.layout w.walk s) (row_asked w.layout (space_in w.layout w.walk s) w.walk) s w (omega (arith, h)) m))
item_reached t lines rows (items.Row n) w h m =
    with_rows (rows ++ own_row t (items.Row n)) (ap (λ (g : Grid). rows ++ (if (placed g n).own then n ∷ [] else [])) m.grid)
    (row_reached t lines rows n (placed w.layout.grid n) w h m)

-- ---- all items

all_reached : (t : Layout) (k : ℕ) (w : Walking) → k ≤ length t.grid.table.items.items → 4 * length t.grid.table.items.items + 4 ≤ t.steps.capacity
    → Reached t 1 [] w.layout → Reached t (4 * k + 1) (own_rows t (take k t.grid.table.items.items)) (in_turn k walked_at w).layout
all_reached t zero w h room m = more_lines (4 * zero + 1) (omega arith) m
all_reached t (suc k) w h room m =
    let v : Walking = in_turn k walked_at w in
    let all : List Item = t.grid.table.items.items in
    let rows : List ℕ = own_rows t (take k all) in
    let before : Reached t (4 * k + 1) rows v.layout = all_reached t k w (omega (arith, h)) room m in
    let is : item v.layout.grid.table k ≡ item t.grid.table k = ap (λ (g : Grid). item g.table k) before.grid in
    let now : Reached t (suc (suc (suc (suc (4 * k + 1))))) (rows ++ own_row t (item v.layout.grid.table k)) (walked_item (item v.layout.grid.table k) v).layout =
    item_reached t (4 * k + 1) rows (item v.layout.grid.table k) v (omega (arith, h, room)) before in
    let more : rows ++ own_row t (item v.layout.grid.table k) ≡ own_rows t (take (suc k) all) =
    ap (λ (i : Item). rows ++ own_row t i) is
    ∙ ap (λ (l : List ℕ). rows ++ l) (sym (append-nil (own_row t (item t.grid.table k))))
    ∙ sym (own_rows-append t (take k all) (item t.grid.table k ∷ []))
    ∙ ap (own_rows t) (sym (take-suc all k items.Rule (omega (arith, h)))) in
    with_rows (own_rows t (take (suc k) all)) more (more_lines (4 * suc k + 1) (omega arith) now)

begun_reached : (t : Layout) → 4 ≤ t.steps.capacity → Reached t 1 [] (walk_begun (without_steps t)).layout
begun_reached t room =
    let u : Layout = without_steps t in
    let first : Reached t 0 [] u = record { few = omega arith; room = refl; are = refl; grid = refl } in
    if_reached t 1 [] (is_double t.grid.table.looks.frame && not t.begun) (stepped (steps.Edge true) 1 (walking_on u)) (walking_on u)
    (other_reached t 0 [] (steps.Edge true) 1 (walking_on u) refl (omega (arith, room)) first) (more_lines 1 (omega arith) first)

ended_reached : (t : Layout) (ends : Bool) (lines : ℕ) (rows : List ℕ) (w : Walking) → lines + 3 ≤ t.steps.capacity → Reached t lines rows w.layout
    → Reached t (suc (suc (suc lines))) rows (walk_ended ends w).layout
ended_reached t ends lines rows w h m =
    let rule : Walking = closed_rule ends w in
    let box : Walking = closed_box ends rule in
    let m1 : Reached t (suc lines) rows rule.layout =
    if_reached t (suc lines) rows (closes_rule ends w.layout) (released w.walk.last w) w
    (released_reached t lines rows w.walk.last w (omega (arith, h)) m) (more_lines (suc lines) (omega arith) m) in
    let m2 : Reached t (suc (suc lines)) rows box.layout =
    if_reached t (suc (suc lines)) rows (ends && (rule.walk.ruled || is_boxed rule.layout.grid.table)) (stepped (steps.Rule rule.walk.last None) 1 rule) rule
    (other_reached t (suc lines) rows (steps.Rule rule.walk.last None) 1 rule refl (omega (arith, h)) m1) (more_lines (suc (suc lines)) (omega arith) m1) in
    if_reached t (suc (suc (suc lines))) rows (ends && is_double box.layout.grid.table.looks.frame) (stepped (steps.Edge false) 1 box) box
    (other_reached t (suc (suc lines)) rows (steps.Edge false) 1 box refl (omega (arith, h)) m2) (more_lines (suc (suc (suc lines))) (omega arith) m2)

steps_reached : (t : Layout) (ends : Bool) → 4 * length t.grid.table.items.items + 4 ≤ t.steps.capacity
    → Reached t (suc (suc (suc (4 * length t.grid.table.items.items + 1)))) (own_rows t (take (length t.grid.table.items.items) t.grid.table.items.items))
    (steps_taken ends t)
steps_reached t ends room =
    let w : Walking = walk_begun (without_steps t) in
    let all : List Item = t.grid.table.items.items in
    let n : ℕ = length all in
    let first : Reached t 1 [] w.layout = begun_reached t (omega (arith, room)) in
    let count : n ≡ length w.layout.grid.table.items.items = sym (ap (λ (g : Grid). length g.table.items.items) first.grid) in
    let reached : Reached t (4 * n + 1) (own_rows t (take n all)) (in_turn n walked_at w).layout = all_reached t n w (omega arith) room first in
    let last : Reached t (suc (suc (suc (4 * n + 1)))) (own_rows t (take n all)) (walk_ended ends (in_turn n walked_at w)).layout =
    ended_reached t ends (4 * n + 1) (own_rows t (take n all)) (in_turn n walked_at w) (omega (arith, room)) reached in
    subst (λ (k : ℕ). Reached t (suc (suc (suc (4 * n + 1)))) (own_rows t (take n all)) (walk_ended ends (in_turn k walked_at w)).layout) count last

pub rows_go_out : RowsGoOut
rows_go_out t ends room =
    let all : List Item = t.grid.table.items.items in
    (steps_reached t ends room).are ∙ ap (own_rows t) (take_all (length all) all (omega arith))

-- the table stays, and so does the room
pub steps_keep : (t : Layout) (ends : Bool) → 4 * length t.grid.table.items.items + 4 ≤ t.steps.capacity
    → ((steps_taken ends t).grid ≡ t.grid) × ((steps_taken ends t).steps.capacity ≡ t.steps.capacity)
steps_keep t ends room = ((steps_reached t ends room).grid, (steps_reached t ends room).room)
