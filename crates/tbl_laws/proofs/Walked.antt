-- The lines of a table without rules and requests, whose fields have a line each: one for each row.
use Rattle.std.proofs.Common.{◌≡◌, ℕ, zero, suc, ◌+◌, ◌-◌, ◌<◌, ◌≤◌, min, max, List, [], ◌∷◌, ◌++◌, length, Bool, true, false, ◌&&◌, if◌then◌else◌, nat_lt, get_or, refl, sym, ◌∙◌, ap, subst, length-append, arith}
use Rattle.std.specs.Prelude.{Option, None, Some, slice_set}
use Rattle.std.proofs.lemmas.Bool.{lt-ltb}
use Rattle.tbl_columns.specs.declared.grid.Grid.{Grid}
use Rattle.tbl_columns.specs.Held.{placed}
use Rattle.tbl_columns.proofs.Turns.{set_has, turn_has}
use Rattle.tbl_drawing.specs.declared.layout.Layout.{Layout}
use Rattle.tbl_drawing.specs.declared.layout.Step.{Step}
use Rattle.tbl_drawing.specs.declared.layout.StepKind.{StepKind}
use Rattle.tbl_drawing.specs.declared.layout.StepKind.TheVariants as steps
use Rattle.tbl_drawing.specs.declared.layout.Tall.{Tall}
use Rattle.tbl_drawing.specs.Heights.{counts, height_read, heights_read, highest, line_of, line_settled, lines_settled, without_begins, without_talls}
use Rattle.tbl_drawing.specs.Held.{lines_of, tall_of}
use Rattle.tbl_drawing.specs.Steps.{Walking, after_row, beyond_stepped, closed_box, closed_double, closed_rule, ends_with_rule, has_beyond, on_next, on_step, other, released, row_stepped, step_at, stepped, steps_taken, walked, walked_at, walked_item, walked_own_row}
use Rattle.tbl_table.specs.declared.table.Item.{Item}
use Rattle.tbl_table.specs.declared.table.Item.TheVariants as items
use Rattle.tbl_table.specs.Held.{item, plain, row, some_print}
use Rattle.tbl_table.specs.Lists.{added, in_turn}

-- a table without looks of its own, nothing of which went out
abbrev pub bare : Layout → Layout
bare v = record v { grid = record v.grid { table = record v.grid.table { looks = plain } }; begun = false }

-- ---- a line for each of the first rows

abbrev pub steps_to : ℕ → List Step
steps_to zero = []
steps_to (suc k) = (steps_to k ++ step_at (steps.Before k) k ∷ []) ++ step_at (steps.Row k) k ∷ []

pub steps_length : (k : ℕ) → length (steps_to k) ≡ k + k
steps_length zero = refl
steps_length (suc k) =
    let a = length-append (steps_to k) (step_at (steps.Before k) k ∷ []) in
    let b = length-append (steps_to k ++ step_at (steps.Before k) k ∷ []) (step_at (steps.Row k) k ∷ []) in
    let c = steps_length k in
    omega (arith, a, b, c)

-- rows of one line each
abbrev pub AreFlat : List Tall → Type 0
AreFlat ts = (r : ℕ) → lines_of (get_or ts r (tall_of 1)) ≡ 1

-- each row knows its step
abbrev pub talls_on : List Tall → ℕ → List Tall
talls_on ts zero = ts
talls_on ts (suc k) =
    slice_set (talls_on ts k) k (record (get_or (talls_on ts k) k (tall_of 1)) { step = length (steps_to k ++ step_at (steps.Before k) k ∷ []) })

pub flat_on : (ts : List Tall) (k : ℕ) → AreFlat ts → AreFlat (talls_on ts k)
flat_on ts zero h = h
flat_on ts (suc k) h = λ r.
    let was = talls_on ts k in
    set_has (λ (x : Tall). lines_of x ≡ 1) was k (record (get_or was k (tall_of 1)) { step = length (steps_to k ++ step_at (steps.Before k) k ∷ []) }) (tall_of 1) r
    (flat_on ts k h r) (λ e. flat_on ts k h k)

abbrev pub with_steps : Layout → List Step → List Tall → Layout
with_steps v ss ts = record (bare v) { steps = record v.steps { items = ss }; talls = record v.talls { items = ts } }

abbrev walking_with : Layout → List Step → List Tall → Option ℕ → ℕ → ℕ → Walking
walking_with v ss ts last next line = record {
  layout = with_steps v ss ts;
  walk = record { last = last; next = next; ruled = false; opened = 0; line = line; more = 0 };
}

abbrev last_to : ℕ → Option ℕ
last_to zero = None
last_to (suc k) = Some k

abbrev walking_to : Layout → List Tall → ℕ → Walking
walking_to v ts k = walking_with v (steps_to k) (talls_on ts k) (last_to k) k k

-- what stands below one another are rows, and each takes room
pub record HasRows (v : Layout) : Type 0 where
  pub item_is : (k : ℕ) → k < length v.grid.table.items.items → item v.grid.table k ≡ items.Row k
  pub own : (k : ℕ) → k < length v.grid.table.items.items → (placed v.grid k).own ≡ true
  pub none_beyond : (k : ℕ) → k < length v.grid.table.items.items → (row v.grid.table k).«end» - (placed v.grid k).beyond ≡ 0
  pub low : (n : ℕ) → counts v.grid n ≡ 1
  pub room : length v.grid.table.items.items + length v.grid.table.items.items ≤ v.steps.capacity
  pub small : length v.grid.table.items.items < 18446744073709551615

one_step : (v : Layout) (ss : List Step) (ts : List Tall) (last : Option ℕ) (next line lines to : ℕ) (kind : StepKind)
    → length ss < v.steps.capacity → min (line + lines) 18446744073709551615 ≡ to
    → stepped kind lines (walking_with v ss ts last next line) ≡ walking_with v (ss ++ step_at kind line ∷ []) ts last next to
one_step v ss ts last next line lines to kind room is =
    ap (λ (n : ℕ). walking_with v (if nat_lt (length ss) v.steps.capacity then ss ++ step_at kind line ∷ [] else ss) ts last next n) is
    ∙ ap (λ (b : Bool). walking_with v (if b then ss ++ step_at kind line ∷ [] else ss) ts last next to) (lt-ltb _ _ room)

row_walked : (v : Layout) (ts : List Tall) (k : ℕ) → HasRows v → AreFlat ts → k < length v.grid.table.items.items
    → walked_at k (walking_to v ts k) ≡ walking_to v ts (suc k)
row_walked v ts k h flat inside =
    let was = talls_on ts k in
    let before = steps_to k ++ step_at (steps.Before k) k ∷ [] in
    let after = before ++ step_at (steps.Row k) k ∷ [] in
    let on = talls_on ts (suc k) in
    let p = placed v.grid k in
    let long = steps_length k in
    let longer = length-append (steps_to k) (step_at (steps.Before k) k ∷ []) in
    let small = h.small in
    let room = h.room in
    let first = one_step v (steps_to k) was (last_to k) k k 0 k (steps.Before k) (omega (arith, long, room, inside)) (let e : min (k + 0) 18446744073709551615 ≡ k = omega (arith, small, inside) in e) in
    let second = one_step v before on (last_to k) k k 1 (suc k) (steps.Row k) (omega (arith, long, longer, room, inside)) (let e : min (k + 1) 18446744073709551615 ≡ suc k = omega (arith, small, inside) in e) in
    let one : lines_of (get_or on k (tall_of 1)) ≡ 1 = flat_on ts (suc k) flat k in
    let own_row : walked_own_row k (walking_to v ts k) ≡ walking_with v after on (Some k) k (suc k) =
    ap (λ (w : Walking). row_stepped k (on_step k w)) first
    ∙ ap (λ (n : ℕ). after_row k false (stepped (steps.Row k) n (walking_with v before on (last_to k) k k))) one
    ∙ ap (after_row k false) second in
    let none : has_beyond (with_steps v after on) k p ≡ false = ap (λ (n : ℕ). some_print n (with_steps v after on).grid.table p.beyond) (h.none_beyond k inside) in
    let next : min (k + 1) 18446744073709551615 ≡ suc k = omega (arith, small, inside) in
    ap (λ (i : Item). walked_item i (walking_to v ts k)) (h.item_is k inside)
    ∙ ap (λ (b : Bool). on_next k (beyond_stepped k p (if b then walked_own_row k (walking_to v ts k) else stepped (steps.Before k) 0 (walking_to v ts k)))) (h.own k inside)
    ∙ ap (λ (w : Walking). on_next k (beyond_stepped k p w)) own_row
    ∙ ap (λ (b : Bool). on_next k (if b then other (steps.Beyond k) (walking_with v after on (Some k) k (suc k)) else walking_with v after on (Some k) k (suc k))) none
    ∙ ap (λ (n : ℕ). walking_with v after on (Some k) n (suc k)) next

rows_walked : (v : Layout) (ts : List Tall) (k : ℕ) → HasRows v → AreFlat ts → k ≤ length v.grid.table.items.items
    → in_turn k walked_at (walking_to v ts 0) ≡ walking_to v ts k
rows_walked v ts zero h flat few = refl
rows_walked v ts (suc k) h flat few = ap (walked_at k) (rows_walked v ts k h flat (omega (arith, few))) ∙ row_walked v ts k h flat (omega (arith, few))

no_rule : (b : Bool) → (b && false) ≡ false
no_rule true = refl
no_rule false = refl

-- its rows with such heights
abbrev with_talls : Layout → List Tall → Layout
with_talls v ts = record (bare v) { talls = record v.talls { items = ts } }

walked_is : (v : Layout) (ts : List Tall) → HasRows v → AreFlat ts → walked true (with_talls v ts) ≡ walking_to v ts (length v.grid.table.items.items)
walked_is v ts h flat =
    let n = length v.grid.table.items.items in
    let w = walking_to v ts n in
    ap (λ (x : Walking). closed_double true (closed_box true (closed_rule true x))) (rows_walked v ts n h flat (omega arith))
    ∙ ap (λ (b : Bool). closed_double true (closed_box true (if b then released w.walk.last w else w))) (no_rule (ends_with_rule w.layout))

-- ---- heights

low_all : (g : Grid) (k n : ℕ) → ((n : ℕ) → counts g n ≡ 1) → highest k g n 1 ≡ 1
low_all g zero n low = refl
low_all g (suc k) n low = ap (λ (m : ℕ). highest k g (n + 1) (max m 1)) (low n) ∙ low_all g k (n + 1) low

-- only heights are others
record Heights (v x : Layout) : Type 0 where
  same : x ≡ with_talls v x.talls.items
  flat : AreFlat x.talls.items

flat_more : (ts : List Tall) → AreFlat ts → AreFlat (ts ++ tall_of 1 ∷ [])
flat_more [] h zero = refl
flat_more [] h (suc r) = refl
flat_more (t ∷ ts) h zero = h 0
flat_more (t ∷ ts) h (suc r) = flat_more ts (λ k. h (suc k)) r

flat_if : (b : Bool) (ts : List Tall) → AreFlat ts → AreFlat (if b then ts ++ tall_of 1 ∷ [] else ts)
flat_if true ts h = flat_more ts h
flat_if false ts h = h

height_step : (v : Layout) (r : ℕ) (x : Layout) → HasRows v → Heights v x → Heights v (height_read r x)
height_step v r x h k =
    let xs = x.talls.items in
    let p = placed v.grid r in
    let low : highest (p.cells_end - p.cells) (bare v).grid p.cells 1 ≡ 1 = low_all (bare v).grid (p.cells_end - p.cells) p.cells h.low in
    let is : height_read r x ≡ with_talls v (if nat_lt (length xs) v.talls.capacity then xs ++ tall_of 1 ∷ [] else xs) =
    ap (height_read r) k.same
    ∙ ap (λ (m : ℕ). record (with_talls v xs) { talls = added (tall_of m) (record v.talls { items = xs }) }) low in
    subst (Heights v) (sym is) (record { same = refl; flat = flat_if (nat_lt (length xs) v.talls.capacity) xs k.flat })

heights_are : (v : Layout) → HasRows v → Heights v (heights_read (bare v))
heights_are v h =
    turn_has (Heights v) height_read (λ n x k. height_step v n x h k) (length v.grid.placed.items) (without_talls (bare v))
    (record { same = refl; flat = λ r. refl })

-- ---- the lines on which fields begin

pub begins_alone : (l : Layout) → lines_settled l ≡ record l { begins = (lines_settled l).begins }
begins_alone l =
    turn_has (λ (x : Layout). x ≡ record l { begins = x.begins }) line_settled
    (λ n x h. ap (λ (y : Layout). record y { begins = added (line_of x n) x.begins }) h)
    (length l.grid.cells.items) (without_begins l) refl

-- the lines of the table
pub record HasLines (v x : Layout) : Type 0 where
  pub talls : List Tall
  pub flat : AreFlat talls
  pub same : x ≡ with_steps v (steps_to (length v.grid.table.items.items)) talls

pub lines_are : (v : Layout) → HasRows v → HasLines v (steps_taken true (heights_read (bare v)))
lines_are v h =
    let heights = heights_are v h in
    let ts = (heights_read (bare v)).talls.items in
    let n = length v.grid.table.items.items in
    record {
      talls = talls_on ts n;
      flat = flat_on ts n heights.flat;
      same = ap (steps_taken true) heights.same ∙ ap (λ (w : Walking). w.layout) (walked_is v ts h heights.flat);
    }
