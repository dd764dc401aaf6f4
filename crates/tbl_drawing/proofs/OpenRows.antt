-- Between its first row and its last a field that goes on stands beside each line.
use Rattle.std.specs.Prelude.{◌⊎◌}
use Rattle.std.proofs.Common.{◌≡◌, ◌≢◌, ℕ, zero, suc, ◌+◌, ◌<◌, ◌≤◌, true, false, ◌==◌, ◌&&◌, not, nat_lt, List, [], ◌∷◌, ◌++◌, length, get_or, Option, None, Some, refl, sym, ap, subst, arith, ◌∙◌, inl, inr}
use Rattle.nr_vectors.specs.Items.{Items}
use Rattle.tbl_columns.specs.declared.grid.Cell.{Cell}
use Rattle.tbl_columns.specs.declared.grid.Grid.{Grid}
use Rattle.tbl_columns.specs.declared.grid.Placed.{Placed}
use Rattle.tbl_columns.specs.Frames.{has_bars, is_covered}
use Rattle.tbl_columns.specs.Held.{cell, cell_number, cell_of, columns, placed}
use Rattle.tbl_columns.proofs.Turns.{if_true, set_same}
use Rattle.tbl_drawing.specs.declared.layout.Layout.{Layout}
use Rattle.tbl_drawing.specs.declared.layout.Step.{Step}
use Rattle.tbl_drawing.specs.declared.layout.StepKind.{StepKind}
use Rattle.tbl_drawing.specs.declared.layout.StepKind.TheVariants as steps
use Rattle.tbl_drawing.specs.declared.layout.Tall.{Tall}
use Rattle.tbl_drawing.specs.Held.{lines_of, tall, tall_of}
use Rattle.tbl_drawing.specs.Steps.{Walking, asked, asked_in, beyond_stepped, has_beyond, on_next, on_step, opened_in, other, released, released_beside, row_beside, row_in, row_stepped, ruled, some_covered, space_in, step_at, stepped, walked_own_row, walked_request, walked_row, walked_rule}
use Rattle.tbl_drawing.proofs.Below.{below_is, by_cases, equal_or}
use Rattle.tbl_drawing.proofs.Once.{height, ss_of}
use Rattle.tbl_table.specs.declared.table.Span.{Span}
use Rattle.tbl_table.specs.Sums.{sum}
use Rattle.tbl_drawing.proofs.OverRows.{Begun, Covered, FoundAt, IsClosed, Over, Room, begun_more, begun_now, beside, both, covered_more, differ_is, either_left, either_right, equal_is, found_more, over_rule, released_room, stepped_is, stepped_room}

-- ---- between its first row and its last

pub record Open (t : Layout) (n a : ℕ) (w : Walking) : Type 0 where
  pub from : ℕ
  pub begun : Begun (ss_of w) (cell_of t.grid n).top from
  pub least : from ≤ w.walk.line
  pub small : w.walk.line ≤ 18446744073709551615
  pub last : ℕ
  pub is_last : w.walk.last ≡ Some last
  pub low : (cell_of t.grid n).top ≤ last
  pub high : last < a
  pub next : w.walk.next ≡ a
  pub over : a ≤ (cell_of t.grid n).bottom
  pub grid : w.layout.grid ≡ t.grid
  pub covered : Covered t (ss_of w) n from w.walk.line

open_step : (t : Layout) (n a : ℕ) (kind : StepKind) (lines m : ℕ) (w : Walking) → Room (suc m) w
    → (0 < lines → beside t.grid kind n (cell_of t.grid n).first ≡ true) → (0 < lines → height t kind ≡ lines)
    → Open t n a w → Open t n a (stepped kind lines w)
open_step t n a kind lines m w room stands high o =
    let ss : List Step = ss_of w in
    let new : List Step = ss_of (stepped kind lines w) in
    let is : new ≡ ss ++ step_at kind w.walk.line ∷ [] = stepped_is kind lines m w room in
    record {
      from = o.from;
      begun = begun_more ss new (step_at kind w.walk.line) (cell_of t.grid n).top o.from is o.begun;
      least = omega (arith, o.least, o.small);
      small = omega arith;
      last = o.last;
      is_last = o.is_last;
      low = o.low;
      high = o.high;
      next = o.next;
      over = o.over;
      grid = o.grid;
      covered = covered_more t ss new kind n o.from w.walk.line lines is stands high o.covered;
    }

-- one that has no lines
open_none : (t : Layout) (n a : ℕ) (kind : StepKind) (m : ℕ) (w : Walking) → Room (suc m) w → Open t n a w → Open t n a (stepped kind 0 w)
open_none t n a kind m w room o =
    open_step t n a kind 0 m w room (λ some. absurd (let no : ⊥ = omega (arith, some) in no)) (λ some. absurd (let no : ⊥ = omega (arith, some) in no)) o

rule_beside : (g : Grid) (n last b : ℕ) → Over g n → last < b → (cell_of g n).top < b → b ≤ (cell_of g n).bottom
    → is_covered g (Some last) (Some b) (cell_of g n).first ≡ true
rule_beside g n last b h less low high =
    let c : ℕ = (cell_of g n).first in
    let here : cell_number g b c ≡ n = h.stands b (omega (arith, low)) high in
    let top : (cell g b c).top ≡ (cell_of g n).top = ap (λ (k : ℕ). (cell_of g k).top) here in
    both (not (last == b)) (nat_lt (cell g b c).top b) (differ_is last b (λ e. omega (arith, less, e)))
    (below_is (cell g b c).top b (omega (arith, top, low)))

over_is : (g : Grid) (n last b : ℕ) → Over g n → last < b → (cell_of g n).top < b → b ≤ (cell_of g n).bottom
    → over_rule g (Some last) (Some b) n (cell_of g n).first ≡ true
over_is g n last b h less low high =
    both (is_covered g (Some last) (Some b) (cell_of g n).first) (cell_number g b (cell_of g n).first == n) (rule_beside g n last b h less low high)
    (equal_is (cell_number g b (cell_of g n).first) n (h.stands b (omega (arith, low)) high))

open_released : (t : Layout) (n a b m : ℕ) (w : Walking) → Over t.grid n → Room (suc m) w → a ≤ b → b ≤ (cell_of t.grid n).bottom → Open t n a w
    → Open t n a (released (Some b) w)
open_released t n a b m w h room least most o =
    by_cases (Open t n a) w.walk.ruled (stepped (steps.Rule w.walk.last (Some b)) 1 w) w
    (λ e. open_step t n a (steps.Rule w.walk.last (Some b)) 1 m w room
    (λ some. ap (λ (x : Option ℕ). over_rule t.grid x (Some b) n (cell_of t.grid n).first) o.is_last
    ∙ over_is t.grid n o.last b h (omega (arith, o.high, least)) (omega (arith, o.low, o.high, least)) most)
    (λ some. refl) o)
    (λ e. o)

some_has : (m : ℕ) (l : Layout) (above below : Option ℕ) (c d : ℕ) → c ≤ d → d < c + m → is_covered l.grid above below d ≡ true
    → some_covered m l above below c ≡ true
some_has zero l above below c d low high h = absurd (let no : ⊥ = omega (arith, low, high) in no)
some_has (suc m) l above below c d low high h =
    elim (equal_or d c) [
      | inl same ↦ either_left (is_covered l.grid above below c) (some_covered m l above below (c + 1))
          (ap (is_covered l.grid above below) (sym same) ∙ h)
      | inr ne ↦ either_right (is_covered l.grid above below c) (some_covered m l above below (c + 1))
          (some_has m l above below (c + 1) d (let further : c ≢ d = λ e. ne (sym e) in omega (arith, low, further)) (omega (arith, high)) h)
    ]

beside_is : (t : Layout) (n a : ℕ) (w : Walking) → Over t.grid n → Open t n a w → row_beside w.layout w.walk ≡ Some a
beside_is t n a w h o =
    let l : Layout = w.layout in
    let g : Over l.grid n = subst (λ (x : Grid). Over x n) (sym o.grid) h in
    let same : cell_of l.grid n ≡ cell_of t.grid n = ap (λ (x : Grid). cell_of x n) o.grid in
    let top : (cell_of l.grid n).top ≡ (cell_of t.grid n).top = ap (λ (x : Cell). x.top) same in
    let bottom : (cell_of l.grid n).bottom ≡ (cell_of t.grid n).bottom = ap (λ (x : Cell). x.bottom) same in
    let cover : is_covered l.grid (Some o.last) (Some a) (cell_of l.grid n).first ≡ true =
    rule_beside l.grid n o.last a g o.high (omega (arith, o.low, o.high, top)) (omega (arith, o.over, bottom)) in
    let found : some_covered (columns l.grid) l (Some o.last) (Some a) 0 ≡ true =
    some_has (columns l.grid) l (Some o.last) (Some a) 0 (cell_of l.grid n).first (omega arith) (omega (arith, g.first)) cover in
    let as_walked : some_covered (columns l.grid) l w.walk.last (Some w.walk.next) 0 ≡ true =
    ap (λ (x : Option ℕ). some_covered (columns l.grid) l x (Some w.walk.next) 0) o.is_last
    ∙ ap (λ (k : ℕ). some_covered (columns l.grid) l (Some o.last) (Some k) 0) o.next ∙ found in
    if_true (nat_lt w.walk.next (length l.grid.table.rows.items) && some_covered (columns l.grid) l w.walk.last (Some w.walk.next) 0)
    (Some w.walk.next) w.walk.last
    (both (nat_lt w.walk.next (length l.grid.table.rows.items)) (some_covered (columns l.grid) l w.walk.last (Some w.walk.next) 0)
    (below_is w.walk.next (length l.grid.table.rows.items) (omega (arith, o.next, o.over, bottom, g.inside))) as_walked)
    ∙ ap (λ (k : ℕ). Some k) o.next

open_beside : (t : Layout) (n a m : ℕ) (w : Walking) → Over t.grid n → Room (suc m) w → Open t n a w → Open t n a (released_beside w)
open_beside t n a m w h room o =
    subst (λ (x : Option ℕ). Open t n a (released x w)) (sym (beside_is t n a w h o)) (open_released t n a a m w h room (omega arith) o.over o)

-- the walk is another, on the same line, after the same row
open_as : (t : Layout) (n a : ℕ) (w v : Walking) → v.layout ≡ w.layout → v.walk.line ≡ w.walk.line → v.walk.last ≡ w.walk.last
    → v.walk.next ≡ w.walk.next → Open t n a w → Open t n a v
open_as t n a w v layout line last next o = record {
  from = o.from;
  begun = subst (λ (x : Layout). Begun x.steps.items (cell_of t.grid n).top o.from) (sym layout) o.begun;
  least = omega (arith, o.least, line);
  small = omega (arith, o.small, line);
  last = o.last;
  is_last = last ∙ o.is_last;
  low = o.low;
  high = o.high;
  next = next ∙ o.next;
  over = o.over;
  grid = ap (λ (x : Layout). x.grid) layout ∙ o.grid;
  covered = λ i low less.
      subst (λ (x : Layout). FoundAt t x.steps.items n i) (sym layout) (o.covered i low (omega (arith, less, line)));
}

open_barred : (t : Layout) (n a last lines : ℕ) (w : Walking) → Over t.grid n → Room 2 w → (o : Open t n a w) → last ≡ o.last
    → Open t n a (stepped (steps.Bars last lines) lines (ruled false (released_beside w)))
open_barred t n a last lines w h room o same =
    let v : Walking = released_beside w in
    let c : ℕ = (cell_of t.grid n).first in
    let u : Open t n a (ruled false v) = open_as t n a v (ruled false v) refl refl refl refl (open_beside t n a 1 w h room o) in
    open_step t n a (steps.Bars last lines) lines 0 (ruled false v) (released_room (row_beside w.layout w.walk) 1 w room)
    (λ some. both (nat_lt 0 lines) (cell_number t.grid last c == n) (below_is 0 lines some)
    (equal_is (cell_number t.grid last c) n (h.stands last (omega (arith, same, o.low)) (omega (arith, same, o.high, o.over)))))
    (λ some. refl) u

open_asked : (t : Layout) (n a : ℕ) (space last : Option ℕ) (s : Span) (w : Walking) → Over t.grid n → Room 2 w → (o : Open t n a w)
    → last ≡ Some o.last → Open t n a (asked space (row_in w.layout space last) s w)
open_asked t n a None last s w h room o e =
    let v : Walking = stepped (steps.Request s) 0 w in
    open_as t n a v (other (steps.Request s) w) refl refl refl refl (open_none t n a (steps.Request s) 1 w room o)
open_asked t n a (Some lines) last s w h room o e =
    let v : Walking = stepped (steps.Request s) 0 w in
    subst (λ (x : Option ℕ). Open t n a (asked (Some lines) (row_in w.layout (Some lines) x) s w)) (sym e)
    (by_cases (λ (x : Option ℕ). Open t n a (asked (Some lines) x s w)) (has_bars w.layout.grid o.last) (Some o.last) None
    (λ f. open_barred t n a o.last lines w h room o refl)
    (λ f. open_as t n a v (other (steps.Request s) w) refl refl refl refl (open_none t n a (steps.Request s) 1 w room o)))

pub open_request : (t : Layout) (n a : ℕ) (s : Span) (w : Walking) → Over t.grid n → Room 2 w → Open t n a w → Open t n a (walked_request s w)
open_request t n a s w h room o =
    let v : Walking = asked_in (space_in w.layout w.walk s) s w in
    open_as t n a v (opened_in s v) refl refl refl refl (open_asked t n a (space_in w.layout w.walk s) w.walk.last s w h room o o.is_last)

pub open_rule : (t : Layout) (n a : ℕ) (w : Walking) → Over t.grid n → Room 1 w → Open t n a w → Open t n a (walked_rule w)
open_rule t n a w h room o =
    let v : Walking = released_beside w in
    open_as t n a v (ruled true v) refl refl refl refl (open_beside t n a 0 w h room o)

-- ---- a row

abbrev pub Phase : Layout → ℕ → ℕ → Walking → Type 0
Phase t n a w = (a ≤ (cell_of t.grid n).top) ⊎ (Open t n a w ⊎ IsClosed t n w)

-- its step is there
record Rowed (t : Layout) (n a : ℕ) (w : Walking) : Type 0 where
  from : ℕ
  line : ℕ
  begun : Begun (ss_of w) (cell_of t.grid n).top from
  ended : Begun (ss_of w) a line
  order : from ≤ line
  small : line ≤ 18446744073709551615
  last : w.walk.last ≡ Some a
  grid : w.layout.grid ≡ t.grid
  to : w.walk.line ≡ sum line (lines_of (tall t a))
  covered : Covered t (ss_of w) n from w.walk.line

next_is : (a b : ℕ) → a < b → b < 18446744073709551615 → sum a 1 ≡ a + 1
next_is a b less small = omega (arith, less, small)

rowed_more : (t : Layout) (n a m : ℕ) (kind : StepKind) (w : Walking) → Room (suc m) w → Rowed t n a w → Rowed t n a (other kind w)
rowed_more t n a m kind w room r =
    let ss : List Step = ss_of w in
    let v : Walking = stepped kind 0 w in
    let is : ss_of v ≡ ss ++ step_at kind w.walk.line ∷ [] = stepped_is kind 0 m w room in
    record {
      from = r.from;
      line = r.line;
      begun = begun_more ss (ss_of v) (step_at kind w.walk.line) (cell_of t.grid n).top r.from is r.begun;
      ended = begun_more ss (ss_of v) (step_at kind w.walk.line) a r.line is r.ended;
      order = r.order;
      small = r.small;
      last = r.last;
      grid = r.grid;
      to = omega (arith, r.to);
      covered = λ o low less. found_more t ss (ss_of v) (step_at kind w.walk.line) n o is (r.covered o low (omega (arith, less, r.to)));
    }

-- the next row is another, or the field ends
rowed_phase : (t : Layout) (n a : ℕ) (w : Walking) → Over t.grid n → (cell_of t.grid n).top ≤ a → a ≤ (cell_of t.grid n).bottom → Rowed t n a w
    → Phase t n (suc a) (on_next a w)
rowed_phase t n a w h low high r =
    elim (equal_or a (cell_of t.grid n).bottom) [
      | inl last ↦ inr (inr (record {
        from = r.from;
        low = r.line;
        begun = r.begun;
        ended = subst (λ (k : ℕ). Begun (ss_of w) k r.line) last r.ended;
        order = r.order;
        covered = λ o from to.
            r.covered o from (let same : lines_of (tall t a) ≡ lines_of (tall t (cell_of t.grid n).bottom) = ap (λ (k : ℕ). lines_of (tall t k)) last in
            omega (arith, to, r.to, same));
      }))
      | inr ne ↦ inr (inl (record {
        from = r.from;
        begun = r.begun;
        least = omega (arith, r.order, r.to, r.small);
        small = omega (arith, r.to);
        last = a;
        is_last = r.last;
        low = low;
        high = omega arith;
        next = omega (arith, ne, high, h.small);
        over = omega (arith, ne, high);
        grid = r.grid;
        covered = r.covered;
      }))
    ]

beyond_rowed : (t : Layout) (n a : ℕ) (p : Placed) (w : Walking) → Room 1 w → Rowed t n a w → Rowed t n a (beyond_stepped a p w)
beyond_rowed t n a p w room r =
    by_cases (Rowed t n a) (has_beyond w.layout a p) (other (steps.Beyond a) w) w (λ e. rowed_more t n a 0 (steps.Beyond a) w room r) (λ e. r)

beyond_open : (t : Layout) (n a : ℕ) (p : Placed) (w : Walking) → Room 1 w → Open t n a w → Open t n a (beyond_stepped a p w)
beyond_open t n a p w room o =
    by_cases (Open t n a) (has_beyond w.layout a p) (other (steps.Beyond a) w) w
    (λ e. open_as t n a (stepped (steps.Beyond a) 0 w) (other (steps.Beyond a) w) refl refl refl refl (open_none t n a (steps.Beyond a) 0 w room o))
    (λ e. o)

-- what stands before its step
record Ahead (t : Layout) (n a : ℕ) (w : Walking) : Type 0 where
  from : ℕ
  begun : (a ≢ (cell_of t.grid n).top) → Begun (ss_of w) (cell_of t.grid n).top from
  begins : (a ≡ (cell_of t.grid n).top) → from ≡ w.walk.line
  order : from ≤ w.walk.line
  small : w.walk.line ≤ 18446744073709551615
  grid : w.layout.grid ≡ t.grid
  lines : lines_of (tall w.layout a) ≡ lines_of (tall t a)
  covered : Covered t (ss_of w) n from w.walk.line

step_rowed : (t : Layout) (n a m : ℕ) (w : Walking) → Over t.grid n → (cell_of t.grid n).top ≤ a → a ≤ (cell_of t.grid n).bottom → Room (suc m) w
    → Ahead t n a w → Rowed t n a (row_stepped a (on_step a w))
step_rowed t n a m w h low high room o =
    let v : Walking = on_step a w in
    let ss : List Step = ss_of w in
    let line : ℕ = w.walk.line in
    let k : ℕ = lines_of (tall v.layout a) in
    let u : Walking = stepped (steps.Row a) k v in
    let x : Tall = record (tall w.layout a) { step = length w.layout.steps.items } in
    let many : k ≡ lines_of (tall t a) =
    set_same (λ (y : Tall). lines_of y) w.layout.talls.items a x (tall_of 1) refl a ∙ o.lines in
    let is : ss_of u ≡ ss ++ step_at (steps.Row a) line ∷ [] = stepped_is (steps.Row a) k m v room in
    record {
      from = o.from;
      line = line;
      begun = elim (equal_or a (cell_of t.grid n).top) [
        | inl same ↦ subst (λ (r : ℕ). Begun (ss_of u) r o.from) same
            (subst (λ (i : ℕ). Begun (ss_of u) a i) (sym (o.begins same)) (begun_now ss (ss_of u) a line is))
        | inr ne ↦ begun_more ss (ss_of u) (step_at (steps.Row a) line) (cell_of t.grid n).top o.from is (o.begun ne)
      ];
      ended = begun_now ss (ss_of u) a line is;
      order = o.order;
      small = o.small;
      last = refl;
      grid = o.grid;
      to = ap (λ (i : ℕ). sum line i) many;
      covered =
          covered_more t ss (ss_of u) (steps.Row a) n o.from line k is
          (λ some. equal_is (cell_number t.grid a (cell_of t.grid n).first) n (h.stands a low high)) (λ some. sym many) o.covered;
    }

-- in its first row
first_ahead : (t : Layout) (n a : ℕ) (w : Walking) → a ≡ (cell_of t.grid n).top → w.layout.grid ≡ t.grid → lines_of (tall w.layout a) ≡ lines_of (tall t a)
    → w.walk.line ≤ 18446744073709551615 → Ahead t n a w
first_ahead t n a w e grid lines small = record {
  from = w.walk.line;
  begun = λ ne. absurd (ne e);
  begins = λ same. refl;
  order = omega arith;
  small = small;
  grid = grid;
  lines = lines;
  covered = λ o low less. absurd (let no : ⊥ = omega (arith, low, less) in no);
}

later_ahead : (t : Layout) (n a : ℕ) (w : Walking) → lines_of (tall w.layout a) ≡ lines_of (tall t a) → Open t n a w → Ahead t n a w
later_ahead t n a w lines o = record {
  from = o.from;
  begun = λ ne. o.begun;
  begins = λ e. absurd (let no : ⊥ = omega (arith, e, o.low, o.high) in no);
  order = o.least;
  small = o.small;
  grid = o.grid;
  lines = lines;
  covered = o.covered;
}

released_as : (below : Option ℕ) (w : Walking) → (released below w).layout.grid ≡ w.layout.grid
released_as below w =
    by_cases (λ (x : Walking). x.layout.grid ≡ w.layout.grid) w.walk.ruled (stepped (steps.Rule w.walk.last below) 1 w) w (λ e. refl) (λ e. refl)

released_talls : (below : Option ℕ) (w : Walking) → (released below w).layout.talls ≡ w.layout.talls
released_talls below w =
    by_cases (λ (x : Walking). x.layout.talls ≡ w.layout.talls) w.walk.ruled (stepped (steps.Rule w.walk.last below) 1 w) w (λ e. refl) (λ e. refl)

released_small : (below : Option ℕ) (w : Walking) → w.walk.line ≤ 18446744073709551615 → (released below w).walk.line ≤ 18446744073709551615
released_small below w h =
    by_cases (λ (x : Walking). x.walk.line ≤ 18446744073709551615) w.walk.ruled (stepped (steps.Rule w.walk.last below) 1 w) w (λ e. omega arith) (λ e. h)

-- a row in which the field stands
pub row_phase : (t : Layout) (n a : ℕ) (w : Walking) → Over t.grid n → w.layout.grid ≡ t.grid → ((r : ℕ) → lines_of (tall w.layout r) ≡ lines_of (tall t r))
    → Room 4 w → ((a ≡ (cell_of t.grid n).top) ⊎ Open t n a w) → Phase t n (suc a) (walked_row a w)
row_phase t n a w h grid lines room at_row =
    let p : Placed = placed w.layout.grid a in
    let v : Walking = stepped (steps.Before a) 0 w in
    let u : Walking = released (Some a) v in
    let v_room : Room 3 v = stepped_room (steps.Before a) 0 3 w room in
    let u_room : Room 2 u = released_room (Some a) 2 v v_room in
    let u_lines : lines_of (tall u.layout a) ≡ lines_of (tall t a) =
    ap (λ (ts : Items Tall). lines_of (get_or ts.items a (tall_of 1))) (released_talls (Some a) v) ∙ lines a in
    let z : Walking = row_stepped a (on_step a u) in
    let x : Walking = on_step a u in
    let z_room : Room 1 z = stepped_room (steps.Row a) (lines_of (tall x.layout a)) 1 x u_room in
    let own_is : p.own ≡ (placed t.grid a).own = ap (λ (g : Grid). (placed g a).own) grid in
    let done : Ahead t n a u → (cell_of t.grid n).top ≤ a → a ≤ (cell_of t.grid n).bottom → Phase t n (suc a) (on_next a (beyond_stepped a p z)) =
    λ ahead low high.
    rowed_phase t n a (beyond_stepped a p z) h low high (beyond_rowed t n a p z z_room (step_rowed t n a 1 u h low high u_room ahead)) in
    elim at_row [
      | inl same ↦
          by_cases (λ (y : Walking). Phase t n (suc a) (on_next a (beyond_stepped a p y))) p.own (walked_own_row a w) v
          (λ e. done (first_ahead t n a u same (released_as (Some a) v ∙ grid) u_lines (released_small (Some a) v (omega arith)))
          (omega (arith, same)) (omega (arith, same, h.order)))
          (λ e. absurd (no (sym e ∙ own_is ∙ ap (λ (k : ℕ). (placed t.grid k).own) same ∙ h.begins)))
      | inr o ↦
          (let v_open : Open t n a v = open_none t n a (steps.Before a) 3 w room o in
          by_cases (λ (y : Walking). Phase t n (suc a) (on_next a (beyond_stepped a p y))) p.own (walked_own_row a w) v
          (λ e. done (later_ahead t n a u u_lines (open_released t n a a 2 v h v_room (omega arith) o.over v_open))
          (omega (arith, o.low, o.high)) o.over)
          (λ e.
          let further : a ≢ (cell_of t.grid n).bottom = λ same. no (sym e ∙ own_is ∙ ap (λ (k : ℕ). (placed t.grid k).own) same ∙ h.own) in
          let more : Open t n a (beyond_stepped a p v) = beyond_open t n a p v (omega (arith, v_room)) v_open in
          inr (inl (record {
            from = more.from;
            begun = more.begun;
            least = more.least;
            small = more.small;
            last = more.last;
            is_last = more.is_last;
            low = more.low;
            high = omega (arith, more.high);
            next = omega (arith, more.over, h.small);
            over = omega (arith, more.over, further);
            grid = more.grid;
            covered = more.covered;
          }))))
    ]
  where
    no : false ≡ true → ⊥
    no e = cc
