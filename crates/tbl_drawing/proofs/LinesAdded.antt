-- Where rows get more lines, each row stands further down by as many as the rows above it got.
use Rattle.std.proofs.Common.{◌≡◌, ℕ, zero, suc, ◌+◌, ◌*◌, ◌<◌, ◌≤◌, Bool, true, false, ◌&&◌, ◌||◌, not, List, length, get_or, None, Some, refl, sym, ap, subst, arith, ◌∙◌, if◌then◌else◌}
use Rattle.tbl_columns.specs.declared.grid.Grid.{Grid}
use Rattle.tbl_columns.specs.declared.grid.Placed.{Placed}
use Rattle.tbl_columns.specs.Held.{placed}
use Rattle.tbl_columns.proofs.Turns.{set_same}
use Rattle.tbl_drawing.specs.declared.layout.Layout.{Layout}
use Rattle.tbl_drawing.specs.declared.layout.Step.{Step}
use Rattle.tbl_drawing.specs.declared.layout.StepKind.{StepKind}
use Rattle.tbl_drawing.specs.declared.layout.StepKind.TheVariants as steps
use Rattle.tbl_drawing.specs.declared.layout.Tall.{Tall}
use Rattle.tbl_drawing.specs.Held.{lines_of, tall, tall_of}
use Rattle.tbl_drawing.specs.Laws.{IsRead}
use Rattle.tbl_drawing.specs.Steps.{Walking, beyond_stepped, closed_box, closed_rule, closes_rule, has_beyond, on_step, other, released, released_beside, row_line, row_stepped, step_at, stepped, steps_taken, walk_begun, walk_ended, walked, walked_at, walked_item, walked_line, walked_own_row, walked_row, walking_on, without_steps}
use Rattle.tbl_drawing.proofs.Once.{Drawn, IsPlaced, Reached, all_reached, at, begun_reached, ss_of, steps_reached}
use Rattle.tbl_table.specs.declared.table.Item.{Item}
use Rattle.tbl_table.specs.declared.table.Item.TheVariants as items
use Rattle.tbl_table.specs.Held.{is_boxed, is_double, item, none_of}
use Rattle.tbl_table.specs.Lists.{added, in_turn, put}
use Rattle.tbl_table.specs.Sums.{sum}
use Rattle.tbl_drawing.proofs.Prefixes.{Prefix, prefix_other, prefix_row, row_is}
use Rattle.tbl_drawing.proofs.OverRows.{Room, released_room, stepped_room}
use Rattle.tbl_drawing.proofs.Locks.{Lock, Locked, above_next, above_none, both_beside, both_other, both_released, both_request, both_ruled, both_step, if_locked, itself, lock_step, lower, more_above, relock}

-- ---- a row

both_on_step : (u : Layout) (a n : ℕ) (v w : Walking) → Locked u a v w → Locked u a (on_step n v) (on_step n w)
both_on_step u a n v w l =
    let k : Lock u a w l.talls l.ss l.down = l.lock in
    let x : Tall = record (get_or l.talls.items n (tall_of 1)) { step = length l.ss.items } in
    let y : Tall = record (tall w.layout n) { step = length (ss_of w) } in
    record {
      talls = put n x l.talls;
      ss = l.ss;
      down = l.down;
      is = ap (on_step n) l.is;
      lock = record {
        room = k.room;
        count = k.count;
        line = k.line;
        lines = λ r.
            set_same (λ (z : Tall). lines_of z) l.talls.items n x (tall_of 1) refl r ∙ k.lines r
            ∙ ap (λ (h : ℕ). sum h (tall u r).more) (sym (set_same (λ (z : Tall). lines_of z) w.layout.talls.items n y (tall_of 1) refl r));
        kinds = k.kinds;
        rows = k.rows;
      };
    }

row_same : (n r : ℕ) → steps.Row n ≡ steps.Row r → n ≡ r
row_same n r e = ap number e
  where
    number : StepKind → ℕ
    number (steps.Row r) = r
    number kind = 0

both_row_step : (u : Layout) (a m : ℕ) (v w : Walking) → Room (suc m) w → Locked u a v w → Locked u (suc a) (row_stepped a v) (row_stepped a w)
both_row_step u a m v w room l =
    let k : Lock u a w l.talls l.ss l.down = l.lock in
    let lines : ℕ = lines_of (tall w.layout a) in
    let more : ℕ = lines_of (get_or l.talls.items a (tall_of 1)) in
    let x : Walking = stepped (steps.Row a) lines w in
    let line : sum l.down more ≡ sum (sum w.walk.line lines) (more_above u (suc a)) = omega (arith, k.line, k.lines a, above_next u a) in
    record {
      talls = l.talls;
      ss = added (step_at (steps.Row a) l.down) l.ss;
      down = sum l.down more;
      is = ap (row_stepped a) l.is;
      lock =
          relock u (suc a) x (row_stepped a w).walk l.talls (added (step_at (steps.Row a) l.down) l.ss) (sum l.down more) refl
          (lock_step u a (suc a) (steps.Row a) lines more m w l.talls l.ss l.down room line
          (λ r e. k.line ∙ ap (λ (n : ℕ). sum w.walk.line (more_above u n)) (row_same a r e)) k);
    }

-- a row that takes no room got no lines
none_locked : (u : Layout) (a : ℕ) (v w : Walking) → (tall u a).more ≡ 0 → Locked u a v w → Locked u (suc a) v w
none_locked u a v w e l =
    let k : Lock u a w l.talls l.ss l.down = l.lock in
    record {
      talls = l.talls;
      ss = l.ss;
      down = l.down;
      is = l.is;
      lock = record {
        room = k.room;
        count = k.count;
        line = omega (arith, k.line, above_next u a, e);
        lines = k.lines;
        kinds = k.kinds;
        rows = k.rows;
      };
    }

both_line : (u : Layout) (a : ℕ) (p : Placed) (v w : Walking) → (p.own ≡ false → (tall u a).more ≡ 0) → Room 4 w → Locked u a v w
    → Locked u (suc a) (walked_line p a v) (walked_line p a w)
both_line u a p v w quiet room l = choose p.own refl
  where
    before : Locked u a (stepped (steps.Before a) 0 v) (stepped (steps.Before a) 0 w)
    before = both_step u a (steps.Before a) 0 3 v w room (λ r e. cc) l

    room_before : Room 3 (stepped (steps.Before a) 0 w)
    room_before = stepped_room (steps.Before a) 0 3 w room

    choose : (b : Bool) → p.own ≡ b
        → Locked u (suc a) (if b then walked_own_row a v else stepped (steps.Before a) 0 v) (if b then walked_own_row a w else stepped (steps.Before a) 0 w)
    choose true e =
        let x : Walking = released (Some a) (stepped (steps.Before a) 0 v) in
        let y : Walking = released (Some a) (stepped (steps.Before a) 0 w) in
        both_row_step u a 1 (on_step a x) (on_step a y) (released_room (Some a) 2 (stepped (steps.Before a) 0 w) room_before)
        (both_on_step u a a x y (both_released u a (Some a) 2 (stepped (steps.Before a) 0 v) (stepped (steps.Before a) 0 w) room_before before))
    choose false e = none_locked u a (stepped (steps.Before a) 0 v) (stepped (steps.Before a) 0 w) (quiet e) before

line_room : (p : Placed) (a : ℕ) (w : Walking) → Room 4 w → Room 1 (walked_line p a w)
line_room p a w room = choose p.own
  where
    room_before : Room 3 (stepped (steps.Before a) 0 w)
    room_before = stepped_room (steps.Before a) 0 3 w room

    choose : (b : Bool) → Room 1 (if b then walked_own_row a w else stepped (steps.Before a) 0 w)
    choose true =
        let y : Walking = on_step a (released (Some a) (stepped (steps.Before a) 0 w)) in
        stepped_room (steps.Row a) (lines_of (tall y.layout a)) 1 y (released_room (Some a) 2 (stepped (steps.Before a) 0 w) room_before)
    choose false = omega (arith, room_before)

both_beyond : (u : Layout) (a n : ℕ) (p : Placed) (v w : Walking) → Room 1 w → Locked u a v w → Locked u a (beyond_stepped n p v) (beyond_stepped n p w)
both_beyond u a n p v w room l =
    let x : Walking = lower w l.talls l.ss l.down in
    let i : Locked u a x w = itself u a w l.talls l.ss l.down l.lock in
    subst (λ (y : Walking). Locked u a (beyond_stepped n p y) (beyond_stepped n p w)) (sym l.is)
    (if_locked u a (has_beyond w.layout n p) (other (steps.Beyond n) x) x (other (steps.Beyond n) w) w
    (both_other u a (steps.Beyond n) 0 x w room (λ r e. cc) i) i)

both_row : (u : Layout) (a : ℕ) (v w : Walking) → ((placed w.layout.grid a).own ≡ false → (tall u a).more ≡ 0) → Room 4 w → Locked u a v w
    → Locked u (suc a) (walked_row a v) (walked_row a w)
both_row u a v w quiet room l =
    let x : Walking = lower w l.talls l.ss l.down in
    let i : Locked u a x w = itself u a w l.talls l.ss l.down l.lock in
    let p : Placed = placed w.layout.grid a in
    let y : Walking = beyond_stepped a p (walked_line p a x) in
    let z : Walking = beyond_stepped a p (walked_line p a w) in
    let k : Locked u (suc a) y z =
    both_beyond u (suc a) a p (walked_line p a x) (walked_line p a w) (line_room p a w room) (both_line u a p x w quiet room i) in
    subst (λ (q : Walking). Locked u (suc a) (walked_row a q) (walked_row a w)) (sym l.is) (record {
      talls = k.talls;
      ss = k.ss;
      down = k.down;
      is = ap (λ (q : Walking). record q { walk = record q.walk { next = sum a 1 } }) k.is;
      lock = relock u (suc a) z (walked_row a w).walk k.talls k.ss k.down refl k.lock;
    })

-- ---- all items

abbrev Rows : Layout → Layout → ℕ → Walking → Walking → Type 0
Rows t u k v w = (a : ℕ) × Prefix t k a × Locked u a v w

both_item : (t u : Layout) (k : ℕ) (i : Item) (v w : Walking) → IsRead t.grid.table → k < length t.grid.table.items.items → item t.grid.table k ≡ i
    → w.layout.grid ≡ t.grid → ((r : ℕ) → (placed t.grid r).own ≡ false → (tall u r).more ≡ 0) → Room 4 w → Rows t u k v w
    → Rows t u (suc k) (walked_item i v) (walked_item i w)
both_item t u k items.Rule v w q inside e grid quiet room f = (
  f.0,
  prefix_other t k f.0 (λ r x. no_row (sym e ∙ x)) f.1,
  both_ruled u f.0 true (released_beside v) (released_beside w) (both_beside u f.0 3 v w room f.2),
)
  where
    no_row : {r : ℕ} → items.Rule ≡ items.Row r → ⊥
    no_row x = cc
both_item t u k (items.Request s) v w q inside e grid quiet room f = (
  f.0,
  prefix_other t k f.0 (λ r x. no_row (sym e ∙ x)) f.1,
  both_request u f.0 s v w (omega (arith, room)) f.2,
)
  where
    no_row : {r : ℕ} → items.Request s ≡ items.Row r → ⊥
    no_row x = cc
both_item t u k (items.Row r) v w q inside e grid quiet room f =
    let same : r ≡ f.0 = row_is t k f.0 r q inside e f.1 in
    subst (λ (x : ℕ). Rows t u (suc k) (walked_item (items.Row x) v) (walked_item (items.Row x) w)) (sym same) (
      suc f.0,
      prefix_row t k f.0 (e ∙ ap (λ (x : ℕ). items.Row x) same) f.1,
      both_row u f.0 v w (λ no. quiet f.0 (ap (λ (g : Grid). (placed g f.0).own) (sym grid) ∙ no)) room f.2,
    )

-- an item is the same in both
item_as : (u : Layout) (a n : ℕ) (v w : Walking) → Locked u a v w → item v.layout.grid.table n ≡ item w.layout.grid.table n
item_as u a n v w l = ap (λ (x : Walking). item x.layout.grid.table n) l.is

all_items : (t u : Layout) (k : ℕ) (v w : Walking) → IsPlaced t.grid → IsRead t.grid.table → length t.grid.table.rows.items ≤ length t.talls.items
    → ((r : ℕ) → (placed t.grid r).own ≡ false → (tall u r).more ≡ 0)
    → k ≤ length t.grid.table.items.items → 4 * length t.grid.table.items.items + 4 ≤ t.steps.capacity → Reached t 0 1 w → Locked u 0 v w
    → Rows t u k (in_turn k walked_at v) (in_turn k walked_at w)
all_items t u zero v w p q many quiet less room m l = (
  0,
  record {
    all = λ r small. absurd (let no : ⊥ = omega (arith, small) in no);
    only = λ r a. absurd (let no : ⊥ = omega (arith, a.1) in no);
  },
  l,
)
all_items t u (suc k) v w p q many quiet less room m l =
    let x : Walking = in_turn k walked_at v in
    let y : Walking = in_turn k walked_at w in
    let before : Reached t k (4 * k + 1) y = all_reached t k w p many (omega (arith, less)) room m in
    let is : item t.grid.table k ≡ item y.layout.grid.table k = ap (λ (g : Grid). item g.table k) (sym before.grid) in
    let f : Rows t u k x y = all_items t u k v w p q many quiet (omega (arith, less)) room m l in
    subst (λ (i : Item). Rows t u (suc k) (walked_item i x) (walked_at k y)) (sym (item_as u f.0 k x y f.2))
    (both_item t u k (item y.layout.grid.table k) x y q (omega (arith, less)) is before.grid quiet
    (omega (arith, before.few, before.room, less, room)) f)

both_closed_rule : (u : Layout) (a m : ℕ) (ends : Bool) (v w : Walking) → Room (suc m) w → Locked u a v w → Locked u a (closed_rule ends v) (closed_rule ends w)
both_closed_rule u a m ends v w room l =
    let x : Walking = lower w l.talls l.ss l.down in
    let i : Locked u a x w = itself u a w l.talls l.ss l.down l.lock in
    subst (λ (y : Walking). Locked u a (closed_rule ends y) (closed_rule ends w)) (sym l.is)
    (if_locked u a (closes_rule ends w.layout) (released w.walk.last x) x (released w.walk.last w) w (both_released u a w.walk.last m x w room i) i)

both_closed_box : (u : Layout) (a m : ℕ) (ends : Bool) (v w : Walking) → Room (suc m) w → Locked u a v w → Locked u a (closed_box ends v) (closed_box ends w)
both_closed_box u a m ends v w room l =
    let x : Walking = lower w l.talls l.ss l.down in
    let i : Locked u a x w = itself u a w l.talls l.ss l.down l.lock in
    subst (λ (y : Walking). Locked u a (closed_box ends y) (closed_box ends w)) (sym l.is)
    (if_locked u a (ends && (w.walk.ruled || is_boxed w.layout.grid.table)) (stepped (steps.Rule w.walk.last None) 1 x) x
    (stepped (steps.Rule w.walk.last None) 1 w) w (both_step u a (steps.Rule w.walk.last None) 1 m x w room (λ r e. cc) i) i)

both_closed_double : (u : Layout) (a m : ℕ) (ends : Bool) (v w : Walking) → Room (suc m) w → Locked u a v w
    → Locked u a (if ends && is_double v.layout.grid.table.looks.frame then stepped (steps.Edge false) 1 v else v)
    (if ends && is_double w.layout.grid.table.looks.frame then stepped (steps.Edge false) 1 w else w)
both_closed_double u a m ends v w room l =
    let x : Walking = lower w l.talls l.ss l.down in
    let i : Locked u a x w = itself u a w l.talls l.ss l.down l.lock in
    subst (λ (y : Walking). Locked u a (if ends && is_double y.layout.grid.table.looks.frame then stepped (steps.Edge false) 1 y else y)
    (if ends && is_double w.layout.grid.table.looks.frame then stepped (steps.Edge false) 1 w else w)) (sym l.is)
    (if_locked u a (ends && is_double w.layout.grid.table.looks.frame) (stepped (steps.Edge false) 1 x) x (stepped (steps.Edge false) 1 w) w
    (both_step u a (steps.Edge false) 1 m x w room (λ r e. cc) i) i)

closed_room : (m : ℕ) (ends : Bool) (w : Walking) → Room (suc m) w → Room m (closed_rule ends w)
closed_room m ends w room = choose (closes_rule ends w.layout)
  where
    choose : (b : Bool) → Room m (if b then released w.walk.last w else w)
    choose true = released_room w.walk.last m w room
    choose false = omega (arith, room)

box_room : (m : ℕ) (ends : Bool) (w : Walking) → Room (suc m) w → Room m (closed_box ends w)
box_room m ends w room = choose (ends && (w.walk.ruled || is_boxed w.layout.grid.table))
  where
    choose : (b : Bool) → Room m (if b then stepped (steps.Rule w.walk.last None) 1 w else w)
    choose true = stepped_room (steps.Rule w.walk.last None) 1 m w room
    choose false = omega (arith, room)

both_ended : (u : Layout) (a : ℕ) (ends : Bool) (v w : Walking) → Room 3 w → Locked u a v w → Locked u a (walk_ended ends v) (walk_ended ends w)
both_ended u a ends v w room l =
    let x : Walking = closed_rule ends v in
    let y : Walking = closed_rule ends w in
    let y_room : Room 2 y = closed_room 2 ends w room in
    both_closed_double u a 0 ends (closed_box ends x) (closed_box ends y) (box_room 1 ends y y_room)
    (both_closed_box u a 1 ends x y y_room (both_closed_rule u a 2 ends v w room l))

-- ---- a table whose rows have the lines that they got, beside the table where they had not

pub record Heightened (t u : Layout) : Type 0 where
  pub same : u ≡ record t { talls = u.talls; steps = u.steps }
  pub room : u.steps.capacity ≡ t.steps.capacity
  pub count : length u.talls.items ≡ length t.talls.items
  pub lines : (r : ℕ) → lines_of (tall u r) ≡ sum (lines_of (tall t r)) (tall u r).more
  pub quiet : (r : ℕ) → (placed t.grid r).own ≡ false → (tall u r).more ≡ 0

first_lock : (t u : Layout) → Heightened t u → Lock u 0 (walking_on (without_steps t)) u.talls (none_of u.steps) 0
first_lock t u h = record {
  room = h.room;
  count = refl;
  line = omega (arith, above_none u);
  lines = h.lines;
  kinds = λ i less. absurd (let no : ⊥ = omega (arith, less) in no);
  rows = λ i r less e. absurd (let no : ⊥ = omega (arith, less) in no);
}

both_begun : (t u : Layout) → Heightened t u → 4 ≤ t.steps.capacity → Locked u 0 (walk_begun (without_steps u)) (walk_begun (without_steps t))
both_begun t u h room =
    let w : Walking = walking_on (without_steps t) in
    let x : Walking = lower w u.talls (none_of u.steps) 0 in
    let i : Locked u 0 x w = itself u 0 w u.talls (none_of u.steps) 0 (first_lock t u h) in
    subst (λ (l : Layout). Locked u 0 (walk_begun (without_steps l)) (walk_begun (without_steps t))) (sym h.same)
    (if_locked u 0 (is_double t.grid.table.looks.frame && not t.begun) (stepped (steps.Edge true) 1 x) x (stepped (steps.Edge true) 1 w) w
    (both_step u 0 (steps.Edge true) 1 0 x w (omega (arith, room)) (λ r e. cc) i) i)

both_walked : (t u : Layout) (ends : Bool) → Heightened t u → IsPlaced t.grid → IsRead t.grid.table → length t.grid.table.rows.items ≤ length t.talls.items
    → 4 * length t.grid.table.items.items + 4 ≤ t.steps.capacity → (a : ℕ) × Locked u a (walked ends u) (walked ends t)
both_walked t u ends h p q many room =
    let v : Walking = walk_begun (without_steps u) in
    let w : Walking = walk_begun (without_steps t) in
    let k : ℕ = length t.grid.table.items.items in
    let l : Locked u 0 v w = both_begun t u h (omega (arith, room)) in
    let first : Reached t 0 1 w = begun_reached t (omega (arith, room)) in
    let all : Reached t k (4 * k + 1) (in_turn k walked_at w) = all_reached t k w p many (omega arith) room first in
    let f : Rows t u k (in_turn k walked_at v) (in_turn k walked_at w) = all_items t u k v w p q many h.quiet (omega arith) room first l in
    let w_count : k ≡ length w.layout.grid.table.items.items = ap (λ (g : Grid). length g.table.items.items) (sym first.grid) in
    let v_count : k ≡ length v.layout.grid.table.items.items = w_count ∙ ap (λ (x : Walking). length x.layout.grid.table.items.items) (sym l.is) in
    let done : Locked u f.0 (walk_ended ends (in_turn k walked_at v)) (walk_ended ends (in_turn k walked_at w)) =
    both_ended u f.0 ends (in_turn k walked_at v) (in_turn k walked_at w) (omega (arith, all.few, all.room, room)) f.2 in (
      f.0,
      subst (λ (i : ℕ). Locked u f.0 (walk_ended ends (in_turn i walked_at v)) (walked ends t)) v_count
          (subst (λ (i : ℕ). Locked u f.0 (walk_ended ends (in_turn k walked_at v)) (walk_ended ends (in_turn i walked_at w))) w_count done),
    )

pub rows_lower : (t u : Layout) (ends : Bool) → Heightened t u → IsPlaced t.grid → IsRead t.grid.table → length t.grid.table.rows.items ≤ length t.talls.items
    → 4 * length t.grid.table.items.items + 4 ≤ t.steps.capacity
    → (r : ℕ) → r < length t.grid.table.rows.items → (placed t.grid r).own ≡ true
    → row_line (steps_taken ends u) r ≡ sum (row_line (steps_taken ends t) r) (more_above u r)
rows_lower t u ends h p q many room r inside own =
    let grid : u.grid ≡ t.grid = ap (λ (l : Layout). l.grid) h.same in
    let w : Walking = walked ends t in
    let v : Walking = walked ends u in
    let l = (both_walked t u ends h p q many room).1 in
    let m : Reached t (length t.grid.table.items.items) (suc (suc (suc (4 * length t.grid.table.items.items + 1)))) w = steps_reached t ends p many room in
    let g : Reached u (length u.grid.table.items.items) (suc (suc (suc (4 * length u.grid.table.items.items + 1)))) v =
    steps_reached u ends (subst IsPlaced (sym grid) p) (omega (arith, many, h.count, ap (λ (x : Grid). length x.table.rows.items) grid))
    (omega (arith, room, h.room, ap (λ (x : Grid). length x.table.items.items) grid)) in
    let i = q.among r inside in
    let d : Drawn w r = m.drawn i.0 r i.1 i.2 own in
    let it : ℕ = (tall w.layout r).step in
    let ss_is : ss_of v ≡ l.ss.items = ap ss_of l.is in
    let kind : (at (ss_of v) it).kind ≡ steps.Row r = ap (λ (ss : List Step). (at ss it).kind) ss_is ∙ l.lock.kinds it d.0 ∙ d.1 in
    let there : it < length (ss_of v) = omega (arith, d.0, l.lock.count, ap (λ (ss : List Step). length ss) ss_is) in
    let step_is : (tall v.layout r).step ≡ it = g.rowed it r there kind in
    ap (λ (j : ℕ). (at (ss_of v) j).line) step_is ∙ ap (λ (ss : List Step). (at ss it).line) ss_is ∙ l.lock.rows it r d.0 d.1
