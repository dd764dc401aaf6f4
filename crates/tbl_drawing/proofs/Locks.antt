-- A walk beside another, whose rows have more lines: each step stands further down by the lines that the rows above it got.
use Rattle.std.proofs.Common.{◌≡◌, ℕ, zero, suc, ◌+◌, ◌<◌, Bool, true, false, ◌&&◌, ◌||◌, nat_lt, List, [], ◌∷◌, ◌++◌, length, get_or, Option, None, Some, refl, sym, ap, subst, arith, ◌∙◌, inl, inr, if◌then◌else◌}
use Rattle.nr_vectors.specs.Items.{Items}
use Rattle.tbl_columns.specs.Frames.{is_covered}
use Rattle.tbl_columns.specs.Held.{columns}
use Rattle.tbl_drawing.specs.declared.layout.Layout.{Layout}
use Rattle.tbl_drawing.specs.declared.layout.Step.{Step}
use Rattle.tbl_drawing.specs.declared.layout.StepKind.{StepKind}
use Rattle.tbl_drawing.specs.declared.layout.StepKind.TheVariants as steps
use Rattle.tbl_drawing.specs.declared.layout.Tall.{Tall}
use Rattle.tbl_drawing.specs.declared.steps.Walk.{Walk}
use Rattle.tbl_drawing.specs.Held.{lines_of, tall, tall_of}
use Rattle.tbl_drawing.specs.Steps.{Walking, asked, opened_in, other, released, released_beside, row_asked, row_beside, ruled, some_covered, space_in, step_at, stepped, walked_item}
use Rattle.tbl_drawing.proofs.Below.{two}
use Rattle.tbl_drawing.proofs.Once.{added_items, at, grown_before, grown_last, grown_len, ss_of}
use Rattle.tbl_table.specs.declared.table.Item.TheVariants as items
use Rattle.tbl_table.specs.declared.table.Span.{Span}
use Rattle.tbl_table.specs.Lists.{added}
use Rattle.tbl_table.specs.Sums.{sum}
use Rattle.tbl_drawing.proofs.OverRows.{Room, released_room}

-- the lines that the rows above one got
pub more_above : Layout → ℕ → ℕ
more_above u zero = 0
more_above u (suc r) = more_above u r + (tall u r).more

pub above_next : (u : Layout) (r : ℕ) → more_above u (suc r) ≡ more_above u r + (tall u r).more
unfolding more_above
above_next u r = refl

pub above_none : (u : Layout) → more_above u 0 ≡ 0
unfolding more_above
above_none u = refl

-- ---- a walk beside another, whose rows have more lines

abbrev pub lower : Walking → Items Tall → Items Step → ℕ → Walking
lower w talls ss line = record {
  layout = record w.layout { talls = talls; steps = ss };
  walk = record w.walk { line = line };
}

pub record Lock (u : Layout) (a : ℕ) (w : Walking) (talls : Items Tall) (ss : Items Step) (down : ℕ) : Type 0 where
  pub room : ss.capacity ≡ w.layout.steps.capacity
  pub count : length ss.items ≡ length (ss_of w)
  pub line : down ≡ sum w.walk.line (more_above u a)
  pub lines : (r : ℕ) → lines_of (get_or talls.items r (tall_of 1)) ≡ sum (lines_of (tall w.layout r)) (tall u r).more
  pub kinds : (i : ℕ) → i < length (ss_of w) → (at ss.items i).kind ≡ (at (ss_of w) i).kind
  pub rows : (i r : ℕ) → i < length (ss_of w) → (at (ss_of w) i).kind ≡ steps.Row r → (at ss.items i).line ≡ sum (at (ss_of w) i).line (more_above u r)

pub record Locked (u : Layout) (a : ℕ) (v w : Walking) : Type 0 where
  pub talls : Items Tall
  pub ss : Items Step
  pub down : ℕ
  pub is : v ≡ lower w talls ss down
  pub lock : Lock u a w talls ss down

pub added_is : (kind : StepKind) (m line : ℕ) (w : Walking) → Room (suc m) w → (added (step_at kind line) w.layout.steps).items ≡ ss_of w ++ step_at kind line ∷ []
added_is kind m line w room = added_items (step_at kind line) w.layout.steps (omega (arith, room))

-- one more step in both, after so many rows
pub lock_step : (u : Layout) (a b : ℕ) (kind : StepKind) (lines more m : ℕ) (w : Walking) (talls : Items Tall) (ss : Items Step) (down : ℕ) → Room (suc m) w
    → sum down more ≡ sum (sum w.walk.line lines) (more_above u b) → ((r : ℕ) → kind ≡ steps.Row r → down ≡ sum w.walk.line (more_above u r))
    → Lock u a w talls ss down → Lock u b (stepped kind lines w) talls (added (step_at kind down) ss) (sum down more)
lock_step u a b kind lines more m w talls ss down room line row k =
    let s : Step = step_at kind w.walk.line in
    let z : Step = step_at kind down in
    let old : List Step = ss_of w in
    let new : List Step = ss_of (stepped kind lines w) in
    let now : List Step = (added z ss).items in
    let new_is : new ≡ old ++ s ∷ [] = added_is kind m w.walk.line w room in
    let now_is : now ≡ ss.items ++ z ∷ [] = added_items z ss (omega (arith, room, k.room, k.count)) in
    let len : length new ≡ length old + 1 = grown_len old new s new_is in
    record {
      room = k.room;
      count = omega (arith, len, grown_len ss.items now z now_is, k.count);
      line = line;
      lines = k.lines;
      kinds = λ i less.
          elim (two i (length old) (omega (arith, less, len))) [
            | inl before ↦ ap (λ (x : Step). x.kind) (grown_before ss.items now z now_is i (omega (arith, before, k.count))) ∙ k.kinds i before
                ∙ ap (λ (x : Step). x.kind) (sym (grown_before old new s new_is i before))
            | inr last ↦ ap (λ (x : Step). x.kind) (grown_last ss.items now z now_is i (omega (arith, last, k.count)))
                ∙ ap (λ (x : Step). x.kind) (sym (grown_last old new s new_is i last))
          ];
      rows = λ i r less e.
          elim (two i (length old) (omega (arith, less, len))) [
            | inl before ↦
                (let was : at new i ≡ at old i = grown_before old new s new_is i before in
                ap (λ (x : Step). x.line) (grown_before ss.items now z now_is i (omega (arith, before, k.count)))
                ∙ k.rows i r before (ap (λ (x : Step). x.kind) (sym was) ∙ e)
                ∙ ap (λ (x : Step). sum x.line (more_above u r)) (sym was))
            | inr last ↦
                (let is : at new i ≡ s = grown_last old new s new_is i last in
                ap (λ (x : Step). x.line) (grown_last ss.items now z now_is i (omega (arith, last, k.count)))
                ∙ row r (ap (λ (x : Step). x.kind) (sym is) ∙ e)
                ∙ ap (λ (x : Step). sum x.line (more_above u r)) (sym is))
          ];
    }

-- the walk alone is another, on the same line
pub relock : (u : Layout) (a : ℕ) (w : Walking) (walk : Walk) (talls : Items Tall) (ss : Items Step) (down : ℕ) → walk.line ≡ w.walk.line
    → Lock u a w talls ss down → Lock u a (record w { walk = walk }) talls ss down
relock u a w walk talls ss down e k = record {
  room = k.room;
  count = k.count;
  line = k.line ∙ ap (λ (n : ℕ). sum n (more_above u a)) (sym e);
  lines = k.lines;
  kinds = k.kinds;
  rows = k.rows;
}

pub same_line : (u : Layout) (a lines : ℕ) (w : Walking) (down : ℕ) → down ≡ sum w.walk.line (more_above u a)
    → sum down lines ≡ sum (sum w.walk.line lines) (more_above u a)
same_line u a lines w down e = omega (arith, e)

pub both_step : (u : Layout) (a : ℕ) (kind : StepKind) (lines m : ℕ) (v w : Walking) → Room (suc m) w → ((r : ℕ) → kind ≡ steps.Row r → ⊥) → Locked u a v w
    → Locked u a (stepped kind lines v) (stepped kind lines w)
both_step u a kind lines m v w room never l = record {
  talls = l.talls;
  ss = added (step_at kind l.down) l.ss;
  down = sum l.down lines;
  is = ap (stepped kind lines) l.is;
  lock = lock_step u a a kind lines lines m w l.talls l.ss l.down room (same_line u a lines w l.down l.lock.line) (λ r e. absurd (never r e)) l.lock;
}

pub both_other : (u : Layout) (a : ℕ) (kind : StepKind) (m : ℕ) (v w : Walking) → Room (suc m) w → ((r : ℕ) → kind ≡ steps.Row r → ⊥) → Locked u a v w
    → Locked u a (other kind v) (other kind w)
both_other u a kind m v w room never l =
    let x : Walking = stepped kind 0 w in
    let k : Locked u a (stepped kind 0 v) x = both_step u a kind 0 m v w room never l in
    record {
      talls = k.talls;
      ss = k.ss;
      down = k.down;
      is = ap (λ (y : Walking). record y { walk = record y.walk { more = sum y.walk.more 1 } }) k.is;
      lock = relock u a x (other kind w).walk k.talls k.ss k.down refl k.lock;
    }

pub if_locked : (u : Layout) (a : ℕ) (b : Bool) (x y z w : Walking) → Locked u a x z → Locked u a y w → Locked u a (if b then x else y) (if b then z else w)
if_locked u a true x y z w h k = h
if_locked u a false x y z w h k = k

pub itself : (u : Layout) (a : ℕ) (w : Walking) (talls : Items Tall) (ss : Items Step) (down : ℕ) → Lock u a w talls ss down → Locked u a (lower w talls ss down) w
itself u a w talls ss down k = record { talls = talls; ss = ss; down = down; is = refl; lock = k }

pub both_released : (u : Layout) (a : ℕ) (below : Option ℕ) (m : ℕ) (v w : Walking) → Room (suc m) w → Locked u a v w
    → Locked u a (released below v) (released below w)
both_released u a below m v w room l =
    let x : Walking = lower w l.talls l.ss l.down in
    let i : Locked u a x w = itself u a w l.talls l.ss l.down l.lock in
    subst (λ (y : Walking). Locked u a (released below y) (released below w)) (sym l.is)
    (if_locked u a w.walk.ruled (stepped (steps.Rule w.walk.last below) 1 x) x (stepped (steps.Rule w.walk.last below) 1 w) w
    (both_step u a (steps.Rule w.walk.last below) 1 m x w room (λ r e. cc) i) i)

pub covered_as : (m : ℕ) (w : Walking) (talls : Items Tall) (ss : Items Step) (down : ℕ) (above below : Option ℕ) (c : ℕ)
    → some_covered m (lower w talls ss down).layout above below c ≡ some_covered m w.layout above below c
covered_as zero w talls ss down above below c = refl
covered_as (suc m) w talls ss down above below c =
    ap (λ (b : Bool). is_covered w.layout.grid above below c || b) (covered_as m w talls ss down above below (c + 1))

pub beside_as : (w : Walking) (talls : Items Tall) (ss : Items Step) (down : ℕ)
    → row_beside (lower w talls ss down).layout (lower w talls ss down).walk ≡ row_beside w.layout w.walk
beside_as w talls ss down =
    ap (λ (b : Bool). if nat_lt w.walk.next (length w.layout.grid.table.rows.items) && b then Some w.walk.next else w.walk.last)
    (covered_as (columns w.layout.grid) w talls ss down w.walk.last (Some w.walk.next) 0)

pub both_beside : (u : Layout) (a m : ℕ) (v w : Walking) → Room (suc m) w → Locked u a v w → Locked u a (released_beside v) (released_beside w)
both_beside u a m v w room l =
    let x : Walking = lower w l.talls l.ss l.down in
    let i : Locked u a x w = itself u a w l.talls l.ss l.down l.lock in
    subst (λ (y : Walking). Locked u a (released_beside y) (released_beside w)) (sym l.is)
    (subst (λ (b : Option ℕ). Locked u a (released b x) (released_beside w)) (sym (beside_as w l.talls l.ss l.down))
    (both_released u a (row_beside w.layout w.walk) m x w room i))

pub both_ruled : (u : Layout) (a : ℕ) (b : Bool) (v w : Walking) → Locked u a v w → Locked u a (ruled b v) (ruled b w)
both_ruled u a b v w l = record {
  talls = l.talls;
  ss = l.ss;
  down = l.down;
  is = ap (ruled b) l.is;
  lock = relock u a w (ruled b w).walk l.talls l.ss l.down refl l.lock;
}

pub both_asked : (u : Layout) (a : ℕ) (space last : Option ℕ) (s : Span) (v w : Walking) → Room 2 w → Locked u a v w
    → Locked u a (asked space last s v) (asked space last s w)
both_asked u a None last s v w room l = both_other u a (steps.Request s) 1 v w room (λ r e. cc) l
both_asked u a (Some lines) None s v w room l = both_other u a (steps.Request s) 1 v w room (λ r e. cc) l
both_asked u a (Some lines) (Some r) s v w room l =
    let x : Walking = released_beside w in
    both_step u a (steps.Bars r lines) lines 0 (ruled false (released_beside v)) (ruled false x) (released_room (row_beside w.layout w.walk) 1 w room)
    (λ q e. cc) (both_ruled u a false (released_beside v) x (both_beside u a 1 v w room l))

pub both_request : (u : Layout) (a : ℕ) (s : Span) (v w : Walking) → Room 2 w → Locked u a v w
    → Locked u a (walked_item (items.Request s) v) (walked_item (items.Request s) w)
both_request u a s v w room l =
    let x : Walking = lower w l.talls l.ss l.down in
    let i : Locked u a x w = itself u a w l.talls l.ss l.down l.lock in
    let space : Option ℕ = space_in w.layout w.walk s in
    let last : Option ℕ = row_asked w.layout space w.walk in
    let z : Walking = asked space last s w in
    let k : Locked u a (asked space last s x) z = both_asked u a space last s x w room i in
    subst (λ (y : Walking). Locked u a (walked_item (items.Request s) y) (walked_item (items.Request s) w)) (sym l.is) (record {
      talls = k.talls;
      ss = k.ss;
      down = k.down;
      is = ap (opened_in s) k.is;
      lock = relock u a z (opened_in s z).walk k.talls k.ss k.down refl k.lock;
    })
