-- The lines of a table lie apart, and a row that takes room has lines of its own.
use Rattle.std.proofs.Common.{◌≡◌, ◌≢◌, ℕ, zero, suc, ◌+◌, ◌*◌, ◌<◌, ◌≤◌, Bool, true, false, ◌&&◌, ◌||◌, not, nat_lt, List, [], ◌∷◌, ◌++◌, length, get_or, Option, None, Some, refl, sym, ap, subst, arith, ◌∙◌, length-append, length-set, inl, inr, if◌then◌else◌}
use Rattle.std.proofs.Math.ListN.{get_or-append}
use Rattle.std.proofs.Math.Seq.{get_or-append_seam}
use Rattle.std.proofs.lemmas.Bool.Decides.{nat_tests}
use Rattle.std.proofs.lemmas.List.{get_or-set_other, get_or-set_same}
use Rattle.nr_vectors.specs.Items.{Items}
use Rattle.tbl_columns.specs.declared.grid.Grid.{Grid}
use Rattle.tbl_columns.specs.declared.grid.Placed.{Placed}
use Rattle.tbl_columns.specs.Held.{cell_number, cell_of, placed}
use Rattle.tbl_columns.proofs.Turns.{set_same}
use Rattle.tbl_drawing.specs.declared.layout.Layout.{Layout}
use Rattle.tbl_drawing.specs.declared.layout.Step.{Step}
use Rattle.tbl_drawing.specs.declared.layout.StepKind.{StepKind}
use Rattle.tbl_drawing.specs.declared.layout.StepKind.TheVariants as steps
use Rattle.tbl_drawing.specs.declared.layout.Tall.{Tall}
use Rattle.tbl_drawing.specs.declared.steps.Walk.{Walk}
use Rattle.tbl_drawing.specs.Held.{lines_of, no_step, tall, tall_of}
use Rattle.tbl_drawing.specs.Steps.{Walking, asked, asked_in, beyond_stepped, closed_box, closed_rule, closes_rule, has_beyond, on_step, one_more, other, released, row_asked, row_beside, row_stepped, ruled, space_in, step_at, stepped, walk_begun, walk_ended, walked, walked_at, walked_item, walked_line, walked_own_row, walked_request, walking_on, with_next, with_open, with_rule, without_steps}
use Rattle.tbl_drawing.proofs.Below.{two}
use Rattle.tbl_table.specs.declared.table.Item.{Item}
use Rattle.tbl_table.specs.declared.table.Item.TheVariants as items
use Rattle.tbl_table.specs.declared.table.Span.{Span}
use Rattle.tbl_table.specs.Held.{is_boxed, is_double, item, text_of}
use Rattle.tbl_table.specs.Lists.{added, in_turn}
use Rattle.tbl_table.specs.Requests.{open_after}
use Rattle.tbl_table.specs.Sums.{sum}

-- each field begins in the first column of its first row, which takes room; rows stand below one another in their order
pub record IsPlaced (g : Grid) : Type 0 where
  pub first : (n : ℕ) → n < length g.cells.items → cell_number g (cell_of g n).top (cell_of g n).first ≡ n
  pub own : (n : ℕ) → n < length g.cells.items → (placed g (cell_of g n).top).own ≡ true
  pub among : (n : ℕ) → n < length g.cells.items
      → (i : ℕ) × (i < length g.table.items.items) × (item g.table i ≡ items.Row (cell_of g n).top)
  pub held : (i r : ℕ) → i < length g.table.items.items → item g.table i ≡ items.Row r → r < length g.table.rows.items
  pub order : (i j r s : ℕ) → i < j → j < length g.table.items.items → item g.table i ≡ items.Row r
      → item g.table j ≡ items.Row s → r < s

-- how many lines a step is counted for
abbrev pub height : Layout → StepKind → ℕ
height t (steps.Before r) = 0
height t (steps.Bars r lines) = lines
height t (steps.Edge above) = 1
height t (steps.Rule above below) = 1
height t (steps.Row r) = lines_of (tall t r)
height t (steps.Request s) = 0
height t (steps.Beyond r) = 0

abbrev pub at : List Step → ℕ → Step
at ss i = get_or ss i no_step

abbrev pub end_of : Layout → Step → ℕ
end_of t s = sum s.line (height t s.kind)

-- ---- steps that begin where those before them end, up to a line

pub record Apart (t : Layout) (ss : List Step) (line : ℕ) : Type 0 where
  pub apart : (i j : ℕ) → i < j → j < length ss → end_of t (at ss i) ≤ (at ss j).line
  pub below : (i : ℕ) → i < length ss → end_of t (at ss i) ≤ line

pub at_before : (ss : List Step) (s : Step) (i : ℕ) → i < length ss → at (ss ++ s ∷ []) i ≡ at ss i
at_before ss s i h = get_or-append ss (s ∷ []) no_step i h

pub at_last : (ss : List Step) (s : Step) → at (ss ++ s ∷ []) (length ss) ≡ s
at_last ss s = get_or-append_seam ss s [] no_step

pub at_end : (ss : List Step) (s : Step) (i : ℕ) → i ≡ length ss → at (ss ++ s ∷ []) i ≡ s
at_end ss s i e = ap (at (ss ++ s ∷ [])) e ∙ at_last ss s

pub more : (ss : List Step) (s : Step) → length (ss ++ s ∷ []) ≡ length ss + 1
more ss s = length-append ss (s ∷ [])

apart_more : (t : Layout) (ss : List Step) (line : ℕ) (kind : StepKind) → Apart t ss line
    → Apart t (ss ++ step_at kind line ∷ []) (sum line (height t kind))
apart_more t ss line kind a =
    let s : Step = step_at kind line in
    record {
      apart = λ i j less inside.
          let before : i < length ss = omega (arith, less, inside, more ss s) in
          let is : end_of t (at (ss ++ s ∷ []) i) ≡ end_of t (at ss i) = ap (end_of t) (at_before ss s i before) in
          elim (two j (length ss) (omega (arith, inside, more ss s))) [
            | inl h ↦ (let there : (at (ss ++ s ∷ []) j).line ≡ (at ss j).line = ap (λ (x : Step). x.line) (at_before ss s j h) in
                omega (arith, is, there, a.apart i j less h))
            | inr e ↦ (let there : (at (ss ++ s ∷ []) j).line ≡ line = ap (λ (x : Step). x.line) (at_end ss s j e) in
                omega (arith, is, there, a.below i before))
          ];
      below = λ i inside.
          elim (two i (length ss) (omega (arith, inside, more ss s))) [
            | inl h ↦ (let is : end_of t (at (ss ++ s ∷ []) i) ≡ end_of t (at ss i) = ap (end_of t) (at_before ss s i h) in
                omega (arith, is, a.below i h))
            | inr e ↦ (let is : end_of t (at (ss ++ s ∷ []) i) ≡ sum line (height t kind) = ap (end_of t) (at_end ss s i e) in
                omega (arith, is))
          ];
    }

-- ---- a list of steps with one more

pub grown_len : (old new : List Step) (s : Step) → new ≡ old ++ s ∷ [] → length new ≡ length old + 1
grown_len old new s e = ap length e ∙ more old s

pub grown_before : (old new : List Step) (s : Step) → new ≡ old ++ s ∷ [] → (i : ℕ) → i < length old → at new i ≡ at old i
grown_before old new s e i h = ap (λ (ss : List Step). at ss i) e ∙ at_before old s i h

pub grown_last : (old new : List Step) (s : Step) → new ≡ old ++ s ∷ [] → (i : ℕ) → i ≡ length old → at new i ≡ s
grown_last old new s e i h = ap (λ (ss : List Step). at ss i) e ∙ at_end old s i h

pub added_items : (s : Step) (xs : Items Step) → length xs.items < xs.capacity → (added s xs).items ≡ xs.items ++ s ∷ []
added_items s xs h = fits (nat_lt (length xs.items) xs.capacity) (grind (arith, nat_tests, h))
  where
    fits : (b : Bool) → b ≡ true → (if b then xs.items ++ s ∷ [] else xs.items) ≡ xs.items ++ s ∷ []
    fits true e = refl
    fits false e = cc

-- ---- a walk over the first items of a table: what its steps are, and where rows have theirs

abbrev pub ss_of : Walking → List Step
ss_of w = w.layout.steps.items

abbrev pub Drawn : Walking → ℕ → Type 0
Drawn w r = ((tall w.layout r).step < length (ss_of w)) × ((at (ss_of w) (tall w.layout r).step).kind ≡ steps.Row r)

abbrev pub Among : Layout → ℕ → ℕ → Type 0
Among t k r = (m : ℕ) × (m < k) × (item t.grid.table m ≡ items.Row r)

pub record Reached (t : Layout) (k lines : ℕ) (w : Walking) : Type 0 where
  pub few : length (ss_of w) ≤ lines
  pub room : w.layout.steps.capacity ≡ t.steps.capacity
  pub begins : w.layout.begins ≡ t.begins
  pub grid : w.layout.grid ≡ t.grid
  pub count : length w.layout.talls.items ≡ length t.talls.items
  pub tall_as : (r : ℕ) → lines_of (tall w.layout r) ≡ lines_of (tall t r)
  pub lie : Apart t (ss_of w) w.walk.line
  pub rowed : (i r : ℕ) → i < length (ss_of w) → (at (ss_of w) i).kind ≡ steps.Row r → (tall w.layout r).step ≡ i
  pub reached : (i r : ℕ) → i < length (ss_of w) → (at (ss_of w) i).kind ≡ steps.Row r → Among t k r
  pub drawn : (m r : ℕ) → m < k → item t.grid.table m ≡ items.Row r → (placed t.grid r).own ≡ true → Drawn w r

more_lines : (t : Layout) (k lines n : ℕ) (w : Walking) → lines ≤ n → Reached t k lines w → Reached t k n w
more_lines t k lines n w h m = record {
  few = omega (arith, h, m.few);
  room = m.room;
  begins = m.begins;
  grid = m.grid;
  count = m.count;
  tall_as = m.tall_as;
  lie = m.lie;
  rowed = m.rowed;
  reached = m.reached;
  drawn = m.drawn;
}

-- the walk alone is another, on the same line
walked_as : (t : Layout) (k lines : ℕ) (w : Walking) (walk : Walk) → walk.line ≡ w.walk.line → Reached t k lines w
    → Reached t k lines (record w { walk = walk })
walked_as t k lines w walk e m = record {
  few = m.few;
  room = m.room;
  begins = m.begins;
  grid = m.grid;
  count = m.count;
  tall_as = m.tall_as;
  lie = subst (λ (line : ℕ). Apart t (ss_of w) line) (sym e) m.lie;
  rowed = m.rowed;
  reached = m.reached;
  drawn = m.drawn;
}

-- a step that is no row
other_reached : (t : Layout) (k lines : ℕ) (kind : StepKind) (w : Walking) → ((r : ℕ) → kind ≡ steps.Row r → ⊥) → lines < t.steps.capacity
    → Reached t k lines w → Reached t k (suc lines) (stepped kind (height t kind) w)
other_reached t k lines kind w never h m =
    let s : Step = step_at kind w.walk.line in
    let old : List Step = ss_of w in
    let new : List Step = (added s w.layout.steps).items in
    let inside : length old < w.layout.steps.capacity = omega (arith, h, m.few, m.room) in
    let is : new ≡ old ++ s ∷ [] = added_items s w.layout.steps inside in
    let len : length new ≡ length old + 1 = grown_len old new s is in
    record {
      few = omega (arith, len, m.few);
      room = m.room;
      begins = m.begins;
      grid = m.grid;
      count = m.count;
      tall_as = m.tall_as;
      lie = subst (λ (l : List Step). Apart t l (sum w.walk.line (height t kind))) (sym is) (apart_more t old w.walk.line kind m.lie);
      rowed = λ i r less e.
          elim (two i (length old) (omega (arith, less, len))) [
            | inl before ↦ m.rowed i r before (ap (λ (x : Step). x.kind) (sym (grown_before old new s is i before)) ∙ e)
            | inr last ↦ absurd (never r (ap (λ (x : Step). x.kind) (sym (grown_last old new s is i last)) ∙ e))
          ];
      reached = λ i r less e.
          elim (two i (length old) (omega (arith, less, len))) [
            | inl before ↦ m.reached i r before (ap (λ (x : Step). x.kind) (sym (grown_before old new s is i before)) ∙ e)
            | inr last ↦ absurd (never r (ap (λ (x : Step). x.kind) (sym (grown_last old new s is i last)) ∙ e))
          ];
      drawn = λ n r less e o.
          let d : Drawn w r = m.drawn n r less e o in
          let there : at new (tall w.layout r).step ≡ at old (tall w.layout r).step = grown_before old new s is (tall w.layout r).step d.0 in
          (omega (arith, d.0, len), ap (λ (x : Step). x.kind) there ∙ d.1);
    }

-- one in which no field stands
no_field_reached : (t : Layout) (k lines : ℕ) (kind : StepKind) (w : Walking) → ((r : ℕ) → kind ≡ steps.Row r → ⊥) → height t kind ≡ 0
    → lines < t.steps.capacity → Reached t k lines w → Reached t k (suc lines) (other kind w)
no_field_reached t k lines kind w never none h m =
    let v : Walking = stepped kind 0 w in
    walked_as t k (suc lines) v (one_more v).walk refl
    (subst (λ (n : ℕ). Reached t k (suc lines) (stepped kind n w)) none (other_reached t k lines kind w never h m))

row_same : (n r : ℕ) → steps.Row n ≡ steps.Row r → n ≡ r
row_same n r e = ap number e
  where
    number : StepKind → ℕ
    number (steps.Row r) = r
    number kind = 0

pub item_same : (n r : ℕ) → items.Row n ≡ items.Row r → n ≡ r
item_same n r e = ap number e
  where
    number : Item → ℕ
    number (items.Row r) = r
    number i = 0

pub not_less : {a b : ℕ} → a < b → a ≡ b → ⊥
not_less h e = omega (arith, h, e)

-- a row has the next step
row_reached : (t : Layout) (k lines n : ℕ) (w : Walking) → IsPlaced t.grid → length t.grid.table.rows.items ≤ length t.talls.items
    → k < length t.grid.table.items.items
    → item t.grid.table k ≡ items.Row n → lines < t.steps.capacity → Reached t k lines w → Reached t (suc k) (suc lines) (row_stepped n (on_step n w))
row_reached t k lines n w p many inside e h m =
    let s : Step = step_at (steps.Row n) w.walk.line in
    let old : List Step = ss_of w in
    let v : Walking = on_step n w in
    let new : List Step = (added s w.layout.steps).items in
    let space : length old < w.layout.steps.capacity = omega (arith, h, m.few, m.room) in
    let is : new ≡ old ++ s ∷ [] = added_items s w.layout.steps space in
    let len : length new ≡ length old + 1 = grown_len old new s is in
    let held : n < length w.layout.talls.items = omega (arith, m.count, many, p.held k n inside e) in
    let x : Tall = record (tall w.layout n) { step = length old } in
    let mine : (tall v.layout n).step ≡ length old =
    ap (λ (r : Tall). r.step) (get_or-set_same w.layout.talls.items n x (tall_of 1) held) in
    let others : (r : ℕ) → r ≢ n → tall v.layout r ≡ tall w.layout r =
    λ r ne. get_or-set_other w.layout.talls.items n r x (tall_of 1) ne in
    let fresh : (r : ℕ) → Among t k r → r ≢ n = λ r a same. not_less (p.order a.0 k r n a.1 inside a.2 e) same in
    let alike : (r : ℕ) → lines_of (tall v.layout r) ≡ lines_of (tall w.layout r) =
    set_same (λ (y : Tall). lines_of y) w.layout.talls.items n x (tall_of 1) refl in
    let lines_are : lines_of (tall v.layout n) ≡ lines_of (tall t n) = alike n ∙ m.tall_as n in
    record {
      few = omega (arith, len, m.few);
      room = m.room;
      begins = m.begins;
      grid = m.grid;
      count = length-set w.layout.talls.items n x ∙ m.count;
      tall_as = λ r. alike r ∙ m.tall_as r;
      lie =
          subst (λ (h : ℕ). Apart t new (sum w.walk.line h)) (sym lines_are)
          (subst (λ (l : List Step). Apart t l (sum w.walk.line (lines_of (tall t n)))) (sym is) (apart_more t old w.walk.line (steps.Row n) m.lie));
      rowed = λ i r less k'.
          elim (two i (length old) (omega (arith, less, len))) [
            | inl before ↦
                (let was : (at old i).kind ≡ steps.Row r = ap (λ (x : Step). x.kind) (sym (grown_before old new s is i before)) ∙ k' in
                ap (λ (x : Tall). x.step) (others r (fresh r (m.reached i r before was))) ∙ m.rowed i r before was)
            | inr last ↦
                (let same : n ≡ r = row_same n r (ap (λ (x : Step). x.kind) (sym (grown_last old new s is i last)) ∙ k') in
                ap (λ (x : ℕ). (tall v.layout x).step) (sym same) ∙ mine ∙ sym last)
          ];
      reached = λ i r less k'.
          elim (two i (length old) (omega (arith, less, len))) [
            | inl before ↦
                (let a : Among t k r = m.reached i r before (ap (λ (x : Step). x.kind) (sym (grown_before old new s is i before)) ∙ k') in
                (a.0, omega (arith, a.1), a.2))
            | inr last ↦
                (let same : n ≡ r = row_same n r (ap (λ (x : Step). x.kind) (sym (grown_last old new s is i last)) ∙ k') in
                (k, omega arith, e ∙ ap (λ (x : ℕ). items.Row x) same))
          ];
      drawn = λ i r less k' o.
          elim (two i k (omega (arith, less))) [
            | inl before ↦
                (let d : Drawn w r = m.drawn i r before k' o in
                let kept : (tall v.layout r).step ≡ (tall w.layout r).step = ap (λ (x : Tall). x.step) (others r (fresh r (i, before, k'))) in
                let there : at new (tall v.layout r).step ≡ at old (tall w.layout r).step =
                ap (at new) kept ∙ grown_before old new s is (tall w.layout r).step d.0 in
                (omega (arith, d.0, len, kept), ap (λ (x : Step). x.kind) there ∙ d.1))
            | inr last ↦
                (let same : n ≡ r = item_same n r (sym e ∙ sym (ap (item t.grid.table) last) ∙ k') in
                let kept : (tall v.layout r).step ≡ length old = ap (λ (x : ℕ). (tall v.layout x).step) (sym same) ∙ mine in
                let there : at new (tall v.layout r).step ≡ s = grown_last old new s is (tall v.layout r).step kept in
                (omega (arith, kept, len), ap (λ (x : Step). x.kind) there ∙ ap (λ (x : ℕ). steps.Row x) same))
          ];
    }

-- an item that is no row of its own
next_reached : (t : Layout) (k lines : ℕ) (w : Walking) → ((r : ℕ) → item t.grid.table k ≡ items.Row r → (placed t.grid r).own ≡ true → ⊥)
    → Reached t k lines w → Reached t (suc k) lines w
next_reached t k lines w never m = record {
  few = m.few;
  room = m.room;
  begins = m.begins;
  grid = m.grid;
  count = m.count;
  tall_as = m.tall_as;
  lie = m.lie;
  rowed = m.rowed;
  reached = λ i r less e. (let a : Among t k r = m.reached i r less e in (a.0, omega (arith, a.1), a.2));
  drawn = λ i r less e o.
      elim (two i k (omega (arith, less))) [
        | inl before ↦ m.drawn i r before e o
        | inr last ↦ absurd (never r (sym (ap (item t.grid.table) last) ∙ e) o)
      ];
}

if_reached : (t : Layout) (k lines : ℕ) (b : Bool) (x y : Walking) → Reached t k lines x → Reached t k lines y → Reached t k lines (if b then x else y)
if_reached t k lines true x y m n = m
if_reached t k lines false x y m n = n

released_reached : (t : Layout) (k lines : ℕ) (below : Option ℕ) (w : Walking) → lines < t.steps.capacity → Reached t k lines w
    → Reached t k (suc lines) (released below w)
released_reached t k lines below w h m =
    if_reached t k (suc lines) w.walk.ruled (stepped (steps.Rule w.walk.last below) 1 w) w
    (other_reached t k lines (steps.Rule w.walk.last below) w (λ r e. cc) h m) (more_lines t k lines (suc lines) w (omega arith) m)

asked_reached : (t : Layout) (k lines : ℕ) (space last : Option ℕ) (s : Span) (w : Walking) → suc lines < t.steps.capacity → Reached t k lines w
    → Reached t k (suc (suc lines)) (asked space last s w)
asked_reached t k lines None last s w h m =
    more_lines t k (suc lines) (suc (suc lines)) (other (steps.Request s) w) (omega arith)
    (no_field_reached t k lines (steps.Request s) w (λ r e. cc) refl (omega (arith, h)) m)
asked_reached t k lines (Some n) None s w h m =
    more_lines t k (suc lines) (suc (suc lines)) (other (steps.Request s) w) (omega arith)
    (no_field_reached t k lines (steps.Request s) w (λ r e. cc) refl (omega (arith, h)) m)
asked_reached t k lines (Some n) (Some r) s w h m =
    let v : Walking = released (row_beside w.layout w.walk) w in
    other_reached t k (suc lines) (steps.Bars r n) (ruled false v) (λ x e. cc) h
    (walked_as t k (suc lines) v (with_rule false v.walk) refl (released_reached t k lines (row_beside w.layout w.walk) w (omega (arith, h)) m))

request_reached : (t : Layout) (k lines : ℕ) (s : Span) (w : Walking) → suc lines < t.steps.capacity → Reached t k lines w
    → Reached t k (suc (suc lines)) (walked_request s w)
request_reached t k lines s w h m =
    let v : Walking = asked_in (space_in w.layout w.walk s) s w in
    walked_as t k (suc (suc lines)) v (with_open (open_after (text_of v.layout.grid.table s) v.walk.opened) v.walk) refl
    (asked_reached t k lines (space_in w.layout w.walk s) (row_asked w.layout (space_in w.layout w.walk s) w.walk) s w h m)

own_reached : (t : Layout) (k lines n : ℕ) (w : Walking) → IsPlaced t.grid → length t.grid.table.rows.items ≤ length t.talls.items
    → k < length t.grid.table.items.items → item t.grid.table k ≡ items.Row n
    → lines + 4 ≤ t.steps.capacity → Reached t k lines w → Reached t (suc k) (suc (suc (suc lines))) (walked_own_row n w)
own_reached t k lines n w p many inside e h m =
    let before : Walking = stepped (steps.Before n) 0 w in
    let under : Walking = released (Some n) before in
    let m1 : Reached t k (suc lines) before = other_reached t k lines (steps.Before n) w (λ r e. cc) (omega (arith, h)) m in
    let m2 : Reached t k (suc (suc lines)) under = released_reached t k (suc lines) (Some n) before (omega (arith, h)) m1 in
    row_reached t k (suc (suc lines)) n under p many inside e (omega (arith, h)) m2

line_reached : (t : Layout) (k lines n : ℕ) (w : Walking) → IsPlaced t.grid → length t.grid.table.rows.items ≤ length t.talls.items
    → k < length t.grid.table.items.items → item t.grid.table k ≡ items.Row n
    → lines + 4 ≤ t.steps.capacity → Reached t k lines w → (b : Bool) → (placed t.grid n).own ≡ b
    → Reached t (suc k) (suc (suc (suc lines))) (if b then walked_own_row n w else stepped (steps.Before n) 0 w)
line_reached t k lines n w p many inside e h m true is = own_reached t k lines n w p many inside e h m
line_reached t k lines n w p many inside e h m false is =
    let v : Walking = stepped (steps.Before n) 0 w in
    next_reached t k (suc (suc (suc lines))) v (λ q f x. not_own (sym is ∙ ap (λ (i : ℕ). (placed t.grid i).own) (item_same n q (sym e ∙ f)) ∙ x))
    (more_lines t k (suc lines) (suc (suc (suc lines))) v (omega arith)
    (other_reached t k lines (steps.Before n) w (λ r e. cc) (omega (arith, h)) m))
  where
    not_own : false ≡ true → ⊥
    not_own e = cc

beyond_reached : (t : Layout) (k lines n : ℕ) (p : Placed) (w : Walking) → lines < t.steps.capacity → Reached t k lines w → Reached t k (suc lines) (beyond_stepped n p w)
beyond_reached t k lines n p w h m =
    if_reached t k (suc lines) (has_beyond w.layout n p) (other (steps.Beyond n) w) w
    (no_field_reached t k lines (steps.Beyond n) w (λ r e. cc) refl h m) (more_lines t k lines (suc lines) w (omega arith) m)

item_reached : (t : Layout) (k lines : ℕ) (i : Item) (w : Walking) → IsPlaced t.grid → length t.grid.table.rows.items ≤ length t.talls.items
    → k < length t.grid.table.items.items → item t.grid.table k ≡ i → lines + 4 ≤ t.steps.capacity
    → Reached t k lines w → Reached t (suc k) (suc (suc (suc (suc lines)))) (walked_item i w)
item_reached t k lines items.Rule w p many inside e h m =
    let v : Walking = released (row_beside w.layout w.walk) w in
    let m1 : Reached t k (suc lines) v = released_reached t k lines (row_beside w.layout w.walk) w (omega (arith, h)) m in
    walked_as t (suc k) (suc (suc (suc (suc lines)))) v (with_rule true v.walk) refl
    (next_reached t k (suc (suc (suc (suc lines)))) v (λ r f o. no_row_item (sym e ∙ f))
    (more_lines t k (suc lines) (suc (suc (suc (suc lines)))) v (omega arith) m1))
  where
    no_row_item : {r : ℕ} → items.Rule ≡ items.Row r → ⊥
    no_row_item f = cc
item_reached t k lines (items.Request s) w p many inside e h m =
    let v : Walking = walked_request s w in
    next_reached t k (suc (suc (suc (suc lines)))) v (λ r f o. no_row_item (sym e ∙ f))
    (more_lines t k (suc (suc lines)) (suc (suc (suc (suc lines)))) v (omega arith) (request_reached t k lines s w (omega (arith, h)) m))
  where
    no_row_item : {r : ℕ} → items.Request s ≡ items.Row r → ⊥
    no_row_item f = cc
item_reached t k lines (items.Row n) w p many inside e h m =
    let r : Placed = placed w.layout.grid n in
    let v : Walking = walked_line r n w in
    let b : Walking = beyond_stepped n r v in
    let own : (placed t.grid n).own ≡ r.own = ap (λ (g : Grid). (placed g n).own) (sym m.grid) in
    walked_as t (suc k) (suc (suc (suc (suc lines)))) b (with_next (sum n 1) b.walk) refl
    (beyond_reached t (suc k) (suc (suc (suc lines))) n r v (omega (arith, h)) (line_reached t k lines n w p many inside e h m r.own own))

-- ---- all of them

pub all_reached : (t : Layout) (k : ℕ) (w : Walking) → IsPlaced t.grid → length t.grid.table.rows.items ≤ length t.talls.items
    → k ≤ length t.grid.table.items.items → 4 * length t.grid.table.items.items + 4 ≤ t.steps.capacity → Reached t 0 1 w
    → Reached t k (4 * k + 1) (in_turn k walked_at w)
all_reached t zero w p many h room m = more_lines t 0 1 (4 * zero + 1) w (omega arith) m
all_reached t (suc k) w p many h room m =
    let v : Walking = in_turn k walked_at w in
    let before : Reached t k (4 * k + 1) v = all_reached t k w p many (omega (arith, h)) room m in
    let is : item t.grid.table k ≡ item v.layout.grid.table k = ap (λ (g : Grid). item g.table k) (sym before.grid) in
    more_lines t (suc k) (suc (suc (suc (suc (4 * k + 1))))) (4 * suc k + 1) (walked_item (item v.layout.grid.table k) v) (omega arith)
    (item_reached t k (4 * k + 1) (item v.layout.grid.table k) v p many (omega (arith, h)) is (omega (arith, h, room)) before)

first_reached : (t : Layout) → Reached t 0 0 (walking_on (without_steps t))
first_reached t = record {
  few = omega arith;
  room = refl;
  begins = refl;
  grid = refl;
  count = refl;
  tall_as = λ r. refl;
  lie = record { apart = λ i j less inside. omega (arith, inside); below = λ i inside. omega (arith, inside) };
  rowed = λ i r inside e. omega (arith, inside);
  reached = λ i r inside e. absurd (none i inside);
  drawn = λ i r inside e o. absurd (none i inside);
}
  where
    none : (i : ℕ) → i < 0 → ⊥
    none i h = omega (arith, h)

pub begun_reached : (t : Layout) → 4 ≤ t.steps.capacity → Reached t 0 1 (walk_begun (without_steps t))
begun_reached t room =
    let u : Layout = without_steps t in
    if_reached t 0 1 (is_double t.grid.table.looks.frame && not t.begun) (stepped (steps.Edge true) 1 (walking_on u)) (walking_on u)
    (other_reached t 0 0 (steps.Edge true) (walking_on u) (λ r e. cc) (omega (arith, room)) (first_reached t))
    (more_lines t 0 0 1 (walking_on u) (omega arith) (first_reached t))

ended_reached : (t : Layout) (k lines : ℕ) (ends : Bool) (w : Walking) → lines + 3 ≤ t.steps.capacity → Reached t k lines w
    → Reached t k (suc (suc (suc lines))) (walk_ended ends w)
ended_reached t k lines ends w h m =
    let rule : Walking = closed_rule ends w in
    let box : Walking = closed_box ends rule in
    let m1 : Reached t k (suc lines) rule =
    if_reached t k (suc lines) (closes_rule ends w.layout) (released w.walk.last w) w
    (released_reached t k lines w.walk.last w (omega (arith, h)) m) (more_lines t k lines (suc lines) w (omega arith) m) in
    let m2 : Reached t k (suc (suc lines)) box =
    if_reached t k (suc (suc lines)) (ends && (rule.walk.ruled || is_boxed rule.layout.grid.table)) (stepped (steps.Rule rule.walk.last None) 1 rule) rule
    (other_reached t k (suc lines) (steps.Rule rule.walk.last None) rule (λ r e. cc) (omega (arith, h)) m1)
    (more_lines t k (suc lines) (suc (suc lines)) rule (omega arith) m1) in
    if_reached t k (suc (suc (suc lines))) (ends && is_double box.layout.grid.table.looks.frame) (stepped (steps.Edge false) 1 box) box
    (other_reached t k (suc (suc lines)) (steps.Edge false) box (λ r e. cc) (omega (arith, h)) m2)
    (more_lines t k (suc (suc lines)) (suc (suc (suc lines))) box (omega arith) m2)

pub steps_reached : (t : Layout) (ends : Bool) → IsPlaced t.grid → length t.grid.table.rows.items ≤ length t.talls.items
    → 4 * length t.grid.table.items.items + 4 ≤ t.steps.capacity
    → Reached t (length t.grid.table.items.items) (suc (suc (suc (4 * length t.grid.table.items.items + 1)))) (walked ends t)
steps_reached t ends p many room =
    let w : Walking = walk_begun (without_steps t) in
    let n : ℕ = length t.grid.table.items.items in
    let first : Reached t 0 1 w = begun_reached t (omega (arith, room)) in
    let count : n ≡ length w.layout.grid.table.items.items = ap (λ (g : Grid). length g.table.items.items) (sym first.grid) in
    let all : Reached t n (4 * n + 1) (in_turn n walked_at w) = all_reached t n w p many (omega arith) room first in
    let last : Reached t n (suc (suc (suc (4 * n + 1)))) (walk_ended ends (in_turn n walked_at w)) =
    ended_reached t n (4 * n + 1) ends (in_turn n walked_at w) (omega (arith, room)) all in
    subst (λ (k : ℕ). Reached t n (suc (suc (suc (4 * n + 1)))) (walk_ended ends (in_turn k walked_at w))) count last
