-- A field that goes on over rows below stands beside each line from its first row to the end of its last.
use Rattle.std.proofs.Common.{◌≡◌, ℕ, zero, suc, ◌+◌, ◌*◌, ◌<◌, ◌≤◌, Bool, true, false, length, None, Some, refl, sym, ap, subst, arith, ◌∙◌, inl, inr}
use Rattle.tbl_columns.specs.declared.grid.Cell.{Cell}
use Rattle.tbl_columns.specs.declared.grid.Grid.{Grid}
use Rattle.tbl_columns.specs.Held.{cell_of}
use Rattle.tbl_drawing.specs.declared.layout.Layout.{Layout}
use Rattle.tbl_drawing.specs.declared.layout.Step.{Step}
use Rattle.tbl_drawing.specs.declared.layout.StepKind.{StepKind}
use Rattle.tbl_drawing.specs.declared.layout.StepKind.TheVariants as steps
use Rattle.tbl_drawing.specs.Heights.{row_end}
use Rattle.tbl_drawing.specs.Held.{lines_of, step, tall}
use Rattle.tbl_drawing.specs.Laws.{IsRead}
use Rattle.tbl_drawing.specs.Steps.{Walking, lines_in, row_line, stands_beside, steps_taken, walk_begun, walk_ended, walked, walked_at, walked_item, without_steps}
use Rattle.tbl_drawing.proofs.Below.{equal_or}
use Rattle.tbl_drawing.proofs.Once.{IsPlaced, Reached, all_reached, begun_reached, height, ss_of, steps_reached}
use Rattle.tbl_drawing.proofs.OnceStands.{Found}
use Rattle.tbl_table.specs.declared.table.Item.{Item}
use Rattle.tbl_table.specs.declared.table.Item.TheVariants as items
use Rattle.tbl_table.specs.Held.{item}
use Rattle.tbl_table.specs.Lists.{in_turn}
use Rattle.tbl_drawing.proofs.OverRows.{Begun, IsClosed, Over, Room, beside, closed_stays}
use Rattle.tbl_drawing.proofs.OpenRows.{Phase, open_request, open_rule, row_phase}
use Rattle.tbl_drawing.proofs.Prefixes.{Prefix, prefix_other, prefix_row, row_is}
use Rattle.tbl_drawing.proofs.WalkHas.{end_has, item_has}

abbrev Fronted : Layout → ℕ → ℕ → Walking → Type 0
Fronted t n k w = (a : ℕ) × Prefix t k a × Phase t n a w

item_phase : (t : Layout) (n k : ℕ) (i : Item) (w : Walking) → IsRead t.grid.table → Over t.grid n → k < length t.grid.table.items.items
    → item t.grid.table k ≡ i → w.layout.grid ≡ t.grid → ((r : ℕ) → lines_of (tall w.layout r) ≡ lines_of (tall t r)) → Room 4 w
    → Fronted t n k w → Fronted t n (suc k) (walked_item i w)
item_phase t n k items.Rule w q h inside e grid lines room f = (
  f.0,
  prefix_other t k f.0 (λ r x. no_row (sym e ∙ x)) f.1,
  elim f.2 [
    | inl before ↦ inl before
    | inr more ↦ elim more [
      | inl o ↦ inr (inl (open_rule t n f.0 w h (omega (arith, room)) o))
      | inr c ↦ inr (inr (item_has (IsClosed t n) (closed_stays t n) items.Rule w c))
    ]
  ],
)
  where
    no_row : {r : ℕ} → items.Rule ≡ items.Row r → ⊥
    no_row x = cc
item_phase t n k (items.Request s) w q h inside e grid lines room f = (
  f.0,
  prefix_other t k f.0 (λ r x. no_row (sym e ∙ x)) f.1,
  elim f.2 [
    | inl before ↦ inl before
    | inr more ↦ elim more [
      | inl o ↦ inr (inl (open_request t n f.0 s w h (omega (arith, room)) o))
      | inr c ↦ inr (inr (item_has (IsClosed t n) (closed_stays t n) (items.Request s) w c))
    ]
  ],
)
  where
    no_row : {r : ℕ} → items.Request s ≡ items.Row r → ⊥
    no_row x = cc
item_phase t n k (items.Row r) w q h inside e grid lines room f =
    let same : r ≡ f.0 = row_is t k f.0 r q inside e f.1 in
    subst (λ (x : ℕ). Fronted t n (suc k) (walked_item (items.Row x) w)) (sym same) (
      suc f.0,
      prefix_row t k f.0 (e ∙ ap (λ (x : ℕ). items.Row x) same) f.1,
      elim f.2 [
        | inl before ↦
            elim (equal_or f.0 (cell_of t.grid n).top) [
              | inl here ↦ row_phase t n f.0 w h grid lines room (inl here)
              | inr ne ↦ inl (omega (arith, before, ne))
            ]
        | inr more ↦ elim more [
          | inl o ↦ row_phase t n f.0 w h grid lines room (inr o)
          | inr c ↦ inr (inr (item_has (IsClosed t n) (closed_stays t n) (items.Row f.0) w c))
        ]
      ],
    )

all_phases : (t : Layout) (n k : ℕ) (w : Walking) → IsPlaced t.grid → IsRead t.grid.table → Over t.grid n
    → length t.grid.table.rows.items ≤ length t.talls.items
    → k ≤ length t.grid.table.items.items → 4 * length t.grid.table.items.items + 4 ≤ t.steps.capacity → Reached t 0 1 w → Fronted t n k (in_turn k walked_at w)
all_phases t n zero w p q h many less room m = (
  0,
  record {
    all = λ r small. absurd (let no : ⊥ = omega (arith, small) in no);
    only = λ r a. absurd (let no : ⊥ = omega (arith, a.1) in no);
  },
  inl (omega arith),
)
all_phases t n (suc k) w p q h many less room m =
    let v : Walking = in_turn k walked_at w in
    let before : Reached t k (4 * k + 1) v = all_reached t k w p many (omega (arith, less)) room m in
    let is : item t.grid.table k ≡ item v.layout.grid.table k = ap (λ (g : Grid). item g.table k) (sym before.grid) in
    item_phase t n k (item v.layout.grid.table k) v q h (omega (arith, less)) is before.grid before.tall_as
    (omega (arith, before.few, before.room, less, room)) (all_phases t n k w p q h many (omega (arith, less)) room m)

closed_at_last : (t : Layout) (n : ℕ) (w : Walking) → IsRead t.grid.table → Over t.grid n → Fronted t n (length t.grid.table.items.items) w → IsClosed t n w
closed_at_last t n w q h f =
    let i = q.among (cell_of t.grid n).bottom h.inside in
    let less : (cell_of t.grid n).bottom < f.0 = f.1.only (cell_of t.grid n).bottom (i.0, i.1, i.2) in
    elim f.2 [
      | inl before ↦ absurd (let no : ⊥ = omega (arith, before, less, h.order) in no)
      | inr more ↦ elim more [
        | inl o ↦ absurd (let no : ⊥ = omega (arith, o.over, less) in no)
        | inr c ↦ c
      ]
    ]

walk_closed : (t : Layout) (n : ℕ) (ends : Bool) → IsPlaced t.grid → IsRead t.grid.table → Over t.grid n
    → length t.grid.table.rows.items ≤ length t.talls.items → 4 * length t.grid.table.items.items + 4 ≤ t.steps.capacity → IsClosed t n (walked ends t)
walk_closed t n ends p q h many room =
    let w : Walking = walk_begun (without_steps t) in
    let k : ℕ = length t.grid.table.items.items in
    let first : Reached t 0 1 w = begun_reached t (omega (arith, room)) in
    let count : k ≡ length w.layout.grid.table.items.items = ap (λ (g : Grid). length g.table.items.items) (sym first.grid) in
    subst (λ (i : ℕ). IsClosed t n (walk_ended ends (in_turn i walked_at w))) count
    (end_has (IsClosed t n) (closed_stays t n) ends (in_turn k walked_at w)
    (closed_at_last t n (in_turn k walked_at w) q h (all_phases t n k w p q h many (omega arith) room first)))

-- ---- so it is found on each of these lines

beside_same : (v : Layout) (kind : StepKind) (n c : ℕ) → beside v.grid kind n c ≡ stands_beside v kind n c
beside_same v (steps.Rule above None) n c = refl
beside_same v (steps.Rule above (Some below)) n c = refl
beside_same v (steps.Row r) n c = refl
beside_same v (steps.Bars r lines) n c = refl
beside_same v (steps.Edge above) n c = refl
beside_same v (steps.Request s) n c = refl
beside_same v (steps.Beyond r) n c = refl
beside_same v (steps.Before r) n c = refl

height_same : (t v : Layout) (kind : StepKind) (n c : ℕ) → ((r : ℕ) → lines_of (tall v r) ≡ lines_of (tall t r)) → beside v.grid kind n c ≡ true
    → lines_in v kind ≡ height t kind
height_same t v (steps.Rule above below) n c same h = refl
height_same t v (steps.Row r) n c same h = same r
height_same t v (steps.Bars r lines) n c same h = refl
height_same t v (steps.Edge above) n c same h = refl
height_same t v (steps.Request s) n c same h = absurd (let no : false ≡ true → ⊥ = λ e. cc in no h)
height_same t v (steps.Beyond r) n c same h = absurd (let no : false ≡ true → ⊥ = λ e. cc in no h)
height_same t v (steps.Before r) n c same h = absurd (let no : false ≡ true → ⊥ = λ e. cc in no h)

pub record RowsStand (v : Layout) (n : ℕ) : Type 0 where
  pub order : row_line v (cell_of v.grid n).top ≤ row_line v (cell_of v.grid n).bottom
  pub found : (o : ℕ) → row_line v (cell_of v.grid n).top ≤ o → o < row_end v (cell_of v.grid n).bottom → Found v n (cell_of v.grid n).first o

pub rows_stand : (t : Layout) (n : ℕ) (ends : Bool) → IsPlaced t.grid → IsRead t.grid.table → Over t.grid n
    → length t.grid.table.rows.items ≤ length t.talls.items → 4 * length t.grid.table.items.items + 4 ≤ t.steps.capacity
    → RowsStand (steps_taken ends t) n
rows_stand t n ends p q h many room =
    let w : Walking = walked ends t in
    let v : Layout = w.layout in
    let m : Reached t (length t.grid.table.items.items) (suc (suc (suc (4 * length t.grid.table.items.items + 1)))) w = steps_reached t ends p many room in
    let c : IsClosed t n w = walk_closed t n ends p q h many room in
    let same : cell_of v.grid n ≡ cell_of t.grid n = ap (λ (g : Grid). cell_of g n) m.grid in
    let line_of : (r line : ℕ) → Begun (ss_of w) r line → row_line v r ≡ line = λ r line b.
    ap (λ (i : ℕ). (step v i).line) (m.rowed b.it r b.inside (ap (λ (x : Step). x.kind) b.is)) ∙ ap (λ (x : Step). x.line) b.is in
    let from : row_line v (cell_of v.grid n).top ≡ c.from =
    ap (λ (x : Cell). row_line v x.top) same ∙ line_of (cell_of t.grid n).top c.from c.begun in
    let low : row_line v (cell_of v.grid n).bottom ≡ c.low =
    ap (λ (x : Cell). row_line v x.bottom) same ∙ line_of (cell_of t.grid n).bottom c.low c.ended in
    let lines : lines_of (tall v (cell_of v.grid n).bottom) ≡ lines_of (tall t (cell_of t.grid n).bottom) =
    ap (λ (x : Cell). lines_of (tall v x.bottom)) same ∙ m.tall_as (cell_of t.grid n).bottom in
    record {
      order = omega (arith, c.order, from, low);
      found = λ o least less.
          let f = c.covered o (omega (arith, least, from)) (omega (arith, less, low, lines)) in
          let is : beside v.grid (step v f.0).kind n (cell_of v.grid n).first ≡ true =
          ap (λ (g : Grid). beside g (step v f.0).kind n (cell_of g n).first) m.grid ∙ f.2 in
          let here : stands_beside v (step v f.0).kind n (cell_of v.grid n).first ≡ true =
          sym (beside_same v (step v f.0).kind n (cell_of v.grid n).first) ∙ is in
          let high : lines_in v (step v f.0).kind ≡ height t (step v f.0).kind =
          height_same t v (step v f.0).kind n (cell_of v.grid n).first m.tall_as is in
          (f.0, f.1, here, f.3, omega (arith, f.4, high));
    }
