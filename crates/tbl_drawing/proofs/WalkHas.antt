-- What each step of a walk over a table's items keeps, the walk keeps.
use Rattle.std.proofs.Common.{ℕ, Bool, true, false, ◌&&◌, ◌||◌, not, Option, None, Some, length}
use Rattle.tbl_columns.specs.declared.grid.Placed.{Placed}
use Rattle.tbl_columns.specs.Held.{placed}
use Rattle.tbl_columns.proofs.Turns.{turn_has}
use Rattle.tbl_drawing.specs.declared.layout.Layout.{Layout}
use Rattle.tbl_drawing.specs.declared.layout.StepKind.{StepKind}
use Rattle.tbl_drawing.specs.declared.layout.StepKind.TheVariants as steps
use Rattle.tbl_drawing.specs.declared.steps.Walk.{Walk}
use Rattle.tbl_drawing.specs.Held.{lines_of, tall}
use Rattle.tbl_drawing.specs.Steps.{Walking, asked, beyond_stepped, closed_box, closed_rule, closes_rule, has_beyond, on_step, other, released, released_beside, row_asked, row_beside, row_on_step, row_stepped, ruled, space_in, stepped, walk_begun, walk_ended, walked, walked_at, walked_item, walked_line, walked_own_row, walking_on, without_steps}
use Rattle.tbl_drawing.proofs.Below.{by_cases}
use Rattle.tbl_table.specs.declared.table.Item.{Item}
use Rattle.tbl_table.specs.declared.table.Item.TheVariants as items
use Rattle.tbl_table.specs.declared.table.Span.{Span}
use Rattle.tbl_table.specs.Held.{is_boxed, is_double, item}
use Rattle.tbl_table.specs.Lists.{in_turn}

-- steps that are added, where a row has its step, and all else of the walk
pub record Stays (Q : Walking → Type 0) : Type 0 where
  pub step : (kind : StepKind) (lines : ℕ) (w : Walking) → Q w → Q (stepped kind lines w)
  pub walk : (w : Walking) (x : Walk) → Q w → Q (record w { walk = x })
  pub tall : (n : ℕ) (w : Walking) → Q w → Q (record w { layout = row_on_step n w.layout })

module _ (Q : Walking → Type 0) (s : Stays Q)
  where
    pub released_has : (below : Option ℕ) (w : Walking) → Q w → Q (released below w)
    released_has below w q =
        by_cases Q w.walk.ruled (stepped (steps.Rule w.walk.last below) 1 w) w (λ e. s.step (steps.Rule w.walk.last below) 1 w q) (λ e. q)

    other_has : (kind : StepKind) (w : Walking) → Q w → Q (other kind w)
    other_has kind w q = s.walk (stepped kind 0 w) (other kind w).walk (s.step kind 0 w q)

    asked_has : (space last : Option ℕ) (p : Span) (w : Walking) → Q w → Q (asked space last p w)
    asked_has None last p w q = other_has (steps.Request p) w q
    asked_has (Some lines) None p w q = other_has (steps.Request p) w q
    asked_has (Some lines) (Some r) p w q =
        let v : Walking = released_beside w in
        s.step (steps.Bars r lines) lines (ruled false v) (s.walk v (ruled false v).walk (released_has (row_beside w.layout w.walk) w q))

    line_has : (r : ℕ) (p : Placed) (w : Walking) → Q w → Q (walked_line p r w)
    line_has r p w q =
        let v : Walking = stepped (steps.Before r) 0 w in
        let before : Q v = s.step (steps.Before r) 0 w q in
        let u : Walking = released (Some r) v in
        let x : Walking = on_step r u in
        let y : Walking = stepped (steps.Row r) (lines_of (tall x.layout r)) x in
        by_cases Q p.own (walked_own_row r w) v
        (λ e.
        s.walk y (row_stepped r x).walk (s.step (steps.Row r) (lines_of (tall x.layout r)) x (s.tall r u (released_has (Some r) v before))))
        (λ e. before)

    beyond_has : (r : ℕ) (p : Placed) (w : Walking) → Q w → Q (beyond_stepped r p w)
    beyond_has r p w q =
        by_cases Q (has_beyond w.layout r p) (other (steps.Beyond r) w) w (λ e. other_has (steps.Beyond r) w q) (λ e. q)

    pub item_has : (i : Item) (w : Walking) → Q w → Q (walked_item i w)
    item_has items.Rule w q =
        let v : Walking = released_beside w in
        s.walk v (ruled true v).walk (released_has (row_beside w.layout w.walk) w q)
    item_has (items.Request p) w q =
        let v : Walking = asked (space_in w.layout w.walk p) (row_asked w.layout (space_in w.layout w.walk p) w.walk) p w in
        s.walk v (walked_item (items.Request p) w).walk (asked_has (space_in w.layout w.walk p) (row_asked w.layout (space_in w.layout w.walk p) w.walk) p w q)
    item_has (items.Row r) w q =
        let p : Placed = placed w.layout.grid r in
        let v : Walking = beyond_stepped r p (walked_line p r w) in
        s.walk v (walked_item (items.Row r) w).walk (beyond_has r p (walked_line p r w) (line_has r p w q))

    pub end_has : (ends : Bool) (w : Walking) → Q w → Q (walk_ended ends w)
    end_has ends w q =
        let rule : Walking = closed_rule ends w in
        let box : Walking = closed_box ends rule in
        let q1 : Q rule = by_cases Q (closes_rule ends w.layout) (released w.walk.last w) w (λ e. released_has w.walk.last w q) (λ e. q) in
        let q2 : Q box =
        by_cases Q (ends && (rule.walk.ruled || is_boxed rule.layout.grid.table)) (stepped (steps.Rule rule.walk.last None) 1 rule) rule
        (λ e. s.step (steps.Rule rule.walk.last None) 1 rule q1) (λ e. q1) in
        by_cases Q (ends && is_double box.layout.grid.table.looks.frame) (stepped (steps.Edge false) 1 box) box
        (λ e. s.step (steps.Edge false) 1 box q2) (λ e. q2)

    pub walk_has : (t : Layout) (ends : Bool) → Q (walking_on (without_steps t)) → Q (walked ends t)
    walk_has t ends q =
        let l : Layout = without_steps t in
        let begun : Q (walk_begun l) =
        by_cases Q (is_double l.grid.table.looks.frame && not l.begun) (stepped (steps.Edge true) 1 (walking_on l)) (walking_on l)
        (λ e. s.step (steps.Edge true) 1 (walking_on l) q) (λ e. q) in
        let k : ℕ = length (walk_begun l).layout.grid.table.items.items in
        end_has ends (in_turn k walked_at (walk_begun l))
        (turn_has Q walked_at (λ n w h. item_has (item w.layout.grid.table n) w h) k (walk_begun l) begun)
