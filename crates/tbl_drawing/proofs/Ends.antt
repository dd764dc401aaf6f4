-- Where the lines of a table end.
use Rattle.std.proofs.Common.{◌≡◌, ℕ, ◌-◌, ◌≤◌, Bool, true, false, ◌==◌, not, max, nat_le, List, [], ◌∷◌, ◌++◌, Option, None, Some, refl, ap, append-nil, arith, ◌∙◌, if◌then◌else◌}
use Rattle.std.proofs.lemmas.Bool.Decides.{nat_tests}
use Rattle.tbl_columns.specs.declared.grid.Grid.{Grid}
use Rattle.tbl_columns.specs.Frames.{bar_place, meeting, right_edge, table_end, was_ruled}
use Rattle.tbl_columns.specs.Held.{column, columns}
use Rattle.tbl_drawing.specs.declared.layout.Layout.{Layout}
use Rattle.tbl_drawing.specs.declared.pen.Pen.{Pen}
use Rattle.tbl_drawing.specs.Drawing.{bar_byte, bars_as, crossing_byte, dash, ends_covered, go, row_cells, row_strokes, rule_cells, rule_end}
use Rattle.tbl_drawing.specs.Laws.{EdgesEndTogether, RowsEndTogether, RowsEndWithin, RulesEndTogether, end_of}
use Rattle.tbl_drawing.specs.Pens.{Stroke, Start, after_all, bars, dashed_to, first, furthest, on_from, released, steps_from, to}
use Rattle.tbl_table.specs.Signs.{joint}
use Rattle.tbl_table.specs.Sums.{sum}
use Rattle.tbl_drawing.proofs.Tapes.{after_all-append}

-- ---- the pen goes to a place that is no less far

further : (at place : ℕ) → at ≤ place → furthest (Some at) place ≡ Some place
further at place h =
    let e : max at place ≡ place = omega (arith, h) in
    ap (λ (n : ℕ). Some n) e

to-at : (o : Option ℕ) (n place : ℕ) (p : Pen) → o ≡ Some n → (to o place p).at ≡ furthest p.at place
to-at None n place p e = cc
to-at (Some m) n place p e = refl

dashed_to-at : (o : Option ℕ) (n place : ℕ) (p : Pen) → o ≡ Some n → (dashed_to o place p).at ≡ furthest p.at place
dashed_to-at None n place p e = cc
dashed_to-at (Some m) n place p e = refl

go-at : (l : Layout) (ruled : Bool) (place : ℕ) (p : Pen) (at : ℕ) → p.at ≡ Some at → at ≤ place
    → (after_all (go l ruled place) p).at ≡ Some place
go-at l true place p at e within =
    dashed_to-at (steps_from p.at place) (place - at) place (released p) (ap (λ (a : Option ℕ). steps_from a place) e)
    ∙ ap (λ (a : Option ℕ). furthest a place) e ∙ further at place within
go-at l false place p at e within =
    to-at (steps_from p.at place) (place - at) place p (ap (λ (a : Option ℕ). steps_from a place) e)
    ∙ ap (λ (a : Option ℕ). furthest a place) e ∙ further at place within

bars-at : (b n : ℕ) (p : Pen) (at : ℕ) → p.at ≡ Some at → (after_all (bars b n) p).at ≡ Some (sum at n)
bars-at b n p at e = ap (λ (a : Option ℕ). on_from a (Some n)) e

-- ---- the last bars of a line

end_choice : (b le : Bool) (t x : ℕ) → le ≡ true → (if b then 0 else if le then (if b then 0 else t) else x) ≡ (if b then 0 else t)
end_choice true le t x h = refl
end_choice false true t x h = refl
end_choice false false t x h = cc

le_itself : (n : ℕ) → nat_le n n ≡ true
le_itself n = grind (arith, nat_tests)

end-place : (g : Grid) → bar_place g (columns g) ≡ table_end g
end-place g =
    end_choice (columns g == 0) (nat_le (columns g) (columns g)) (sum (sum (column g (columns g - 1)).right (right_edge g)) g.edges.right)
    (column g (columns g - 1)).bar (le_itself (columns g))

last-at : (l : Layout) (ruled : Bool) (b n place : ℕ) (p : Pen) (at : ℕ) → p.at ≡ Some at → at ≤ place
    → (after_all (go l ruled place ++ bars b n) p).at ≡ Some (sum place n)
last-at l ruled b n place p at e within =
    ap (λ (q : Pen). q.at) (after_all-append (go l ruled place) (bars b n) p)
    ∙ bars-at b n (after_all (go l ruled place) p) place (go-at l ruled place p at e within)

-- ---- the law

pub rows_end_together : RowsEndTogether
rows_end_together l r line one w =
    let g : Grid = l.grid in
    let was : Bool = was_ruled g r (columns g) in
    let byte : ℕ = bar_byte l r was false in
    let cells : List Stroke = row_cells (columns g) l r line in
    let end : Pen = after_all (Start ∷ cells) first in
    let ends : List Stroke = go l was (table_end g) ++ bars byte 1 in
    ap (λ (n : ℕ). end_of (cells ++ (if n == 0 then [] else bars_as l (columns g) byte was n))) one
    ∙ ap (λ (place : ℕ). end_of (cells ++ (go l was place ++ bars byte 1))) (end-place g)
    ∙ ap (λ (q : Pen). q.at) (after_all-append (Start ∷ cells) ends first)
    ∙ last-at l was byte 1 (table_end g) end w.place w.ends w.within

-- no bar is drawn
pub rows_end_within : RowsEndWithin
rows_end_within l r line none w =
    let g : Grid = l.grid in
    let was : Bool = was_ruled g r (columns g) in
    let cells : List Stroke = row_cells (columns g) l r line in
    let is : row_strokes l r line ≡ cells =
    ap (λ (n : ℕ). cells ++ (if n == 0 then [] else bars_as l (columns g) (bar_byte l r was false) was n)) none ∙ append-nil cells in
    record { place = w.place; ends = ap (λ (ss : List Stroke). end_of ss) is ∙ w.ends; within = w.within }

end_number : (b : Bool) (n : ℕ) → n ≤ 18446744073709551615 → (if b then 0 else n) ≤ 18446744073709551615
end_number true n h = omega arith
end_number false n h = h

sum_number : (a b : ℕ) → sum a b ≤ 18446744073709551615
sum_number a b = omega arith

no_further : (n : ℕ) → n ≤ 18446744073709551615 → n ≤ sum n 1
no_further n h = omega (arith, h)

end_further : (g : Grid) → table_end g ≤ sum (table_end g) 1
end_further g =
    let last : ℕ = sum (column g (columns g - 1)).right (right_edge g) in
    no_further (table_end g) (end_number (columns g == 0) (sum last g.edges.right) (sum_number last g.edges.right))

-- a bar, or the rule goes on
end-at : (l : Layout) (none ruled : Bool) (b : ℕ) (p : Pen) → p.at ≡ Some (table_end l.grid)
    → (after_all (if none then go l ruled (sum (table_end l.grid) 1) else bars b 1) p).at ≡ Some (sum (table_end l.grid) 1)
end-at l true ruled b p e = go-at l ruled (sum (table_end l.grid) 1) p (table_end l.grid) e (end_further l.grid)
end-at l false ruled b p e = bars-at b 1 p (table_end l.grid) e

pub rules_end_together : RulesEndTogether
rules_end_together l above below line w =
    let g : Grid = l.grid in
    let ruled : Bool = not (ends_covered l above below) in
    let cells : List Stroke = rule_cells (columns g) l above below line in
    let b : ℕ = crossing_byte l above below (columns g) in
    ap (λ (q : Pen). q.at) (after_all-append (Start ∷ cells ++ go l ruled (table_end g)) (rule_end l above below) first)
    ∙ end-at l (meeting g above below (columns g) == 0) ruled b (after_all (Start ∷ cells ++ go l ruled (table_end g)) first)
    (ap (λ (q : Pen). q.at) (after_all-append (Start ∷ cells) (go l ruled (table_end g)) first)
    ∙ go-at l ruled (table_end g) (after_all (Start ∷ cells) first) w.place w.ends w.within)

pub edges_end_together : EdgesEndTogether
edges_end_together l above within =
    let signs = l.grid.table.signs in
    let left : ℕ = joint signs (not above) above false true in
    let right : ℕ = joint signs (not above) above true false in
    let end : ℕ = table_end l.grid in
    ap (λ (q : Pen). q.at) (after_all-append (Start ∷ bars left 1 ++ dash l end) (bars right 1) first)
    ∙ bars-at right 1 (after_all (Start ∷ bars left 1 ++ dash l end) first) end
    (go-at l true end (after_all (Start ∷ bars left 1) first) 1 refl within)
