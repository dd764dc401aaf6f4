-- Each line of a field stands on one line: beside its row; text that goes on over rows below on one beside which it stands.
use Rattle.std.proofs.Common.{◌≡◌, ℕ, zero, suc, ◌+◌, ◌-◌, ◌*◌, ◌<◌, ◌≤◌, Bool, true, false, ◌==◌, ◌&&◌, nat_lt, min, List, [], ◌∷◌, ◌++◌, length, get_or, Option, None, Some, refl, sym, ap, subst, arith, ◌∙◌, eq-eqb, length-append, inl, inr, if◌then◌else◌}
use Rattle.std.specs.Prelude.{◌⊎◌}
use Rattle.std.proofs.Math.ListN.{get_or-append}
use Rattle.std.proofs.Math.Seq.{get_or-append_seam}
use Rattle.std.proofs.lemmas.Bool.Decides.{nat_tests}
use Rattle.nr_vectors.specs.Items.{Items}
use Rattle.tbl_columns.specs.declared.grid.Cell.{Cell}
use Rattle.tbl_columns.specs.declared.grid.Grid.{Grid}
use Rattle.tbl_columns.specs.Columns.{is_given}
use Rattle.tbl_columns.specs.Held.{cell_number, cell_of}
use Rattle.tbl_columns.proofs.Turns.{if_true}
use Rattle.tbl_drawing.specs.declared.layout.Layout.{Layout}
use Rattle.tbl_drawing.specs.declared.layout.Step.{Step}
use Rattle.tbl_drawing.specs.declared.layout.StepKind.{StepKind}
use Rattle.tbl_drawing.specs.declared.layout.StepKind.TheVariants as steps
use Rattle.tbl_drawing.specs.Heights.{falling_line, line_of, line_settled, line_wanted, lines_settled, without_begins}
use Rattle.tbl_drawing.specs.Held.{begin_line, lines_of, step, tall}
use Rattle.tbl_drawing.specs.Laws.{StandsBeside, StandsOnce, lines_after}
use Rattle.tbl_drawing.specs.Steps.{Walking, goes_over_rule, line_among, line_beside, line_in, line_up_to, lines_in, row_line, stands_beside, steps_taken, walked}
use Rattle.tbl_drawing.proofs.Below.{below_by, not_below_by, two}
use Rattle.tbl_drawing.proofs.Once.{Apart, IsPlaced, Reached, at, end_of, height, steps_reached}
use Rattle.tbl_table.specs.Held.{none_of}
use Rattle.tbl_table.specs.Lists.{added, in_turn}
use Rattle.tbl_table.specs.Sums.{sum}

-- ---- tests

equal : (a b : ℕ) → (a == b) ≡ true → a ≡ b
equal a b h = grind (arith, nat_tests, h)

both_left : (a b : Bool) → (a && b) ≡ true → a ≡ true
both_left true b h = refl
both_left false b h = h

both_right : (a b : Bool) → (a && b) ≡ true → b ≡ true
both_right true b h = h
both_right false b h = absurd (differ h)
  where
    differ : false ≡ true → ⊥
    differ e = cc

not_true : {A : Type 0} → false ≡ true → A
not_true h = absurd (differ h)
  where
    differ : false ≡ true → ⊥
    differ e = cc

-- ---- a line of a step beside which a field stands

abbrev pub Found : Layout → ℕ → ℕ → ℕ → Type 0
Found t n c line =
    (j : ℕ) × (j < length t.steps.items) × (stands_beside t (step t j).kind n c ≡ true) × ((step t j).line ≤ line)
    × (line < (step t j).line + lines_in t (step t j).kind)

-- each row has a line
abbrev pub HasLines : Layout → Type 0
HasLines t = (r : ℕ) → 1 ≤ lines_of (tall t r)

abbrev Counted : Layout → Type 0
Counted t = (j : ℕ) → j < length t.steps.items → (step t j).line < 18446744073709551615

in_bounds : (t : Layout) (kind : StepKind) (n c line wanted : ℕ) → HasLines t → stands_beside t kind n c ≡ true → line ≤ wanted
    → line < 18446744073709551615
    → (line ≤ line_in t kind line wanted) × (line_in t kind line wanted < line + lines_in t kind)
in_bounds t (steps.Row r) n c line wanted some h w few = (omega (arith, some r, w, few), omega (arith, some r, w, few))
in_bounds t (steps.Rule above below) n c line wanted some h w few = (omega (arith, w, few), omega (arith, w, few))
in_bounds t (steps.Bars r lines) n c line wanted some h w few =
    let more : 0 < lines = below_by 0 lines (both_left (nat_lt 0 lines) (cell_number t.grid r c == n) h) in
    (omega (arith, more, w, few), omega (arith, more, w, few))
in_bounds t (steps.Edge above) n c line wanted some h w few = not_true h
in_bounds t (steps.Request s) n c line wanted some h w few = not_true h
in_bounds t (steps.Beyond r) n c line wanted some h w few = not_true h
in_bounds t (steps.Before r) n c line wanted some h w few = not_true h

found_beside : (t : Layout) (i n c wanted line : ℕ) → HasLines t → i < length t.steps.items → (step t i).line ≤ wanted
    → (step t i).line < 18446744073709551615
    → Found t n c line → (b : Bool) → stands_beside t (step t i).kind n c ≡ b
    → Found t n c (if b then line_in t (step t i).kind (step t i).line wanted else line)
found_beside t i n c wanted line some inside w few f true e =
    let b = in_bounds t (step t i).kind n c (step t i).line wanted some e w few in
    (i, inside, e, b.0, b.1)
found_beside t i n c wanted line some inside w few f false e = f

found_among : (k : ℕ) (t : Layout) (i n c wanted line : ℕ) → HasLines t → i + k ≡ length t.steps.items → Counted t → Found t n c line
    → Found t n c (line_among k t i n c wanted line)
found_among zero t i n c wanted line some e few f = f
found_among (suc k) t i n c wanted line some e few f =
    choose (λ h. found_among k t (i + 1) n c wanted (line_beside t (step t i) n c wanted line) some (omega (arith, e)) few
    (found_beside t i n c wanted line some (omega (arith, e)) (not_below_by wanted (step t i).line h) (few i (omega (arith, e))) f (stands_beside t (step t i).kind n c) refl))
    (nat_lt wanted (step t i).line) refl
  where
    choose : (nat_lt wanted (step t i).line ≡ false → Found t n c (line_among k t (i + 1) n c wanted (line_beside t (step t i) n c wanted line)))
        → (b : Bool) → nat_lt wanted (step t i).line ≡ b
        → Found t n c (if b then line else line_among k t (i + 1) n c wanted (line_beside t (step t i) n c wanted line))
    choose later true h = f
    choose later false h = later h

-- ---- the lines on which fields begin, once some are known

over_as : (v : Layout) (b : Items ℕ) (above below : Option ℕ) (n c : ℕ)
    → goes_over_rule (record v { begins = b }) above below n c ≡ goes_over_rule v above below n c
over_as v b above None n c = refl
over_as v b above (Some r) n c = refl

beside_as : (v : Layout) (b : Items ℕ) (kind : StepKind) (n c : ℕ) → stands_beside (record v { begins = b }) kind n c ≡ stands_beside v kind n c
beside_as v b (steps.Rule above below) n c = over_as v b above below n c
beside_as v b (steps.Row r) n c = refl
beside_as v b (steps.Bars r lines) n c = refl
beside_as v b (steps.Edge above) n c = refl
beside_as v b (steps.Request s) n c = refl
beside_as v b (steps.Beyond r) n c = refl
beside_as v b (steps.Before r) n c = refl

lines_as : (v : Layout) (b : Items ℕ) (kind : StepKind) → lines_in (record v { begins = b }) kind ≡ lines_in v kind
lines_as v b (steps.Rule above below) = refl
lines_as v b (steps.Row r) = refl
lines_as v b (steps.Bars r lines) = refl
lines_as v b (steps.Edge above) = refl
lines_as v b (steps.Request s) = refl
lines_as v b (steps.Beyond r) = refl
lines_as v b (steps.Before r) = refl

line_beside_as : (v : Layout) (b : Items ℕ) (s : Step) (n c wanted line : ℕ)
    → line_beside (record v { begins = b }) s n c wanted line ≡ line_beside v s n c wanted line
line_beside_as v b s n c wanted line =
    ap (λ (q : Bool). if q then line_in (record v { begins = b }) s.kind s.line wanted else line) (beside_as v b s.kind n c)
    ∙ ap (λ (k : ℕ). if stands_beside v s.kind n c then min (sum s.line (k - 1)) wanted else line) (lines_as v b s.kind)

among_as : (k : ℕ) (v : Layout) (b : Items ℕ) (i n c wanted line : ℕ)
    → line_among k (record v { begins = b }) i n c wanted line ≡ line_among k v i n c wanted line
among_as zero v b i n c wanted line = refl
among_as (suc k) v b i n c wanted line =
    let u : Layout = record v { begins = b } in
    ap (λ (l : ℕ). if nat_lt wanted (step v i).line then line else l)
    (among_as k v b (i + 1) n c wanted (line_beside u (step v i) n c wanted line)
    ∙ ap (λ (l : ℕ). line_among k v (i + 1) n c wanted l) (line_beside_as v b (step v i) n c wanted line))

line_of_as : (v : Layout) (b : Items ℕ) (n : ℕ) → line_of (record v { begins = b }) n ≡ line_of v n
line_of_as v b n =
    let f : Cell = cell_of v.grid n in
    ap (λ (l : ℕ). if f.falls then (if is_given f.block then line_wanted v f else l) else row_line v f.top)
    (among_as (length v.steps.items - (tall v f.top).step) v b (tall v f.top).step n f.first (line_wanted v f) (row_line v f.top))

-- those of the first fields
abbrev begun_lines : ℕ → Layout → Items ℕ
begun_lines zero v = none_of v.begins
begun_lines (suc k) v = added (line_of v k) (begun_lines k v)

settled_is : (k : ℕ) (v : Layout) → in_turn k line_settled (without_begins v) ≡ record v { begins = begun_lines k v }
settled_is zero v = refl
settled_is (suc k) v =
    ap (λ (x : Layout). line_settled k x) (settled_is k v)
    ∙ ap (λ (line : ℕ). record v { begins = added line (begun_lines k v) }) (line_of_as v (begun_lines k v) k)

room_of : (k : ℕ) (v : Layout) → (begun_lines k v).capacity ≡ v.begins.capacity
room_of zero v = refl
room_of (suc k) v = room_of k v

added_is : (x : ℕ) (xs : Items ℕ) → length xs.items < xs.capacity → (added x xs).items ≡ xs.items ++ x ∷ []
added_is x xs h = if_true (nat_lt (length xs.items) xs.capacity) (xs.items ++ x ∷ []) xs.items (grind (arith, nat_tests, h))

count_of : (k : ℕ) (v : Layout) → k ≤ v.begins.capacity → length (begun_lines k v).items ≡ k
count_of zero v h = refl
count_of (suc k) v h =
    let before : length (begun_lines k v).items ≡ k = count_of k v (omega (arith, h)) in
    ap length (added_is (line_of v k) (begun_lines k v) (omega (arith, h, before, room_of k v)))
    ∙ length-append (begun_lines k v).items (line_of v k ∷ []) ∙ ap (λ (n : ℕ). n + 1) before ∙ (let e : k + 1 ≡ suc k = omega arith in e)

begins_at : (k : ℕ) (v : Layout) (n : ℕ) → k ≤ v.begins.capacity → n < k → get_or (begun_lines k v).items n 0 ≡ line_of v n
begins_at zero v n h less = absurd (none n less)
  where
    none : (m : ℕ) → m < 0 → ⊥
    none m less = omega (arith, less)
begins_at (suc k) v n h less =
    let old : Items ℕ = begun_lines k v in
    let before : length old.items ≡ k = count_of k v (omega (arith, h)) in
    let is : (added (line_of v k) old).items ≡ old.items ++ line_of v k ∷ [] = added_is (line_of v k) old (omega (arith, h, before, room_of k v)) in
    elim (two n k (omega (arith, less))) [
      | inl under ↦ ap (λ (l : List ℕ). get_or l n 0) is ∙ get_or-append old.items (line_of v k ∷ []) 0 n (omega (arith, under, before))
          ∙ begins_at k v n (omega (arith, h)) under
      | inr last ↦ ap (λ (l : List ℕ). get_or l n 0) is ∙ ap (λ (m : ℕ). get_or (old.items ++ line_of v k ∷ []) m 0) (last ∙ sym before)
          ∙ get_or-append_seam old.items (line_of v k) [] 0 ∙ ap (line_of v) (sym last)
    ]

-- ---- a line is one step's

one_step : (t : Layout) (ss : List Step) (line : ℕ) → Apart t ss line → line < 18446744073709551615 → (i j on : ℕ) → i < length ss → j < length ss
    → (at ss i).line ≤ on → on < (at ss i).line + height t (at ss i).kind → (at ss j).line ≤ on → on < (at ss j).line + height t (at ss j).kind → i ≡ j
one_step t ss line a few i j on hi hj li ui lj uj = choose (nat_lt i j) refl (nat_lt j i) refl
  where
    apart : (p q : ℕ) → p < q → q < length ss → p < length ss → (at ss q).line ≤ on → on < (at ss p).line + height t (at ss p).kind → ⊥
    apart p q less hq hp lq up = omega (arith, a.apart p q less hq, a.below p hp, few, lq, up)

    choose : (b : Bool) → nat_lt i j ≡ b → (d : Bool) → nat_lt j i ≡ d → i ≡ j
    choose true h d k = absurd (apart i j (below_by i j h) hj hi lj ui)
    choose false h true k = absurd (apart j i (below_by j i k) hi hj li uj)
    choose false h false k = omega (arith, not_below_by i j h, not_below_by j i k)

-- ---- where a field stands

stands_there : (x : Layout) (kind : StepKind) (n : ℕ) → stands_beside x kind n (cell_of x.grid n).first ≡ true → StandsBeside x kind n
stands_there x (steps.Row r) n h = equal (cell_number x.grid r (cell_of x.grid n).first) n h
stands_there x (steps.Bars r lines) n h =
    equal (cell_number x.grid r (cell_of x.grid n).first) n (both_right (nat_lt 0 lines) (cell_number x.grid r (cell_of x.grid n).first == n) h)
stands_there x (steps.Rule above below) n h = h
stands_there x (steps.Edge above) n h = not_true h
stands_there x (steps.Request s) n h = not_true h
stands_there x (steps.Beyond r) n h = not_true h
stands_there x (steps.Before r) n h = not_true h

after_is : (x : Layout) (kind : StepKind) → lines_after kind x ≡ lines_in x kind
after_is x (steps.Row r) = refl
after_is x (steps.Bars r lines) = refl
after_is x (steps.Rule above below) = refl
after_is x (steps.Edge above) = refl
after_is x (steps.Request s) = refl
after_is x (steps.Beyond r) = refl
after_is x (steps.Before r) = refl

-- beside it a step has as many lines as were counted
height_is : (t x : Layout) (kind : StepKind) (n : ℕ) → ((r : ℕ) → lines_of (tall x r) ≡ lines_of (tall t r)) → StandsBeside x kind n
    → lines_after kind x ≡ height t kind
height_is t x (steps.Row r) n same s = same r
height_is t x (steps.Bars r lines) n same s = refl
height_is t x (steps.Rule above below) n same s = refl
height_is t x (steps.Edge above) n same s = absurd s
height_is t x (steps.Request q) n same s = absurd s
height_is t x (steps.Beyond r) n same s = absurd s
height_is t x (steps.Before r) n same s = absurd s

-- found there, and on no other line
once : (t x : Layout) (n k line on : ℕ) → Apart t x.steps.items line → line < 18446744073709551615
    → ((r : ℕ) → lines_of (tall x r) ≡ lines_of (tall t r)) → Found x n (cell_of x.grid n).first on → on ≡ begin_line x n + k → StandsOnce x n k
once t x n k line on lie few same f is =
    let beside : StandsBeside x (step x f.0).kind n = stands_there x (step x f.0).kind n f.2 in
    let here : lines_after (step x f.0).kind x ≡ height t (step x f.0).kind = height_is t x (step x f.0).kind n same beside in
    record {
      which = f.0;
      on = on;
      there = record {
        there = f.1;
        after = f.3;
        before = omega (arith, f.4, after_is x (step x f.0).kind);
        beside = beside;
        line = is;
      };
      only = λ i o s.
          let other : lines_after (step x i).kind x ≡ height t (step x i).kind = height_is t x (step x i).kind n same s.beside in
          let o_is : o ≡ on = s.line ∙ sym is in (
            one_step t x.steps.items line lie few i f.0 on s.there f.1 (omega (arith, s.after, o_is)) (omega (arith, s.before, o_is, other)) f.3
                (omega (arith, f.4, after_is x (step x f.0).kind, here)),
            o_is,
          );
    }

-- ---- a line of a field

-- a line of a block that goes on over rows below
abbrev pub LineFound : Layout → ℕ → ℕ → Type 0
LineFound v n k = Found v n (cell_of v.grid n).first (line_wanted v (cell_of v.grid n) + k)

-- what is known of it when all lines are
record Known (t v : Layout) (n k line : ℕ) : Type 0 where
  inside : n < length v.grid.cells.items
  room : length v.grid.cells.items ≤ v.begins.capacity
  which : (tall v (cell_of v.grid n).top).step < length v.steps.items
  kind : (step v (tall v (cell_of v.grid n).top).step).kind ≡ steps.Row (cell_of v.grid n).top
  number : cell_number v.grid (cell_of v.grid n).top (cell_of v.grid n).first ≡ n
  lie : Apart t v.steps.items line
  few : line < 18446744073709551615
  same : (r : ℕ) → lines_of (tall v r) ≡ lines_of (tall t r)
  some : HasLines v
  stays : (cell_of v.grid n).falls ≡ false → k < lines_of (tall v (cell_of v.grid n).top)
  goes : (cell_of v.grid n).falls ≡ true
      → ((is_given (cell_of v.grid n).block ≡ false) × (k ≡ 0)) ⊎ ((is_given (cell_of v.grid n).block ≡ true) × LineFound v n k)

known_counted : (t v : Layout) (n k line : ℕ) → Known t v n k line → Counted v
known_counted t v n k line a j inside = omega (arith, a.lie.below j inside, a.few)

-- it stands beside each line of its row
own_found : (t v : Layout) (n k line : ℕ) → Known t v n k line → (i : ℕ) → i < lines_of (tall v (cell_of v.grid n).top)
    → Found v n (cell_of v.grid n).first (row_line v (cell_of v.grid n).top + i)
own_found t v n k line a i less =
    let f : Cell = cell_of v.grid n in
    let j : ℕ = (tall v f.top).step in
    let beside : stands_beside v (step v j).kind n f.first ≡ true =
    ap (λ (q : StepKind). stands_beside v q n f.first) a.kind ∙ eq-eqb (cell_number v.grid f.top f.first) n a.number in
    let lines : lines_in v (step v j).kind ≡ lines_of (tall v f.top) = ap (λ (q : StepKind). lines_in v q) a.kind in
    (j, a.which, beside, omega arith, omega (arith, lines, less))

first_found : (t v : Layout) (n k line : ℕ) → Known t v n k line → Found v n (cell_of v.grid n).first (row_line v (cell_of v.grid n).top)
first_found t v n k line a =
    let f : Cell = cell_of v.grid n in
    let e : row_line v f.top + 0 ≡ row_line v f.top = omega arith in
    subst (λ (i : ℕ). Found v n f.first i) e (own_found t v n k line a 0 (omega (arith, a.some f.top)))

falling_found : (t v : Layout) (n k line : ℕ) → Known t v n k line
    → Found v n (cell_of v.grid n).first (line_up_to v n (cell_of v.grid n) (line_wanted v (cell_of v.grid n)))
falling_found t v n k line a =
    let f : Cell = cell_of v.grid n in
    let start : ℕ = (tall v f.top).step in
    let all : start + (length v.steps.items - start) ≡ length v.steps.items = omega (arith, a.which) in
    found_among (length v.steps.items - start) v start n f.first (line_wanted v f) (row_line v f.top) a.some all (known_counted t v n k line a)
    (first_found t v n k line a)

text_found : (t v : Layout) (n k line : ℕ) → Known t v n k line → (b : Bool) → b ≡ false → k ≡ 0
    → Found v n (cell_of v.grid n).first
    ((if b then line_wanted v (cell_of v.grid n) else line_up_to v n (cell_of v.grid n) (line_wanted v (cell_of v.grid n))) + k)
text_found t v n k line a false e none =
    let f : Cell = cell_of v.grid n in
    let same : line_up_to v n f (line_wanted v f) ≡ line_up_to v n f (line_wanted v f) + k = omega (arith, none) in
    subst (λ (i : ℕ). Found v n f.first i) same (falling_found t v n k line a)
text_found t v n k line a true e none = not_true (sym e)

block_found : (v : Layout) (n k : ℕ) → (b : Bool) → b ≡ true → LineFound v n k
    → Found v n (cell_of v.grid n).first ((if b then line_wanted v (cell_of v.grid n) else line_up_to v n (cell_of v.grid n) (line_wanted v (cell_of v.grid n))) + k)
block_found v n k true e f = f
block_found v n k false e f = not_true e

line_found : (t v : Layout) (n k line : ℕ) → Known t v n k line → Found v n (cell_of v.grid n).first (line_of v n + k)
line_found t v n k line a = choose (cell_of v.grid n).falls refl
  where
    choose : (b : Bool) → (cell_of v.grid n).falls ≡ b
        → Found v n (cell_of v.grid n).first ((if b then falling_line v n (cell_of v.grid n) else row_line v (cell_of v.grid n).top) + k)
    choose true e =
        elim (a.goes e) [
          | inl g ↦ text_found t v n k line a (is_given (cell_of v.grid n).block) g.0 g.1
          | inr g ↦ block_found v n k (is_given (cell_of v.grid n).block) g.0 g.1
        ]
    choose false e = own_found t v n k line a k (a.stays e)

-- only where fields begin is another then
found_as : (v : Layout) (b : Items ℕ) (n c line : ℕ) → Found v n c line → Found (record v { begins = b }) n c line
found_as v b n c line f =
    (f.0, f.1, beside_as v b (step v f.0).kind n c ∙ f.2, f.3, omega (arith, f.4, lines_as v b (step v f.0).kind))

known_once : (t v : Layout) (n k line : ℕ) → Known t v n k line → StandsOnce (lines_settled v) n k
known_once t v n k line a =
    let m : ℕ = length v.grid.cells.items in
    let b : Items ℕ = begun_lines m v in
    let x : Layout = record v { begins = b } in
    let is : lines_settled v ≡ x = settled_is m v in
    let begin : begin_line x n ≡ line_of v n = begins_at m v n a.room a.inside in
    let on : line_of v n + k ≡ begin_line x n + k = ap (λ (i : ℕ). i + k) (sym begin) in
    subst (λ (y : Layout). StandsOnce y n k) (sym is)
    (once t x n k line (line_of v n + k) a.lie a.few a.same (found_as v b n (cell_of v.grid n).first (line_of v n + k) (line_found t v n k line a)) on)

-- ---- of a table whose fields are placed and whose rows have their heights

-- a field of a row has so many lines, or as many as there are numbers
pub record Fits (t : Layout) (ends : Bool) (n k : ℕ) : Type 0 where
  pub stays : (cell_of t.grid n).falls ≡ false
      → (k < lines_of (tall t (cell_of t.grid n).top)) ⊎ (lines_of (tall t (cell_of t.grid n).top) ≡ 18446744073709551615)
  pub goes : (cell_of t.grid n).falls ≡ true
      → ((is_given (cell_of t.grid n).block ≡ false) × (k ≡ 0)) ⊎ ((is_given (cell_of t.grid n).block ≡ true) × LineFound (steps_taken ends t) n k)

pub placed_once : (t : Layout) (ends : Bool) (n k : ℕ) → IsPlaced t.grid → length t.grid.table.rows.items ≤ length t.talls.items
    → 4 * length t.grid.table.items.items + 4 ≤ t.steps.capacity
    → HasLines t
    → (walked ends t).walk.line < 18446744073709551615
    → length t.grid.cells.items ≤ t.begins.capacity
    → n < length t.grid.cells.items
    → Fits t ends n k
    → StandsOnce (lines_settled (steps_taken ends t)) n k
placed_once t ends n k p many room some few begins inside fits =
    let w : Walking = walked ends t in
    let v : Layout = w.layout in
    let g : Grid = t.grid in
    let m : Reached t (length g.table.items.items) (suc (suc (suc (4 * length g.table.items.items + 1)))) w = steps_reached t ends p many room in
    let is : cell_of v.grid n ≡ cell_of g n = ap (λ (h : Grid). cell_of h n) m.grid in
    let top : (cell_of v.grid n).top ≡ (cell_of g n).top = ap (λ (c : Cell). c.top) is in
    let a = p.among n inside in
    let d = m.drawn a.0 (cell_of g n).top a.1 a.2 (p.own n inside) in
    let step_same : (tall v (cell_of v.grid n).top).step ≡ (tall v (cell_of g n).top).step = ap (λ (r : ℕ). (tall v r).step) top in
    let kind : (step v (tall v (cell_of v.grid n).top).step).kind ≡ steps.Row (cell_of v.grid n).top =
    ap (λ (i : ℕ). (step v i).kind) step_same ∙ d.1 ∙ ap (λ (r : ℕ). steps.Row r) (sym top) in
    let lines : lines_of (tall v (cell_of v.grid n).top) ≡ lines_of (tall t (cell_of g n).top) =
    ap (λ (r : ℕ). lines_of (tall v r)) top ∙ m.tall_as (cell_of g n).top in
    let which : (tall v (cell_of v.grid n).top).step < length v.steps.items = omega (arith, d.0, step_same) in
    let under : end_of t (at v.steps.items (tall v (cell_of v.grid n).top).step) ≤ w.walk.line = m.lie.below (tall v (cell_of v.grid n).top).step which in
    let tall_is : height t (step v (tall v (cell_of v.grid n).top).step).kind ≡ lines_of (tall t (cell_of v.grid n).top) = ap (height t) kind in
    let same : lines_of (tall t (cell_of v.grid n).top) ≡ lines_of (tall t (cell_of g n).top) = ap (λ (r : ℕ). lines_of (tall t r)) top in
    known_once t v n k w.walk.line (record {
      inside = omega (arith, inside, ap (λ (h : Grid). length h.cells.items) m.grid);
      room = omega (arith, begins, ap (λ (h : Grid). length h.cells.items) m.grid, ap (λ (b : Items ℕ). b.capacity) m.begins);
      which = which;
      kind = kind;
      number = ap (λ (h : Grid). cell_number h (cell_of h n).top (cell_of h n).first) m.grid ∙ p.first n inside;
      lie = m.lie;
      few = few;
      same = m.tall_as;
      some = λ r. omega (arith, some r, m.tall_as r);
      stays = λ e.
          elim (fits.stays (ap (λ (c : Cell). c.falls) (sym is) ∙ e)) [
            | inl less ↦ omega (arith, less, lines)
            | inr full ↦ absurd (let no : ⊥ = omega (arith, under, tall_is, same, full, few) in no)
          ];
      goes = λ e.
          let block : is_given (cell_of v.grid n).block ≡ is_given (cell_of g n).block = ap (λ (c : Cell). is_given c.block) is in
          elim (fits.goes (ap (λ (c : Cell). c.falls) (sym is) ∙ e)) [
            | inl h ↦ inl (block ∙ h.0, h.1)
            | inr h ↦ inr (block ∙ h.0, h.1)
          ];
    })
