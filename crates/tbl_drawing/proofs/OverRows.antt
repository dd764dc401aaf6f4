-- Where a field that goes on over rows below stands: beside which steps, and on which lines so far.
use Rattle.std.proofs.Common.{◌≡◌, ◌≢◌, ℕ, suc, ◌+◌, ◌<◌, ◌≤◌, Bool, true, false, ◌==◌, ◌&&◌, ◌||◌, not, nat_lt, List, [], ◌∷◌, ◌++◌, length, Option, None, Some, refl, ap, arith, ◌∙◌, inl, inr}
use Rattle.std.proofs.lemmas.Bool.Decides.{nat_tests}
use Rattle.tbl_columns.specs.declared.grid.Grid.{Grid}
use Rattle.tbl_columns.specs.Frames.{is_covered}
use Rattle.tbl_columns.specs.Held.{cell_number, cell_of, columns, placed}
use Rattle.tbl_drawing.specs.declared.layout.Layout.{Layout}
use Rattle.tbl_drawing.specs.declared.layout.Step.{Step}
use Rattle.tbl_drawing.specs.declared.layout.StepKind.{StepKind}
use Rattle.tbl_drawing.specs.declared.layout.StepKind.TheVariants as steps
use Rattle.tbl_drawing.specs.Held.{lines_of, tall}
use Rattle.tbl_drawing.specs.Steps.{Walking, released, step_at, stepped}
use Rattle.tbl_drawing.proofs.Below.{below_or, by_cases}
use Rattle.tbl_drawing.proofs.Once.{added_items, at, grown_before, grown_last, grown_len, height, ss_of}
use Rattle.tbl_table.specs.Sums.{sum}
use Rattle.tbl_drawing.proofs.WalkHas.{Stays}

pub equal_is : (a b : ℕ) → a ≡ b → (a == b) ≡ true
equal_is a b h = grind (arith, nat_tests, h)

pub differ_is : (a b : ℕ) → a ≢ b → not (a == b) ≡ true
differ_is a b h = grind (arith, nat_tests, h)

pub both : (a b : Bool) → a ≡ true → b ≡ true → (a && b) ≡ true
both true b h k = k
both false b h k = h

pub either_left : (a b : Bool) → a ≡ true → (a || b) ≡ true
either_left true b h = refl
either_left false b h = absurd (no h)
  where
    no : false ≡ true → ⊥
    no e = cc

pub either_right : (a b : Bool) → b ≡ true → (a || b) ≡ true
either_right true b h = refl
either_right false b h = h

-- ---- what is known of a field that is placed

pub record Over (g : Grid) (n : ℕ) : Type 0 where
  pub order : (cell_of g n).top ≤ (cell_of g n).bottom
  pub inside : (cell_of g n).bottom < length g.table.rows.items
  pub small : (cell_of g n).bottom < 18446744073709551615
  pub first : (cell_of g n).first < columns g
  pub stands : (r : ℕ) → (cell_of g n).top ≤ r → r ≤ (cell_of g n).bottom → cell_number g r (cell_of g n).first ≡ n
  pub own : (placed g (cell_of g n).bottom).own ≡ true
  pub begins : (placed g (cell_of g n).top).own ≡ true

-- ---- steps beside which a field stands

abbrev pub over_rule : Grid → Option ℕ → Option ℕ → ℕ → ℕ → Bool
over_rule g above None n c = false
over_rule g above (Some below) n c = is_covered g above (Some below) c && (cell_number g below c == n)

abbrev pub beside : Grid → StepKind → ℕ → ℕ → Bool
beside g (steps.Rule above below) n c = over_rule g above below n c
beside g (steps.Row r) n c = cell_number g r c == n
beside g (steps.Bars r lines) n c = nat_lt 0 lines && (cell_number g r c == n)
beside g (steps.Edge above) n c = false
beside g (steps.Request s) n c = false
beside g (steps.Beyond r) n c = false
beside g (steps.Before r) n c = false

abbrev pub FoundAt : Layout → List Step → ℕ → ℕ → Type 0
FoundAt t ss n o =
    (j : ℕ) × (j < length ss) × (beside t.grid (at ss j).kind n (cell_of t.grid n).first ≡ true) × ((at ss j).line ≤ o)
    × (o < (at ss j).line + height t (at ss j).kind)

abbrev pub Covered : Layout → List Step → ℕ → ℕ → ℕ → Type 0
Covered t ss n from to = (o : ℕ) → from ≤ o → o < to → FoundAt t ss n o

pub found_more : (t : Layout) (ss new : List Step) (s : Step) (n o : ℕ) → new ≡ ss ++ s ∷ [] → FoundAt t ss n o → FoundAt t new n o
found_more t ss new s n o is f =
    let same : at new f.0 ≡ at ss f.0 = grown_before ss new s is f.0 f.1 in
    let line : (at new f.0).line ≡ (at ss f.0).line = ap (λ (x : Step). x.line) same in
    let lines : height t (at new f.0).kind ≡ height t (at ss f.0).kind = ap (λ (x : Step). height t x.kind) same in (
      f.0,
      omega (arith, f.1, grown_len ss new s is),
      ap (λ (x : Step). beside t.grid x.kind n (cell_of t.grid n).first) same ∙ f.2,
      omega (arith, f.3, line),
      omega (arith, f.4, line, lines),
    )

pub covered_more : (t : Layout) (ss new : List Step) (kind : StepKind) (n from line lines : ℕ) → new ≡ ss ++ step_at kind line ∷ []
    → (0 < lines → beside t.grid kind n (cell_of t.grid n).first ≡ true) → (0 < lines → height t kind ≡ lines)
    → Covered t ss n from line → Covered t new n from (sum line lines)
covered_more t ss new kind n from line lines is stands high c o low less =
    elim (below_or o line) [
      | inl before ↦ found_more t ss new (step_at kind line) n o is (c o low before)
      | inr after ↦
          (let some : 0 < lines = omega (arith, after, less) in
          let last : at new (length ss) ≡ step_at kind line = grown_last ss new (step_at kind line) is (length ss) refl in
          let begins : (at new (length ss)).line ≡ line = ap (λ (x : Step). x.line) last in
          let many : height t (at new (length ss)).kind ≡ lines = ap (λ (x : Step). height t x.kind) last ∙ high some in (
            length ss,
            omega (arith, grown_len ss new (step_at kind line) is),
            ap (λ (x : Step). beside t.grid x.kind n (cell_of t.grid n).first) last ∙ stands some,
            omega (arith, begins, after),
            omega (arith, begins, many, less),
          ))
    ]

-- a row has its step
pub record Begun (ss : List Step) (r line : ℕ) : Type 0 where
  pub it : ℕ
  pub inside : it < length ss
  pub is : at ss it ≡ step_at (steps.Row r) line

pub begun_more : (ss new : List Step) (s : Step) (r line : ℕ) → new ≡ ss ++ s ∷ [] → Begun ss r line → Begun new r line
begun_more ss new s r line e b = record {
  it = b.it;
  inside = omega (arith, b.inside, grown_len ss new s e);
  is = grown_before ss new s e b.it b.inside ∙ b.is;
}

pub begun_now : (ss new : List Step) (r line : ℕ) → new ≡ ss ++ step_at (steps.Row r) line ∷ [] → Begun new r line
begun_now ss new r line e = record {
  it = length ss;
  inside = omega (arith, grown_len ss new (step_at (steps.Row r) line) e);
  is = grown_last ss new (step_at (steps.Row r) line) e (length ss) refl;
}

-- ---- the last row has its lines: what comes after it changes nothing

pub record Closed (t : Layout) (n : ℕ) (ss : List Step) : Type 0 where
  pub from : ℕ
  pub low : ℕ
  pub begun : Begun ss (cell_of t.grid n).top from
  pub ended : Begun ss (cell_of t.grid n).bottom low
  pub order : from ≤ low
  pub covered : Covered t ss n from (sum low (lines_of (tall t (cell_of t.grid n).bottom)))

pub closed_more : (t : Layout) (n : ℕ) (ss : List Step) (s : Step) → Closed t n ss → Closed t n (ss ++ s ∷ [])
closed_more t n ss s c = record {
  from = c.from;
  low = c.low;
  begun = begun_more ss (ss ++ s ∷ []) s (cell_of t.grid n).top c.from refl c.begun;
  ended = begun_more ss (ss ++ s ∷ []) s (cell_of t.grid n).bottom c.low refl c.ended;
  order = c.order;
  covered = λ o low less. found_more t ss (ss ++ s ∷ []) s n o refl (c.covered o low less);
}

pub stepped_closed : (t : Layout) (n : ℕ) (kind : StepKind) (lines : ℕ) (w : Walking) → Closed t n (ss_of w) → Closed t n (ss_of (stepped kind lines w))
stepped_closed t n kind lines w c =
    let s : Step = step_at kind w.walk.line in
    by_cases (Closed t n) (nat_lt (length (ss_of w)) w.layout.steps.capacity) (ss_of w ++ s ∷ []) (ss_of w)
    (λ e. closed_more t n (ss_of w) s c) (λ e. c)

abbrev pub IsClosed : Layout → ℕ → Walking → Type 0
IsClosed t n w = Closed t n (ss_of w)

pub closed_stays : (t : Layout) (n : ℕ) → Stays (IsClosed t n)
closed_stays t n = record {
  step = λ kind lines w c. stepped_closed t n kind lines w c;
  walk = λ w x c. c;
  tall = λ r w c. c;
}

-- ---- room for so many steps more

abbrev pub Room : ℕ → Walking → Type 0
Room m w = length (ss_of w) + m ≤ w.layout.steps.capacity

pub stepped_is : (kind : StepKind) (lines m : ℕ) (w : Walking) → Room (suc m) w → ss_of (stepped kind lines w) ≡ ss_of w ++ step_at kind w.walk.line ∷ []
stepped_is kind lines m w room = added_items (step_at kind w.walk.line) w.layout.steps (omega (arith, room))

pub stepped_room : (kind : StepKind) (lines m : ℕ) (w : Walking) → Room (suc m) w → Room m (stepped kind lines w)
stepped_room kind lines m w room =
    let len : length (ss_of (stepped kind lines w)) ≡ length (ss_of w) + 1 =
    grown_len (ss_of w) (ss_of (stepped kind lines w)) (step_at kind w.walk.line) (stepped_is kind lines m w room) in
    omega (arith, len, room)

pub released_room : (below : Option ℕ) (m : ℕ) (w : Walking) → Room (suc m) w → Room m (released below w)
released_room below m w room =
    by_cases (Room m) w.walk.ruled (stepped (steps.Rule w.walk.last below) 1 w) w (λ e. stepped_room (steps.Rule w.walk.last below) 1 m w room)
    (λ e. omega (arith, room))
