-- Each line fits, or it is one run.
use Rattle.std.proofs.Common.{◌≡◌, ℕ, zero, suc, ◌+◌, ◌<◌, ◌≤◌, Bool, true, false, ◌&&◌, nat_lt, List, [], ◌∷◌, get_or, refl, sym, ap, subst, arith, ◌∙◌, inl, inr, if◌then◌else◌}
use Rattle.std.specs.Prelude.{◌⊎◌}
use Rattle.std.proofs.lemmas.Bool.Decides.{nat_tests}
use Rattle.tbl_blocks.specs.declared.filling.Measure.{Measure}
use Rattle.tbl_blocks.specs.declared.parts.Join.{Join}
use Rattle.tbl_blocks.specs.declared.parts.Join.TheVariants as joins
use Rattle.tbl_blocks.specs.declared.parts.Line.{Line}
use Rattle.tbl_blocks.specs.declared.parts.Part.{Part}
use Rattle.tbl_blocks.specs.Filling.{count, filled, grown, is_over, line_after, lines_from, opened, run, run_from}
use Rattle.tbl_blocks.specs.Laws.{AllFit, Fits, LinesFit}
use Rattle.tbl_blocks.specs.Parts.{blanks, is_line, is_point, may_end, no_part, sum}

-- ---- cells before a run count as those within it

sum_together : (a b c : ℕ) → sum (sum a b) c ≡ sum a (sum b c)
sum_together a b c = omega arith

pub shift : (a c : ℕ) (ps : List Part) → run_from (sum a c) ps ≡ sum a (run_from c ps)
shift a c [] = refl
shift a c (p ∷ ps) = choose (λ (q : ℕ). shift a q ps) (may_end p.join)
  where
    k : ℕ
    k = count (is_point p.join)

    m : ℕ
    m = sum (blanks p.join) p.cells

    choose : ((q : ℕ) → run_from (sum a q) ps ≡ sum a (run_from q ps)) → (b : Bool)
        → (if b then sum (sum a c) k else run_from (sum (sum a c) m) ps) ≡ sum a (if b then sum c k else run_from (sum c m) ps)
    choose later true = sum_together a c k
    choose later false = ap (λ (q : ℕ). run_from q ps) (sum_together a c m) ∙ later (sum c m)

-- a run after so many cells and blanks
pub after_blanks : (a b c : ℕ) (ps : List Part) → run_from (sum a (sum b c)) ps ≡ sum a (sum b (run_from c ps))
after_blanks a b c ps = shift a (sum b c) ps ∙ ap (sum a) (shift b c ps)

-- ---- a line so far

-- no line may end within it, up to a number
abbrev OneRun : ℕ → List Part → ℕ → ℕ → Type 0
OneRun base all first n = (i : ℕ) → first < base + i → base + i < n → may_end (get_or all i no_part).join ≡ false

-- what its run comes to fits, or it is one
record SoFar (width base n : ℕ) (all : List Part) (l : Line) (ps : List Part) : Type 0 where
  ends : l.«end» ≡ base + n
  few : l.cells ≤ 18446744073709551615
  rest : (i : ℕ) → get_or all (n + i) no_part ≡ get_or ps i no_part
  fits : (run_from l.cells ps ≤ width) ⊎ OneRun base all l.first (base + n)

pub line_ends : (join : Join) → is_line join ≡ true → may_end join ≡ true
line_ends (joins.Line space indent) h = refl
line_ends joins.Glued h = cc
line_ends joins.Cut h = refl
line_ends joins.Point h = refl
line_ends (joins.Gap n) h = refl
line_ends (joins.Fixed n) h = cc

pub both_left : (a b : Bool) → (a && b) ≡ true → a ≡ true
both_left true b h = refl
both_left false b h = h

pub run_ended : (cells : ℕ) (p : Part) (ps : List Part) → may_end p.join ≡ true → run_from cells (p ∷ ps) ≡ sum cells (count (is_point p.join))
run_ended cells p ps h =
    ap (λ (b : Bool). if b then sum cells (count (is_point p.join)) else run_from (sum cells (sum (blanks p.join) p.cells)) ps) h

pub run_goes_on : (cells : ℕ) (p : Part) (ps : List Part) → may_end p.join ≡ false
    → run_from cells (p ∷ ps) ≡ run_from (sum cells (sum (blanks p.join) p.cells)) ps
run_goes_on cells p ps h =
    ap (λ (b : Bool). if b then sum cells (count (is_point p.join)) else run_from (sum cells (sum (blanks p.join) p.cells)) ps) h

-- a line that ends here
closed_fits : (width base n : ℕ) (all : List Part) (l : Line) (p : Part) (ps : List Part) → SoFar width base n all l (p ∷ ps) → may_end p.join ≡ true
    → Fits width base all l
closed_fits width base n all l p ps s h = elim s.fits [
  | inl fit ↦ inl (omega (arith, fit, run_ended l.cells p ps h, s.few))
  | inr one ↦ inr (λ i low high. one i low (omega (arith, high, s.ends)))
]

filled_fits : (m : Measure) (base n : ℕ) (all : List Part) (l : Line) (p : Part) (ps : List Part) → SoFar m.width base n all l (p ∷ ps)
    → may_end p.join ≡ true → Fits m.width base all (filled p m l)
filled_fits m base n all l p ps s h = elim s.fits [
  | inl fit ↦ inl (omega (arith, fit, run_ended l.cells p ps h))
  | inr one ↦ inr (λ i low high. one i low (omega (arith, high, s.ends)))
]

rest_next : (n : ℕ) (all : List Part) (p : Part) (ps : List Part) → ((i : ℕ) → get_or all (n + i) no_part ≡ get_or (p ∷ ps) i no_part) → (i : ℕ)
    → get_or all (n + 1 + i) no_part ≡ get_or ps i no_part
rest_next n all p ps rest i =
    let is : n + 1 + i ≡ n + suc i = omega arith in
    ap (λ (k : ℕ). get_or all k no_part) is ∙ rest (suc i)

-- a line that begins with a part is one run
opened_so_far : (width base n row : ℕ) (left : Bool) (all : List Part) (p : Part) (ps : List Part)
    → ((i : ℕ) → get_or all (n + i) no_part ≡ get_or (p ∷ ps) i no_part) → SoFar width base (n + 1) all (opened (base + n) p row left) ps
opened_so_far width base n row left all p ps rest = record {
  ends = omega arith;
  few = omega arith;
  rest = rest_next n all p ps rest;
  fits = inr (λ i low high. absurd (none i low high));
}
  where
    none : (i : ℕ) → base + n < base + i → base + i < base + (n + 1) → ⊥
    none i low high = omega (arith, low, high)

this_one : (n : ℕ) (all : List Part) (p : Part) (ps : List Part) → ((i : ℕ) → get_or all (n + i) no_part ≡ get_or (p ∷ ps) i no_part)
    → get_or all n no_part ≡ p
this_one n all p ps rest =
    let is : n ≡ n + zero = omega arith in
    ap (λ (k : ℕ). get_or all k no_part) is ∙ rest zero

-- with a part more, whose run fits or that belongs to the one before
grown_so_far : (width base n : ℕ) (all : List Part) (l : Line) (p : Part) (ps : List Part) → SoFar width base n all l (p ∷ ps)
    → is_over width (p ∷ ps) l ≡ false → (b : Bool) → may_end p.join ≡ b → SoFar width base (n + 1) all (grown p l) ps
grown_so_far width base n all l p ps s over true h = record {
  ends = omega (arith, s.ends);
  few = omega arith;
  rest = rest_next n all p ps s.rest;
  fits = inl (omega (arith, within, after_blanks l.cells (blanks p.join) p.cells ps));
}
  where
    low : nat_lt width (sum l.cells (sum (blanks p.join) (run (p ∷ ps)))) ≡ false
    low = sym (ap (λ (b : Bool). b && nat_lt width (sum l.cells (sum (blanks p.join) (run (p ∷ ps))))) h) ∙ over

    within : sum l.cells (sum (blanks p.join) (run (p ∷ ps))) ≤ width
    within = grind (arith, nat_tests, low)
grown_so_far width base n all l p ps s over false h = record {
  ends = omega (arith, s.ends);
  few = omega arith;
  rest = rest_next n all p ps s.rest;
  fits = elim s.fits [
    | inl fit ↦ inl (omega (arith, fit, run_goes_on l.cells p ps h))
    | inr one ↦ inr (λ i low high. more one i low (nat_lt i n) refl high)
  ];
}
  where
    more : OneRun base all l.first (base + n) → (i : ℕ) → l.first < base + i → (b : Bool) → nat_lt i n ≡ b → base + i < base + (n + 1)
        → may_end (get_or all i no_part).join ≡ false
    more one i low true e high = one i low (grind (arith, nat_tests, e))
    more one i low false e high =
        let is : i ≡ n = grind (arith, nat_tests, e, high) in
        ap (λ (k : ℕ). may_end (get_or all k no_part).join) is ∙ ap (λ (q : Part). may_end q.join) (this_one n all p ps s.rest) ∙ h

-- ---- the law

all_fit : (m : Measure) (base n : ℕ) (all : List Part) (l : Line) (ps : List Part) → SoFar m.width base n all l ps
    → AllFit m.width base all (lines_from m (base + n) l ps)
all_fit m base n all l [] s = (ended, tt)
  where
    ended : Fits m.width base all l
    ended = elim s.fits [ inl fit ↦ inl fit | inr one ↦ inr (λ i low high. one i low (omega (arith, high, s.ends))) ]
all_fit m base n all l (p ∷ ps) s = begun (later (λ (k : Line) (t : SoFar m.width base (n + 1) all k ps). all_fit m base (n + 1) all k ps t)) (is_line p.join) refl
  where
    later : ((k : Line) → SoFar m.width base (n + 1) all k ps → AllFit m.width base all (lines_from m (base + (n + 1)) k ps))
        → (k : Line) → SoFar m.width base (n + 1) all k ps → AllFit m.width base all (lines_from m (base + n + 1) k ps)
    later rest k t =
        let is : base + (n + 1) ≡ base + n + 1 = omega arith in
        subst (λ (q : ℕ). AllFit m.width base all (lines_from m q k ps)) is (rest k t)

    next : ((k : Line) → SoFar m.width base (n + 1) all k ps → AllFit m.width base all (lines_from m (base + n + 1) k ps))
        → (k : Line) → AllFit m.width base all (lines_from m (base + n + 1) (line_after (base + n) p k) ps)
    next rest k = rest (line_after (base + n) p k) (opened_so_far m.width base n _ _ all p ps s.rest)

    over : ((k : Line) → SoFar m.width base (n + 1) all k ps → AllFit m.width base all (lines_from m (base + n + 1) k ps))
        → (b : Bool) → is_over m.width (p ∷ ps) l ≡ b
        → AllFit m.width base all (if b then filled p m l ∷ lines_from m (base + n + 1) (line_after (base + n) p (filled p m l)) ps
        else lines_from m (base + n + 1) (grown p l) ps)
    over rest true h =
        (filled_fits m base n all l p ps s (both_left (may_end p.join) (nat_lt m.width (sum l.cells (sum (blanks p.join) (run (p ∷ ps))))) h), next rest (filled p m l))
    over rest false h = rest (grown p l) (grown_so_far m.width base n all l p ps s h (may_end p.join) refl)

    begun : ((k : Line) → SoFar m.width base (n + 1) all k ps → AllFit m.width base all (lines_from m (base + n + 1) k ps))
        → (b : Bool) → is_line p.join ≡ b
        → AllFit m.width base all (if b then l ∷ lines_from m (base + n + 1) (line_after (base + n) p l) ps
        else (if is_over m.width (p ∷ ps) l then filled p m l ∷ lines_from m (base + n + 1) (line_after (base + n) p (filled p m l)) ps
        else lines_from m (base + n + 1) (grown p l) ps))
    begun rest true h = (closed_fits m.width base n all l p ps s (line_ends p.join h), next rest l)
    begun rest false h = over rest (is_over m.width (p ∷ ps) l) refl

pub lines_fit : LinesFit
lines_fit m n [] = tt
lines_fit m n (p ∷ ps) =
    let is : n + 0 ≡ n = omega arith in
    let more : n + 1 ≡ n + 1 = refl in
    all_fit m n 1 (p ∷ ps) (opened n p 0 true) ps (begun is)
  where
    zero_more : (i : ℕ) → 0 + i ≡ i
    zero_more i = omega arith

    begun : n + 0 ≡ n → SoFar m.width n 1 (p ∷ ps) (opened n p 0 true) ps
    begun is =
        subst (λ (q : ℕ). SoFar m.width n 1 (p ∷ ps) (opened q p 0 true) ps) is
        (opened_so_far m.width n 0 0 true (p ∷ ps) p ps (λ i. ap (λ (k : ℕ). get_or (p ∷ ps) k no_part) (zero_more i)))
