-- Lines fit in what is no narrower than the longest run.
use Rattle.std.proofs.Common.{◌≡◌, ℕ, ◌+◌, ◌-◌, ◌≤◌, Bool, true, false, ◌&&◌, max, nat_lt, List, [], ◌∷◌, refl, sym, ap, subst, arith, ◌∙◌, if◌then◌else◌}
use Rattle.std.proofs.lemmas.Bool.Decides.{nat_tests}
use Rattle.tbl_blocks.specs.declared.filling.Measure.{Measure}
use Rattle.tbl_blocks.specs.declared.parts.Join.{Join}
use Rattle.tbl_blocks.specs.declared.parts.Join.TheVariants as joins
use Rattle.tbl_blocks.specs.declared.parts.Line.{Line}
use Rattle.tbl_blocks.specs.declared.parts.Part.{Part}
use Rattle.tbl_blocks.specs.Filling.{begun, count, ended_before, filled, grown, indent_in, is_over, line_after, lines_from, longest, longest_from, opened, run, run_from, starts, together}
use Rattle.tbl_blocks.specs.Laws.{HasNoIndents, LongestFits, WordsFit, spread_width}
use Rattle.tbl_blocks.specs.Parts.{blanks, is_line, is_point, may_end, sum}
use Rattle.tbl_blocks.proofs.Fits.{after_blanks, both_left, line_ends, run_ended, run_goes_on}

differ : false ≡ true → ⊥
differ e = cc

-- ---- each run fits

abbrev RunsFit : ℕ → List Part → Type 0
RunsFit w [] = Unit {0}
RunsFit w (p ∷ ps) = (may_end p.join ≡ true → run_from (begun p) ps ≤ w) × RunsFit w ps

record Within (w most before : ℕ) (ps : List Part) : Type 0 where
  few : most ≤ w
  here : before ≤ most → run_from before ps ≤ w
  runs : RunsFit w ps

within : (w most before : ℕ) (ps : List Part) → longest_from false most before ps ≤ w → Within w most before ps
within w most before [] h = record { few = h; here = λ small. omega (arith, h, small); runs = tt }
within w most before (p ∷ ps) h =
    choose
    (within w (max (max most (ended_before p before)) (together false p before)) (together false p before) ps h)
    (may_end p.join) refl
  where
    more : ℕ
    more = sum before (sum (blanks p.join) p.cells)

    choose : Within w (max (max most (ended_before p before)) (together false p before)) (together false p before) ps → (b : Bool) → may_end p.join ≡ b
        → Within w most before (p ∷ ps)
    choose next true e =
        let is : together false p before ≡ begun p = ap (λ (c : Bool). if c then begun p else sum before (sum (blanks p.join) p.cells)) e in
        let run_fits : run_from (together false p before) ps ≤ w = next.here (omega arith) in
        record {
          few = omega (arith, next.few);
          here = λ small. omega (arith, run_ended before p ps e, next.few);
          runs = (λ ended. subst (λ (q : ℕ). run_from q ps ≤ w) is run_fits, next.runs);
        }
    choose next false e =
        let is : together false p before ≡ more = ap (λ (c : Bool). if c then begun p else sum before (sum (blanks p.join) p.cells)) e in
        let run_fits : run_from (together false p before) ps ≤ w = next.here (omega arith) in
        record {
          few = omega (arith, next.few);
          here = λ small. omega (arith, run_goes_on before p ps e, ap (λ (q : ℕ). run_from q ps) is, run_fits);
          runs = (λ ended. absurd (differ (sym e ∙ ended)), next.runs);
        }

-- ---- a line so far

record SoFar (w : ℕ) (l : Line) (ps : List Part) : Type 0 where
  few : l.cells ≤ 18446744073709551615
  even : l.lack ≡ 0
  here : run_from l.cells ps ≤ w
  runs : RunsFit w ps

opened_so_far : (w n row : ℕ) (left : Bool) (p : Part) (ps : List Part) → run_from (begun p) ps ≤ w → RunsFit w ps
    → SoFar w (opened n p row left) ps
opened_so_far w n row left p ps here runs = record { few = omega arith; even = refl; here = here; runs = runs }

spread_within : (w cells : ℕ) (b : Bool) → cells ≤ w → sum cells (if b then w - cells else 0) ≤ w
spread_within w cells true h = omega (arith, h)
spread_within w cells false h = omega (arith, h)

filled_within : (m : Measure) (l : Line) (p : Part) (ps : List Part) → SoFar m.width l (p ∷ ps) → may_end p.join ≡ true
    → sum (filled p m l).cells (filled p m l).lack ≤ m.width
filled_within m l p ps s e =
    spread_within m.width (sum l.cells (count (is_point p.join))) (m.spread && nat_lt 0 l.gaps) (omega (arith, run_ended l.cells p ps e, s.here))

grown_so_far : (w : ℕ) (l : Line) (p : Part) (ps : List Part) → SoFar w l (p ∷ ps) → is_over w (p ∷ ps) l ≡ false → (b : Bool)
    → may_end p.join ≡ b → SoFar w (grown p l) ps
grown_so_far w l p ps s over true e = record {
  few = omega arith;
  even = s.even;
  here = omega (arith, fits, after_blanks l.cells (blanks p.join) p.cells ps);
  runs = s.runs.1;
}
  where
    low : nat_lt w (sum l.cells (sum (blanks p.join) (run (p ∷ ps)))) ≡ false
    low = sym (ap (λ (b : Bool). b && nat_lt w (sum l.cells (sum (blanks p.join) (run (p ∷ ps))))) e) ∙ over

    fits : sum l.cells (sum (blanks p.join) (run (p ∷ ps))) ≤ w
    fits = grind (arith, nat_tests, low)
grown_so_far w l p ps s over false e = record {
  few = omega arith;
  even = s.even;
  here = omega (arith, s.here, run_goes_on l.cells p ps e);
  runs = s.runs.1;
}

-- ---- all lines

all_within : (m : Measure) (n : ℕ) (l : Line) (ps : List Part) → SoFar m.width l ps → spread_width (lines_from m n l ps) ≤ m.width
all_within m n l [] s = omega (arith, s.few, s.even, s.here)
all_within m n l (p ∷ ps) s = begins (λ (k : Line) (t : SoFar m.width k ps). all_within m (n + 1) k ps t) (is_line p.join) refl
  where
    next : ((k : Line) → SoFar m.width k ps → spread_width (lines_from m (n + 1) k ps) ≤ m.width) → may_end p.join ≡ true → (k : Line)
        → spread_width (lines_from m (n + 1) (line_after n p k) ps) ≤ m.width
    next rest e k = rest (line_after n p k) (opened_so_far m.width n _ _ p ps (s.runs.0 e) s.runs.1)

    over : ((k : Line) → SoFar m.width k ps → spread_width (lines_from m (n + 1) k ps) ≤ m.width) → (b : Bool)
        → is_over m.width (p ∷ ps) l ≡ b
        → spread_width (if b then filled p m l ∷ lines_from m (n + 1) (line_after n p (filled p m l)) ps
        else lines_from m (n + 1) (grown p l) ps) ≤ m.width
    over rest true h =
        let e : may_end p.join ≡ true =
        both_left (may_end p.join) (nat_lt m.width (sum l.cells (sum (blanks p.join) (run (p ∷ ps))))) h in
        omega (arith, filled_within m l p ps s e, next rest e (filled p m l))
    over rest false h = rest (grown p l) (grown_so_far m.width l p ps s h (may_end p.join) refl)

    begins : ((k : Line) → SoFar m.width k ps → spread_width (lines_from m (n + 1) k ps) ≤ m.width) → (b : Bool) → is_line p.join ≡ b
        → spread_width (if b then l ∷ lines_from m (n + 1) (line_after n p l) ps
        else (if is_over m.width (p ∷ ps) l then filled p m l ∷ lines_from m (n + 1) (line_after n p (filled p m l)) ps
        else lines_from m (n + 1) (grown p l) ps)) ≤ m.width
    begins rest true h =
        let e : may_end p.join ≡ true = line_ends p.join h in
        omega (arith, run_ended l.cells p ps e, s.few, s.even, s.here, next rest e l)
    begins rest false h = over rest (is_over m.width (p ∷ ps) l) refl

pub longest_fits : LongestFits
longest_fits m n [] h = omega arith
longest_fits m n (p ∷ ps) h =
    let all : Within m.width (begun p) (begun p) ps = within m.width (begun p) (begun p) ps h in
    all_within m (n + 1) (opened n p 0 true) ps (opened_so_far m.width n 0 true p ps (all.here (omega arith)) all.runs)

-- ---- words

-- what stands together in a word is no shorter than what does in a run
abbrev Grows : ℕ → ℕ → ℕ → ℕ → Join → Type 0
Grows indent cells low high join =
    (if starts false join then sum (indent_in indent join) cells else sum low (sum (blanks join) cells))
    ≤ (if starts true join then sum (indent_in indent join) cells else sum high (sum (blanks join) cells))

grows : (indent cells low high : ℕ) (join : Join) → indent ≡ 0 → low ≤ high → Grows indent cells low high join
grows indent cells low high joins.Glued none h = omega (arith, h)
grows indent cells low high joins.Cut none h = omega (arith, none)
grows indent cells low high joins.Point none h = omega (arith, none)
grows indent cells low high (joins.Gap n) none h = omega arith
grows indent cells low high (joins.Fixed n) none h = omega (arith, h)
grows indent cells low high (joins.Line space own) none h = omega arith

words_longer : (most low longer high : ℕ) (ps : List Part) → HasNoIndents ps → most ≤ longer → low ≤ high
    → longest_from false most low ps ≤ longest_from true longer high ps
words_longer most low longer high [] none m h = m
words_longer most low longer high (p ∷ ps) none m h =
    let t : together false p low ≤ together true p high = grows p.indent p.cells low high p.join none.0 h in
    words_longer (max (max most (ended_before p low)) (together false p low)) (together false p low)
    (max (max longer (ended_before p high)) (together true p high)) (together true p high) ps none.1 (omega (arith, m, h, t)) t

pub words_no_shorter : (ps : List Part) → HasNoIndents ps → longest false ps ≤ longest true ps
words_no_shorter [] none = omega arith
words_no_shorter (p ∷ ps) none = words_longer (begun p) (begun p) (begun p) (begun p) ps none.1 (omega arith) (omega arith)

pub words_fit : WordsFit
words_fit m n ps none h = longest_fits m n ps (omega (arith, h, words_no_shorter ps none))
