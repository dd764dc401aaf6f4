-- Lines are the same in a lesser width in which each of them fits.
use Rattle.std.proofs.Common.{◌≡◌, ℕ, ◌+◌, ◌<◌, ◌≤◌, Bool, true, false, ◌&&◌, nat_lt, List, [], ◌∷◌, refl, sym, ap, arith, ◌∙◌, if◌then◌else◌}
use Rattle.std.proofs.lemmas.Bool.Decides.{nat_tests}
use Rattle.tbl_blocks.specs.declared.filling.Measure.{Measure}
use Rattle.tbl_blocks.specs.declared.parts.Join.{Join}
use Rattle.tbl_blocks.specs.declared.parts.Join.TheVariants as joins
use Rattle.tbl_blocks.specs.declared.parts.Line.{Line}
use Rattle.tbl_blocks.specs.declared.parts.Part.{Part}
use Rattle.tbl_blocks.specs.Filling.{count, filled, grown, is_over, line_after, lines_from, opened, run, run_from}
use Rattle.tbl_blocks.specs.Laws.{CutBeforeCells, LinesStay, is_cut_before_cells, ragged, width_of}
use Rattle.tbl_blocks.specs.Parts.{blanks, is_line, is_point, may_end, sum}
use Rattle.tbl_blocks.proofs.Fits.{after_blanks, both_left, line_ends, run_ended, run_goes_on, shift}

if_true : {T : Type 0} → (b : Bool) (x y : T) → b ≡ true → (if b then x else y) ≡ x
if_true b x y h = ap (λ (c : Bool). if c then x else y) h

if_false : {T : Type 0} → (b : Bool) (x y : T) → b ≡ false → (if b then x else y) ≡ y
if_false b x y h = ap (λ (c : Bool). if c then x else y) h

-- ---- a line comes to its run at least, with the hyphen that may stand there

abbrev IsFew : Line → Type 0
IsFew l = l.cells ≤ 18446744073709551615

-- a run has the cells before it
cells_within : (c : ℕ) (ps : List Part) → c ≤ 18446744073709551615 → c ≤ run_from c ps
cells_within c ps few =
    let same : sum c 0 ≡ c = omega (arith, few) in
    let is : run_from c ps ≡ sum c (run_from 0 ps) = ap (λ (q : ℕ). run_from q ps) (sym same) ∙ shift c 0 ps in
    omega (arith, is, few)

line_is_no_point : (join : Join) → is_line join ≡ true → is_point join ≡ false
line_is_no_point (joins.Line space indent) h = refl
line_is_no_point joins.Glued h = cc
line_is_no_point joins.Cut h = refl
line_is_no_point joins.Point h = cc
line_is_no_point (joins.Gap n) h = refl
line_is_no_point (joins.Fixed n) h = refl

-- a line that goes on after a hyphen is no shorter than with the hyphen at its end
no_shorter : (p : Part) (cells : ℕ) → is_cut_before_cells p ≡ true
    → sum cells (count (is_point p.join)) ≤ sum cells (sum (blanks p.join) p.cells)
no_shorter p cells cut = by (is_point p.join) cut
  where
    by : (b : Bool) → (if b then nat_lt 0 p.cells else true) ≡ true → sum cells (count b) ≤ sum cells (sum (blanks p.join) p.cells)
    by true h = let some : 0 < p.cells = grind (arith, nat_tests, h) in omega (arith, some)
    by false h = omega arith

goes_on_least : (p : Part) (cells : ℕ) (ps : List Part) → is_cut_before_cells p ≡ true → (b : Bool) → may_end p.join ≡ b
    → run_from cells (p ∷ ps) ≤ run_from (sum cells (sum (blanks p.join) p.cells)) ps
goes_on_least p cells ps cut true h =
    let within : sum cells (sum (blanks p.join) p.cells) ≤ run_from (sum cells (sum (blanks p.join) p.cells)) ps =
    cells_within (sum cells (sum (blanks p.join) p.cells)) ps (omega arith) in
    omega (arith, within, no_shorter p cells cut, run_ended cells p ps h)
goes_on_least p cells ps cut false h = omega (arith, run_goes_on cells p ps h)

least : (m : Measure) (n : ℕ) (l : Line) (ps : List Part) → CutBeforeCells ps → IsFew l → run_from l.cells ps ≤ width_of (lines_from m n l ps)
least m n l [] cut few = omega arith
least m n l (p ∷ ps) cut few = begun (least m (n + 1) (grown p l) ps cut.1 (omega arith)) (is_line p.join) refl
  where
    from : Line → List Line
    from k = lines_from m (n + 1) k ps

    over : run_from (grown p l).cells ps ≤ width_of (lines_from m (n + 1) (grown p l) ps) → (b : Bool) → is_over m.width (p ∷ ps) l ≡ b
        → run_from l.cells (p ∷ ps) ≤ width_of (if b then filled p m l ∷ from (line_after n p (filled p m l)) else from (grown p l))
    over next true h =
        let ended : may_end p.join ≡ true = both_left (may_end p.join) (nat_lt m.width (sum l.cells (sum (blanks p.join) (run (p ∷ ps))))) h in
        omega (arith, run_ended l.cells p ps ended)
    over next false h =
        omega (arith, next, goes_on_least p l.cells ps cut.0 (may_end p.join) refl)

    begun : run_from (grown p l).cells ps ≤ width_of (lines_from m (n + 1) (grown p l) ps) → (b : Bool) → is_line p.join ≡ b
        → run_from l.cells (p ∷ ps) ≤ width_of (if b then l ∷ from (line_after n p l)
        else (if is_over m.width (p ∷ ps) l then filled p m l ∷ from (line_after n p (filled p m l)) else from (grown p l)))
    begun next true h =
        let none : count (is_point p.join) ≡ 0 = ap count (line_is_no_point p.join h) in
        omega (arith, run_ended l.cells p ps (line_ends p.join h), none, few)
    begun next false h = over next (is_over m.width (p ∷ ps) l) refl

-- ---- what is over a width is over a lesser one, and what fits the lesser one is not

both : (a b : Bool) → a ≡ true → b ≡ true → (a && b) ≡ true
both true b h k = k
both false b h k = h

both_right : (a b : Bool) → (a && b) ≡ true → b ≡ true
both_right true b h = h
both_right false b h = cc

over_lesser : (narrow wide : ℕ) (p : Part) (ps : List Part) (l : Line) → narrow ≤ wide → is_over wide (p ∷ ps) l ≡ true → is_over narrow (p ∷ ps) l ≡ true
over_lesser narrow wide p ps l less h =
    let far : nat_lt wide (sum l.cells (sum (blanks p.join) (run (p ∷ ps)))) ≡ true = both_right (may_end p.join) _ h in
    let wider : wide < sum l.cells (sum (blanks p.join) (run (p ∷ ps))) = grind (arith, nat_tests, far) in
    let further : narrow < sum l.cells (sum (blanks p.join) (run (p ∷ ps))) = omega (arith, less, wider) in
    let is : nat_lt narrow (sum l.cells (sum (blanks p.join) (run (p ∷ ps)))) ≡ true = grind (arith, nat_tests, further) in
    both (may_end p.join) _ (both_left (may_end p.join) _ h) is

not_both : (a b : Bool) → b ≡ false → (a && b) ≡ false
not_both true b h = h
not_both false b h = refl

not_over : (narrow : ℕ) (p : Part) (ps : List Part) (l : Line) → run_from (grown p l).cells ps ≤ narrow → is_over narrow (p ∷ ps) l ≡ false
not_over narrow p ps l fits =
    let within : sum l.cells (sum (blanks p.join) (run (p ∷ ps))) ≤ narrow = omega (arith, fits, after_blanks l.cells (blanks p.join) p.cells ps) in
    let is : nat_lt narrow (sum l.cells (sum (blanks p.join) (run (p ∷ ps)))) ≡ false = grind (arith, nat_tests, within) in
    not_both (may_end p.join) _ is

-- ---- the law

same : (narrow wide n : ℕ) (l : Line) (ps : List Part) → CutBeforeCells ps → IsFew l → narrow ≤ wide
    → width_of (lines_from (ragged wide) n l ps) ≤ narrow → lines_from (ragged narrow) n l ps ≡ lines_from (ragged wide) n l ps
same narrow wide n l [] cut few less fits = refl
same narrow wide n l (p ∷ ps) cut few less fits =
    begun (λ (k : Line) (few_more : IsFew k) (fit : width_of (lines_from (ragged wide) (n + 1) k ps) ≤ narrow). same narrow wide (n + 1) k ps cut.1 few_more less fit)
    (is_line p.join) refl fits
  where
    from : ℕ → Line → List Line
    from width k = lines_from (ragged width) (n + 1) k ps

    full : Line
    full = filled p (ragged wide) l

    over : ((k : Line) → IsFew k → width_of (lines_from (ragged wide) (n + 1) k ps) ≤ narrow → lines_from (ragged narrow) (n + 1) k ps ≡ lines_from (ragged wide) (n + 1) k ps)
        → (b : Bool) → is_over wide (p ∷ ps) l ≡ b → width_of (if b then full ∷ from wide (line_after n p full) else from wide (grown p l)) ≤ narrow
        → (if is_over narrow (p ∷ ps) l then full ∷ from narrow (line_after n p full) else from narrow (grown p l))
        ≡ (if b then full ∷ from wide (line_after n p full) else from wide (grown p l))
    over next true h fit =
        let fit_next : width_of (from wide (line_after n p full)) ≤ narrow = omega (arith, fit) in
        if_true (is_over narrow (p ∷ ps) l) (full ∷ from narrow (line_after n p full)) (from narrow (grown p l)) (over_lesser narrow wide p ps l less h)
        ∙ ap (λ (ls : List Line). full ∷ ls) (next (line_after n p full) (omega arith) fit_next)
    over next false h fit =
        let run_fits : run_from (grown p l).cells ps ≤ narrow = omega (arith, fit, least (ragged wide) (n + 1) (grown p l) ps cut.1 (omega arith)) in
        if_false (is_over narrow (p ∷ ps) l) (full ∷ from narrow (line_after n p full)) (from narrow (grown p l)) (not_over narrow p ps l run_fits)
        ∙ next (grown p l) (omega arith) fit

    begun : ((k : Line) → IsFew k → width_of (lines_from (ragged wide) (n + 1) k ps) ≤ narrow → lines_from (ragged narrow) (n + 1) k ps ≡ lines_from (ragged wide) (n + 1) k ps)
        → (b : Bool) → is_line p.join ≡ b
        → width_of (if b then l ∷ from wide (line_after n p l)
        else (if is_over wide (p ∷ ps) l then full ∷ from wide (line_after n p full) else from wide (grown p l))) ≤ narrow
        → (if b then l ∷ from narrow (line_after n p l)
        else (if is_over narrow (p ∷ ps) l then full ∷ from narrow (line_after n p full) else from narrow (grown p l)))
        ≡ (if b then l ∷ from wide (line_after n p l)
        else (if is_over wide (p ∷ ps) l then full ∷ from wide (line_after n p full) else from wide (grown p l)))
    begun next true h fit =
        let fit_next : width_of (from wide (line_after n p l)) ≤ narrow = omega (arith, fit) in
        ap (λ (ls : List Line). l ∷ ls) (next (line_after n p l) (omega arith) fit_next)
    begun next false h fit = over next (is_over wide (p ∷ ps) l) refl fit

pub lines_stay : LinesStay
lines_stay narrow wide n [] cut less fits = refl
lines_stay narrow wide n (p ∷ ps) cut less fits = same narrow wide (n + 1) (opened n p 0 true) ps cut.1 (omega arith) less fits
