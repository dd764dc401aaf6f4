-- The scan of an expression's text arrives at its value.
use Prim.Native.Char.{code}
use Rattle.std.proofs.Common.{◌≡◌, ℕ, zero, suc, ◌+◌, ◌-◌, ◌*◌, ◌/◌, ◌<◌, ◌≤◌, Bool, true, false, Option, Some, None, List, [], ◌∷◌, ◌++◌, length, ℤ, neg_ℤ, nat_le, unwrap_or, arith, refl, ap, sym, append_assoc, le-leb, ◌∙◌}
use Rattle.std.specs.Option.{option_map, option_and_then}
use Rattle.std.proofs.Math.Nat.{mul-le-mul_left}
use Rattle.nr_units.proofs.Rounding.{scaled-capped}
use Rattle.nr_units.specs.Units.{scaled}
use Rattle.nr_units.specs.Grammar.{Number, IsNumber, AreDigits, Operand, Expression, Numeral, Plus, Minus, Past, Parentheses, Single, Joined, blanks, operator_text, letter, digits_text, fraction_digits, fraction_text, scale_text, number_text, operand_text, expression_text}
use Rattle.nr_units.specs.Expression.{joined, past, operand_value, expression_value, whole_after, fraction_by}
use Rattle.nr_units.specs.Prefix.{no_prefix, after_minus, after_bar}
use Rattle.nr_units.specs.Scan.{symbol_of, nothing_waits, joined_left, finished, number_of, number_value, value_in, level_value, completed, in_mode, capped, more_fraction, with_digit, after_operator, mark_in, blank_in, with_mark, with_close, Scan, on_level, after_symbol, after_byte, run}
use Rattle.nr_units.specs.declared.units.Scale.{Scale}
use Rattle.nr_units.specs.declared.units.Scale.TheVariants.{Inch, Centimetre, Pica, VerticalSpace, Em, En, Point as PointScale, Unit as OneUnit}
use Rattle.nr_units.specs.declared.operators.Operator.{Operator}
use Rattle.nr_units.specs.declared.operators.Operator.TheVariants.{Add, Subtract, Multiply, Divide, Remainder, Less, LessOrEqual, Greater, GreaterOrEqual, Equal, DoubleEqual, And, Or}
use Rattle.nr_units.specs.declared.symbols.Symbol.TheVariants.{Digit, Letter, Mark}
use Rattle.nr_units.specs.declared.level.Waiting.{Waiting}
use Rattle.nr_units.specs.declared.level.Preceding.{Preceding}
use Rattle.nr_units.specs.declared.level.Preceding.TheVariants.{Nothing, AnOperator, ASign}
use Rattle.nr_units.specs.declared.level.Mode.{Mode}
use Rattle.nr_units.specs.declared.level.Mode.TheVariants.{Before, LonePoint, Whole, Fraction, Complete}
use Rattle.nr_units.specs.declared.expression.Ctx.{Ctx}
use Rattle.nr_units.proofs.Values.{IsInRange, operand_in_range, prefixed-none, prefixed-minus, prefixed-bar}

-- ---- one text after another

pub run-append : (c : Ctx) (s t : Scan) (u v : List ℕ) → run c s u ≡ Some t → run c s (u ++ v) ≡ run c t v
run-append c s t [] v h = let e : s ≡ t = cc in ap (λ x. run c x v) e
run-append c s t (b ∷ bs) v h =
    (elim (after_byte c s b) as (λ r. option_and_then (λ x. run c x bs) r ≡ Some t → option_and_then (λ x. run c x (bs ++ v)) r ≡ run c t v)
    [ None ↦ λ e. cc | Some x ↦ λ e. run-append c x t bs v e ]) h

pub run-then : (c : Ctx) (s t : Scan) (u v : List ℕ) (r : Option Scan) → run c s u ≡ Some t → run c t v ≡ r → run c s (u ++ v) ≡ r
run-then c s t u v r h k = run-append c s t u v h ∙ k

pub run-cons : (c : Ctx) (s t : Scan) (b : ℕ) (v : List ℕ) (r : Option Scan) → after_byte c s b ≡ Some t → run c t v ≡ r → run c s (b ∷ v) ≡ r
run-cons c s t b v r h k = ap (option_and_then (λ x. run c x v)) h ∙ k

pub run-one : (c : Ctx) (s t : Scan) (b : ℕ) → after_byte c s b ≡ Some t → run c s (b ∷ []) ≡ Some t
run-one c s t b h = run-cons c s t b [] (Some t) h refl

-- ---- where an operand ends

-- The text, read from s on, ends an operand, and makes the value v of the level.
pub record Ends (c : Ctx) (s : Scan) (u : List ℕ) (v : Option ℤ) (ws : List Waiting) : Type 0 where
  pub to : Scan
  pub runs : run c s u ≡ Some to
  pub value : level_value c to.level ≡ Some v
  pub outer : to.outer ≡ ws

abbrev pub before : Preceding → Waiting → List Waiting → Scan
before b w ws = record { level = record { mode = Before b; waiting = w }; outer = ws }

pub ends-then : (c : Ctx) (s t : Scan) (u u' : List ℕ) (v : Option ℤ) (ws : List Waiting) → run c s u ≡ Some t → Ends c t u' v ws → Ends c s (u ++ u') v ws
ends-then c s t u u' v ws h e = record { to = e.to; runs = run-then c s t u u' (Some e.to) h e.runs; value = e.value; outer = e.outer }

pub ends-cons : (c : Ctx) (s t : Scan) (b : ℕ) (u : List ℕ) (v : Option ℤ) (ws : List Waiting) → after_byte c s b ≡ Some t → Ends c t u v ws → Ends c s (b ∷ u) v ws
ends-cons c s t b u v ws h e = record { to = e.to; runs = run-cons c s t b u (Some e.to) h e.runs; value = e.value; outer = e.outer }

pub ends-value : (c : Ctx) (s : Scan) (u : List ℕ) (v v' : Option ℤ) (ws : List Waiting) → v ≡ v' → Ends c s u v ws → Ends c s u v' ws
ends-value c s u v v' ws h e = record { to = e.to; runs = e.runs; value = e.value ∙ ap Some h; outer = e.outer }

pub ends-text : (c : Ctx) (s : Scan) (u u' : List ℕ) (v : Option ℤ) (ws : List Waiting) → u ≡ u' → Ends c s u v ws → Ends c s u' v ws
ends-text c s u u' v ws h e = record { to = e.to; runs = ap (run c s) (sym h) ∙ e.runs; value = e.value; outer = e.outer }

-- ---- what blanks, operators and a closing parenthesis do there

pub blank_in-value : (c : Ctx) (w : Waiting) (m : Mode) (v : Option ℤ) → value_in c w m ≡ Some v → blank_in c w m ≡ Some (completed v)
blank_in-value c w (Before Nothing) v h = cc
blank_in-value c w (Before AnOperator) v h = cc
blank_in-value c w (Before ASign) v h = cc
blank_in-value c w LonePoint v h = cc
blank_in-value c w (Whole n) v h = ap (option_map completed) h
blank_in-value c w (Fraction n f p) v h = ap (option_map completed) h
blank_in-value c w (Complete x) v h = ap (option_map completed) h

pub mark_in-value : (c : Ctx) (o : Operator) (w : Waiting) (m : Mode) (v : Option ℤ) → value_in c w m ≡ Some v → mark_in c o w m ≡ Some (after_operator o v)
mark_in-value c o w (Before b) v h = cc
mark_in-value c o w LonePoint v h = cc
mark_in-value c o w (Whole n) v h = ap (option_map (after_operator o)) h
mark_in-value c o w (Fraction n f p) v h = ap (option_map (after_operator o)) h
mark_in-value c o w (Complete x) v h = ap (option_map (after_operator o)) h

-- Blanks stand only where a parenthesis is open.
abbrev pub IsOpen : Bool → List Waiting → Type 0
IsOpen false ws = Unit {0}
IsOpen true [] = ⊥
IsOpen true (w ∷ ws) = Unit {0}

-- blanks where an operand ended
pub blanks_after : (c : Ctx) (inside : Bool) (n : ℕ) (t : Scan) (v : Option ℤ) (ws : List Waiting) → IsOpen inside ws → level_value c t.level ≡ Some v → t.outer ≡ ws → Ends c t (blanks inside n) v ws
blanks_after c false n t v ws is h k = record { to = t; runs = refl; value = h; outer = k }
blanks_after c true zero t v ws is h k = record { to = t; runs = refl; value = h; outer = k }
blanks_after c true (suc n) t v [] is h k = absurd is
blanks_after c true (suc n) t v (w ∷ ws) is h k =
    let next : Scan = record { level = completed v; outer = w ∷ ws } in
    let e : t ≡ record t { outer = w ∷ ws } = ap (λ x. record t { outer = x }) k in
    let step : after_byte c t (code " ") ≡ Some next =
    ap (λ x. after_byte c x (code " ")) e ∙ ap (option_map (λ l. record { level = l; outer = w ∷ ws })) (blank_in-value c t.level.waiting t.level.mode v h) in
    ends-cons c t next (code " ") (blanks true n) v (w ∷ ws) step (blanks_after c true n next v (w ∷ ws) tt refl refl)

-- a closing parenthesis there
pub closes : (c : Ctx) (t : Scan) (v : Option ℤ) (w : Waiting) (ws : List Waiting) → level_value c t.level ≡ Some v → t.outer ≡ w ∷ ws → after_byte c t (code ")") ≡ Some (record { level = completed (finished w v); outer = ws })
closes c t v w ws h k =
    ap (with_close c t.level) k ∙ ap (option_map (λ x. record { level = completed (finished w x); outer = ws })) h

-- an operator there
pub marks : (c : Ctx) (t : Scan) (o : Operator) (v : Option ℤ) (ws : List Waiting) → level_value c t.level ≡ Some v → t.outer ≡ ws → after_symbol c t (Mark o) ≡ Some (record { level = after_operator o v; outer = ws })
marks c t o v ws h k =
    ap (λ x. option_map (λ l. record { level = l; outer = x }) (with_mark c o t.level)) k
    ∙ ap (option_map (λ l. record { level = l; outer = ws })) (mark_in-value c o t.level.waiting t.level.mode v h)

-- what stands after an operator
abbrev pub preceding : Operator → Preceding
preceding Add = AnOperator
preceding Subtract = AnOperator
preceding Multiply = AnOperator
preceding Divide = AnOperator
preceding Remainder = AnOperator
preceding Less = AnOperator
preceding LessOrEqual = Nothing
preceding Greater = AnOperator
preceding GreaterOrEqual = Nothing
preceding Equal = AnOperator
preceding DoubleEqual = Nothing
preceding And = AnOperator
preceding Or = AnOperator

abbrev pub operand_after : Operator → Option ℤ → List Waiting → Scan
operand_after o v ws = before (preceding o) (record { left = Some (record { value = v; operator = o }); prefix = no_prefix }) ws

pub operator_runs : (c : Ctx) (o : Operator) (t : Scan) (v : Option ℤ) (ws : List Waiting) → level_value c t.level ≡ Some v → t.outer ≡ ws → run c t (operator_text o) ≡ Some (operand_after o v ws)
operator_runs c Add t v ws h k = run-one c t _ (code "+") (marks c t Add v ws h k)
operator_runs c Subtract t v ws h k = run-one c t _ (code "-") (marks c t Subtract v ws h k)
operator_runs c Multiply t v ws h k = run-one c t _ 42 (marks c t Multiply v ws h k)
operator_runs c Divide t v ws h k = run-one c t _ 47 (marks c t Divide v ws h k)
operator_runs c Remainder t v ws h k = run-one c t _ 37 (marks c t Remainder v ws h k)
operator_runs c Less t v ws h k = run-one c t _ (code "<") (marks c t Less v ws h k)
operator_runs c LessOrEqual t v ws h k = run-cons c t _ (code "<") (code "=" ∷ []) _ (marks c t Less v ws h k) refl
operator_runs c Greater t v ws h k = run-one c t _ (code ">") (marks c t Greater v ws h k)
operator_runs c GreaterOrEqual t v ws h k = run-cons c t _ (code ">") (code "=" ∷ []) _ (marks c t Greater v ws h k) refl
operator_runs c Equal t v ws h k = run-one c t _ (code "=") (marks c t Equal v ws h k)
operator_runs c DoubleEqual t v ws h k = run-cons c t _ (code "=") (code "=" ∷ []) _ (marks c t Equal v ws h k) refl
operator_runs c And t v ws h k = run-one c t _ 38 (marks c t And v ws h k)
operator_runs c Or t v ws h k = run-one c t _ 58 (marks c t Or v ws h k)

-- ---- blanks before an operand

abbrev pub MayHaveBlanks : Preceding → Type 0
MayHaveBlanks Nothing = Unit {0}
MayHaveBlanks AnOperator = Unit {0}
MayHaveBlanks ASign = ⊥

pub preceding_may : (o : Operator) → MayHaveBlanks (preceding o)
preceding_may Add = tt
preceding_may Subtract = tt
preceding_may Multiply = tt
preceding_may Divide = tt
preceding_may Remainder = tt
preceding_may Less = tt
preceding_may LessOrEqual = tt
preceding_may Greater = tt
preceding_may GreaterOrEqual = tt
preceding_may Equal = tt
preceding_may DoubleEqual = tt
preceding_may And = tt
preceding_may Or = tt

blank_before : (c : Ctx) (b : Preceding) (w x : Waiting) (ws : List Waiting) → MayHaveBlanks b → after_byte c (before b w (x ∷ ws)) (code " ") ≡ Some (before Nothing w (x ∷ ws))
blank_before c Nothing w x ws may = refl
blank_before c AnOperator w x ws may = refl
blank_before c ASign w x ws may = absurd may

pub blanks_before : (c : Ctx) (inside : Bool) (n : ℕ) (b : Preceding) (w : Waiting) (ws : List Waiting) (u : List ℕ) (v : Option ℤ) → IsOpen inside ws → MayHaveBlanks b → ((b : Preceding) → Ends c (before b w ws) u v ws) → Ends c (before b w ws) (blanks inside n ++ u) v ws
blanks_before c false n b w ws u v is may ends = ends b
blanks_before c true zero b w ws u v is may ends = ends b
blanks_before c true (suc n) b w [] u v is may ends = absurd is
blanks_before c true (suc n) b w (x ∷ ws) u v is may ends =
    ends-cons c (before b w (x ∷ ws)) (before Nothing w (x ∷ ws)) (code " ") (blanks true n ++ u) v (x ∷ ws) (blank_before c b w x ws may)
    (blanks_before c true n Nothing w (x ∷ ws) u v is tt ends)

-- ---- numbers

symbol_of-digit : (d : ℕ) → d < 10 → symbol_of (code "0" + d) ≡ Some (Digit d)
symbol_of-digit d h =
    let e : (code "0" + d) - code "0" ≡ d = omega arith in
    let low : nat_le (code "0") (code "0" + d) ≡ true = le-leb (code "0") (code "0" + d) (omega arith) in
    let high : nat_le (code "0" + d) (code "9") ≡ true = le-leb (code "0" + d) (code "9") (omega arith) in
    rw (low, high, e) refl

abbrev pub in_number : Mode → Waiting → List Waiting → Scan
in_number m w ws = record { level = record { mode = m; waiting = w }; outer = ws }

digit_step : (c : Ctx) (m m' : Mode) (w : Waiting) (ws : List Waiting) (d : ℕ) → d < 10 → with_digit d m ≡ Some m' → after_byte c (in_number m w ws) (code "0" + d) ≡ Some (in_number m' w ws)
digit_step c m m' w ws d h e =
    ap (option_and_then (after_symbol c (in_number m w ws))) (symbol_of-digit d h)
    ∙ ap (λ r. on_level ws (option_map (in_mode (record { mode = m; waiting = w })) r)) e

capped-more : (n d : ℕ) → capped (capped (capped n * 10) + d) ≡ capped (10 * n + d)
capped-more n d = omega arith

whole_runs : (c : Ctx) (w : Waiting) (ws : List Waiting) (n : ℕ) (ds : List ℕ) → AreDigits ds → run c (in_number (Whole (capped n)) w ws) (digits_text ds) ≡ Some (in_number (Whole (capped (whole_after n ds))) w ws)
whole_runs c w ws n [] h = refl
whole_runs c w ws n (d ∷ ds) h =
    run-cons c (in_number (Whole (capped n)) w ws) (in_number (Whole (capped (10 * n + d))) w ws) (code "0" + d) (digits_text ds) _
    (digit_step c (Whole (capped n)) (Whole (capped (10 * n + d))) w ws d h.0 (ap (λ x. Some (Whole x)) (capped-more n d)))
    (whole_runs c w ws (10 * n + d) ds h.1)

whole_first : (c : Ctx) (b : Preceding) (w : Waiting) (ws : List Waiting) (d : ℕ) (ds : List ℕ) → AreDigits (d ∷ ds) → run c (before b w ws) (digits_text (d ∷ ds)) ≡ Some (in_number (Whole (capped (whole_after 0 (d ∷ ds)))) w ws)
whole_first c b w ws d ds h =
    let e : d ≡ capped (10 * 0 + d) = omega (arith, h.0) in
    run-cons c (before b w ws) (in_number (Whole (capped (10 * 0 + d))) w ws) (code "0" + d) (digits_text ds) _
    (digit_step c (Before b) (Whole (capped (10 * 0 + d))) w ws d h.0 (ap (λ x. Some (Whole x)) e))
    (whole_runs c w ws (10 * 0 + d) ds h.1)

capped_small : (f p d : ℕ) → f + 10 * p ≤ 10000 → d < 10 → (capped (f + capped (p * d)) ≡ f + p * d) × ((f + p * d) + 10 * (p / 10) ≤ 10000)
capped_small f p d small h =
    let most : p * d ≤ p * 9 = mul-le-mul_left p (omega arith) in
    (omega (arith, most), omega (arith, most))

fraction_runs : (c : Ctx) (w : Waiting) (ws : List Waiting) (x f p : ℕ) (ds : List ℕ) → AreDigits ds → f + 10 * p ≤ 10000 → (q : ℕ) × (run c (in_number (Fraction x f p) w ws) (digits_text ds) ≡ Some (in_number (Fraction x (f + fraction_by p ds) q) w ws))
fraction_runs c w ws x f p [] h small = (p, ap (λ y. Some (in_number (Fraction x y p) w ws)) (omega arith))
fraction_runs c w ws x f p (d ∷ ds) h small =
    let fits = capped_small f p d small h.0 in
    let more = fraction_runs c w ws x (f + p * d) (p / 10) ds h.1 fits.1 in
    let sum : (f + p * d) + fraction_by (p / 10) ds ≡ f + (p * d + fraction_by (p / 10) ds) = omega arith in (
      more.0,
      run-cons c (in_number (Fraction x f p) w ws) (in_number (Fraction x (f + p * d) (p / 10)) w ws) (code "0" + d) (digits_text ds) _
          (digit_step c (Fraction x f p) (Fraction x (f + p * d) (p / 10)) w ws d h.0 (ap (λ y. Some (Fraction x y (p / 10))) fits.0))
          (more.1 ∙ ap (λ y. Some (in_number (Fraction x y more.0) w ws)) sum),
    )

-- digits after a lone point, as after 0 and a point
lone_point : (c : Ctx) (w : Waiting) (ws : List Waiting) (d : ℕ) (ds : List ℕ) → d < 10 → run c (in_number LonePoint w ws) (digits_text (d ∷ ds)) ≡ run c (in_number (Fraction 0 0 1000) w ws) (digits_text (d ∷ ds))
lone_point c w ws d ds h =
    let to : Mode = more_fraction 0 0 1000 d in
    ap (option_and_then (λ t. run c t (digits_text ds)))
    (digit_step c LonePoint to w ws d h refl ∙ sym (digit_step c (Fraction 0 0 1000) to w ws d h refl))

-- The text brings the scan into a number of so many ten-thousandths.
pub record IsInNumber (c : Ctx) (s : Scan) (u : List ℕ) (n : ℕ) (w : Waiting) (ws : List Waiting) : Type 0 where
  pub mode : Mode
  pub runs : run c s u ≡ Some (in_number mode w ws)
  pub number : number_of mode ≡ Some n

digits_run : (c : Ctx) (b : Preceding) (w : Waiting) (ws : List Waiting) (whole : List ℕ) (fraction : Option (List ℕ)) → AreDigits whole → AreDigits (fraction_digits fraction) → 0 < length whole + length (fraction_digits fraction) → IsInNumber c (before b w ws) (digits_text whole ++ fraction_text fraction) (10000 * capped (whole_after 0 whole) + fraction_by 1000 (fraction_digits fraction)) w ws
digits_run c b w ws [] None h k some = absurd (omega arith)
digits_run c b w ws [] (Some []) h k some = absurd (omega arith)
digits_run c b w ws [] (Some (f ∷ fs)) h k some =
    let more = fraction_runs c w ws 0 0 1000 (f ∷ fs) k (omega arith) in
    record {
      mode = Fraction 0 (0 + fraction_by 1000 (f ∷ fs)) more.0;
      runs = run-cons c (before b w ws) (in_number LonePoint w ws) (code ".") (digits_text (f ∷ fs)) _ refl (lone_point c w ws f fs k.0 ∙ more.1);
      number = ap Some (omega arith);
    }
digits_run c b w ws (d ∷ ds) None h k some = record {
  mode = Whole (capped (whole_after 0 (d ∷ ds)));
  runs = run-then c (before b w ws) (in_number (Whole (capped (whole_after 0 (d ∷ ds)))) w ws) (digits_text (d ∷ ds)) [] _ (whole_first c b w ws d ds h) refl;
  number = ap Some (omega arith);
}
digits_run c b w ws (d ∷ ds) (Some fs) h k some =
    let x : ℕ = capped (whole_after 0 (d ∷ ds)) in
    let more = fraction_runs c w ws x 0 1000 fs k (omega arith) in
    record {
      mode = Fraction x (0 + fraction_by 1000 fs) more.0;
      runs = run-then c (before b w ws) (in_number (Whole x) w ws) (digits_text (d ∷ ds)) (code "." ∷ digits_text fs) _ (whole_first c b w ws d ds h) more.1;
      number = ap Some (omega arith);
    }

value_in-number : (c : Ctx) (w : Waiting) (m : Mode) (n : ℕ) → number_of m ≡ Some n → value_in c w m ≡ Some (number_value c c.default w n)
value_in-number c w (Before b) n h = cc
value_in-number c w LonePoint n h = cc
value_in-number c w (Whole x) n h = ap (option_map (number_value c c.default w)) h
value_in-number c w (Fraction x f p) n h = ap (option_map (number_value c c.default w)) h
value_in-number c w (Complete x) n h = cc

symbol_of-letter : (s : Scale) → symbol_of (letter s) ≡ Some (Letter s)
symbol_of-letter Inch = refl
symbol_of-letter Centimetre = refl
symbol_of-letter Pica = refl
symbol_of-letter VerticalSpace = refl
symbol_of-letter Em = refl
symbol_of-letter En = refl
symbol_of-letter PointScale = refl
symbol_of-letter OneUnit = refl

scale_ends : (c : Ctx) (w : Waiting) (ws : List Waiting) (m : Mode) (n : ℕ) (scale : Option Scale) → number_of m ≡ Some n → Ends c (in_number m w ws) (scale_text scale) (finished w (scaled c.v (unwrap_or scale c.default) n)) ws
scale_ends c w ws m n None h = record { to = in_number m w ws; runs = refl; value = value_in-number c w m n h; outer = refl }
scale_ends c w ws m n (Some s) h =
    let v : Option ℤ = number_value c s w n in
    record {
      to = record { level = completed v; outer = ws };
      runs = run-one c (in_number m w ws) (record { level = completed v; outer = ws }) (letter s)
          (ap (option_and_then (after_symbol c (in_number m w ws))) (symbol_of-letter s)
          ∙ ap (λ r. on_level ws (option_map (λ x. completed (number_value c s w x)) r)) h);
      value = refl;
      outer = refl;
    }

pub number_runs : (c : Ctx) (n : Number) (is : IsNumber n) (b : Preceding) (w : Waiting) (ws : List Waiting) → Ends c (before b w ws) (number_text n) (finished w (operand_value c (Numeral n is))) ws
number_runs c n is b w ws =
    let x : ℕ = 10000 * capped (whole_after 0 n.whole) + fraction_by 1000 (fraction_digits n.fraction) in
    let first = digits_run c b w ws n.whole n.fraction is.whole is.fraction is.not_empty in
    let last = scale_ends c w ws first.mode x n.scale first.number in
    ends-value c (before b w ws) (number_text n) (finished w (scaled c.v (unwrap_or n.scale c.default) x)) (finished w (operand_value c (Numeral n is))) ws
    (ap (finished w) (scaled-capped c.v (unwrap_or n.scale c.default) (whole_after 0 n.whole) (fraction_by 1000 (fraction_digits n.fraction))))
    (ends-text c (before b w ws) ((digits_text n.whole ++ fraction_text n.fraction) ++ scale_text n.scale) (number_text n) _ ws (append_assoc (digits_text n.whole) (fraction_text n.fraction) (scale_text n.scale))
    (ends-then c (before b w ws) (in_number first.mode w ws) (digits_text n.whole ++ fraction_text n.fraction) (scale_text n.scale) _ ws first.runs last))

-- ---- operands and expressions

pub finished-nothing : (v : Option ℤ) → IsInRange v → finished nothing_waits v ≡ v
finished-nothing v h = prefixed-none v h

pub finished-left : (x : Option ℤ) (o : Operator) (v : Option ℤ) → IsInRange v → finished (record { left = Some (record { value = x; operator = o }); prefix = no_prefix }) v ≡ joined o x v
finished-left x o v h = ap (joined o x) (prefixed-none v h)

mutual
  pub operand_runs : (c : Ctx) (o : Operand) (inside : Bool) (b : Preceding) (w : Waiting) (ws : List Waiting) → IsOpen inside ws → Ends c (before b w ws) (operand_text inside o) (finished w (operand_value c o)) ws
  operand_runs c (Numeral n is) inside b w ws open_is = number_runs c n is b w ws
  operand_runs c (Plus o) inside b w ws open_is =
      ends-cons c (before b w ws) (before ASign w ws) (code "+") (operand_text inside o) _ ws refl (operand_runs c o inside ASign w ws open_is)
  operand_runs c (Minus o) inside b w ws open_is =
      let next : Waiting = record { left = w.left; prefix = after_minus w.prefix } in
      ends-cons c (before b w ws) (before ASign next ws) (code "-") (operand_text inside o) _ ws refl
      (ends-value c (before ASign next ws) (operand_text inside o) (finished next (operand_value c o)) (finished w (option_map neg_ℤ (operand_value c o))) ws (ap (joined_left w.left) (prefixed-minus w.prefix (operand_value c o)))
      (operand_runs c o inside ASign next ws open_is))
  operand_runs c (Past n o) inside b w ws open_is =
      let next : Waiting = record { left = w.left; prefix = after_bar c.here w.prefix } in
      ends-cons c (before b w ws) (before Nothing next ws) (code "|") (blanks inside n ++ operand_text inside o) _ ws refl
      (ends-value c (before Nothing next ws) (blanks inside n ++ operand_text inside o) (finished next (operand_value c o)) (finished w (past c.here (operand_value c o))) ws (ap (joined_left w.left) (prefixed-bar c.here w.prefix (operand_value c o) (operand_in_range c o)))
      (blanks_before c inside n Nothing next ws (operand_text inside o) (finished next (operand_value c o)) open_is tt (λ b. operand_runs c o inside b next ws open_is)))
  operand_runs c (Parentheses n e m) inside b w ws open_is =
      let v : Option ℤ = expression_value c e in
      let first = blanks_before c true n Nothing nothing_waits (w ∷ ws) (expression_text true e) v tt tt (λ b. expression_runs c e true b (w ∷ ws) tt) in
      let second = blanks_after c true m first.to v (w ∷ ws) tt first.value first.outer in
      let last : Scan = record { level = completed (finished w v); outer = ws } in
      let begin : Scan = before Nothing nothing_waits (w ∷ ws) in
      ends-cons c (before b w ws) begin (code "(") (blanks true n ++ (expression_text true e ++ (blanks true m ++ code ")" ∷ []))) (finished w v) ws refl
      (ends-text c begin ((blanks true n ++ expression_text true e) ++ (blanks true m ++ code ")" ∷ [])) (blanks true n ++ (expression_text true e ++ (blanks true m ++ code ")" ∷ []))) (finished w v) ws (append_assoc (blanks true n) (expression_text true e) (blanks true m ++ code ")" ∷ []))
      (ends-then c begin first.to (blanks true n ++ expression_text true e) (blanks true m ++ code ")" ∷ []) (finished w v) ws first.runs
      (ends-then c first.to second.to (blanks true m) (code ")" ∷ []) (finished w v) ws second.runs
      (record { to = last; runs = run-one c second.to last (code ")") (closes c second.to v w ws second.value second.outer); value = refl; outer = refl }))))

  pub expression_runs : (c : Ctx) (e : Expression) (inside : Bool) (b : Preceding) (ws : List Waiting) → IsOpen inside ws → Ends c (before b nothing_waits ws) (expression_text inside e) (expression_value c e) ws
  expression_runs c (Single o) inside b ws open_is =
      ends-value c (before b nothing_waits ws) (operand_text inside o) (finished nothing_waits (operand_value c o)) (operand_value c o) ws (finished-nothing (operand_value c o) (operand_in_range c o))
      (operand_runs c o inside b nothing_waits ws open_is)
  expression_runs c (Joined e n p m o) inside b ws open_is =
      let x : Option ℤ = expression_value c e in
      let left : Waiting = record { left = Some (record { value = x; operator = p }); prefix = no_prefix } in
      let first = expression_runs c e inside b ws open_is in
      let second = blanks_after c inside n first.to x ws open_is first.value first.outer in
      let third = operator_runs c p second.to x ws second.value second.outer in
      let fourth = blanks_before c inside m (preceding p) left ws (operand_text inside o) (finished left (operand_value c o)) open_is (preceding_may p) (λ b. operand_runs c o inside b left ws open_is) in
      ends-value c (before b nothing_waits ws) (expression_text inside (Joined e n p m o)) (finished left (operand_value c o)) (joined p x (operand_value c o)) ws (finished-left x p (operand_value c o) (operand_in_range c o))
      (ends-then c (before b nothing_waits ws) first.to (expression_text inside e) _ _ ws first.runs
      (ends-then c first.to second.to (blanks inside n) _ _ ws second.runs
      (ends-then c second.to (operand_after p x ws) (operator_text p) _ _ ws third fourth)))
