-- The prefixes of a text that are expressions, and its open parentheses, by the scan.
use Prim.Native.Char.{code}
use Rattle.std.proofs.Common.{◌≡◌, ℕ, ◌+◌, false, cond, ◌==◌, Option, Some, None, List, [], ◌∷◌, ◌++◌, length, ℤ, arith, refl, ap, sym, ne_eqb, append-nil, ◌∙◌}
use Rattle.std.specs.List.{count_by}
use Rattle.std.proofs.lemmas.List.Sums.{sum_by-cons}
use Rattle.std.specs.Option.{option_map, option_and_then}
use Rattle.nr_units.specs.Grammar.{Operand, Expression, operator_text, letter, operand_text, expression_text}
use Rattle.nr_units.specs.Expression.{expression_value, whole_after, fraction_by}
use Rattle.nr_units.specs.Scan.{symbol_of, finished, level_value, completed, in_mode, capped, with_digit, with_point, with_letter, bar_in, blank_in, with_mark, with_open, with_close, with_blank, on_level, fresh, Scan, after_symbol, after_byte, run, start}
use Rattle.nr_units.specs.declared.units.Scale.{Scale}
use Rattle.nr_units.specs.declared.units.Scale.TheVariants.{Inch, Centimetre, Pica, VerticalSpace, Em, En, Point as PointScale, Unit as OneUnit}
use Rattle.nr_units.specs.declared.operators.Operator.{Operator}
use Rattle.nr_units.specs.declared.operators.Operator.TheVariants.{Add, Subtract, Multiply, Divide, Remainder, Less, LessOrEqual, Greater, GreaterOrEqual, Equal, DoubleEqual, And, Or}
use Rattle.nr_units.specs.declared.symbols.Symbol.{Symbol}
use Rattle.nr_units.specs.declared.symbols.Symbol.TheVariants.{Digit, Point, Letter, Mark, Bar, Open, Close, Blank}
use Rattle.nr_units.specs.declared.level.Waiting.{Waiting}
use Rattle.nr_units.specs.declared.level.Preceding.TheVariants.{Nothing}
use Rattle.nr_units.specs.declared.level.Mode.{Mode}
use Rattle.nr_units.specs.declared.level.Mode.TheVariants.{Before, LonePoint, Whole, Fraction, Complete}
use Rattle.nr_units.specs.declared.level.Level.{Level}
use Rattle.nr_units.specs.declared.expression.Ctx.{Ctx}
use Rattle.nr_units.specs.Scan.{whole_value, outermost_value}
use Rattle.nr_units.proofs.Runs.{expression_runs}
use Rattle.nr_units.proofs.Places.{Slot, Outermost, Inside, Place, First, slot_of, is_inside, place_text, place_end, outer_slot, closed_place, closed_place_text}
use Rattle.nr_units.proofs.Steps.{State, AtPlace, AtPoint, InWhole, InFraction, After, state_text, shown, EndsAt, numeral, place_after, ends_whole, ends_fraction, ends_after}
use Rattle.nr_units.proofs.Texts.{goes, IsByteOf, symbol_tells}

-- ---- an expression's text is read whole, with its value

pub outermost-nil : (c : Ctx) (s : Scan) (v : Option (Option ℤ)) → level_value c s.level ≡ v → s.outer ≡ [] → whole_value c s ≡ v
outermost-nil c s v h k = ap (outermost_value c s.level) k ∙ h

pub record IsRead (c : Ctx) (u : List ℕ) (v : Option ℤ) : Type 0 where
  pub to : Scan
  pub runs : run c start u ≡ Some to
  pub value : whole_value c to ≡ Some v

pub expression_read : (c : Ctx) (e : Expression) → IsRead c (expression_text false e) (expression_value c e)
expression_read c e =
    let r = expression_runs c e false Nothing [] tt in
    record { to = r.to; runs = r.runs; value = outermost-nil c r.to (Some (expression_value c e)) r.value r.outer }

-- two expressions of one text have one value
pub one_value : (c : Ctx) (a b : Expression) → expression_text false a ≡ expression_text false b → expression_value c a ≡ expression_value c b
one_value c a b same =
    let x = expression_read c a in
    let y = expression_read c b in
    let ends : Some x.to ≡ Some y.to = sym x.runs ∙ ap (run c start) same ∙ y.runs in
    let to : x.to ≡ y.to = cc in
    let values : Some (expression_value c a) ≡ Some (expression_value c b) = sym x.value ∙ ap (whole_value c) to ∙ y.value in
    cc

-- ---- what is read whole is an expression

pub value_outer : (c : Ctx) (l : Level) (ws : List Waiting) (v : Option ℤ) → outermost_value c l ws ≡ Some v → (ws ≡ []) × (level_value c l ≡ Some v)
value_outer c l [] v h = (refl, h)
value_outer c l (w ∷ ws) v h = cc

pub record IsSpelled (c : Ctx) (u : List ℕ) (v : Option ℤ) : Type 0 where
  pub expression : Expression
  pub text : expression_text false expression ≡ u
  pub value : expression_value c expression ≡ v

slot_outermost : (c : Ctx) (k : Slot) (x : Expression) (n : ℕ) → outer_slot c k ≡ [] → state_text (After k x n) ≡ expression_text false x
slot_outermost c Outermost x n h = append-nil (expression_text false x)
slot_outermost c (Inside p m) x n h = cc

ends_spelled : (c : Ctx) (z : State) (e : EndsAt c z) (v : Option ℤ) → whole_value c (shown c z) ≡ Some v → IsSpelled c (state_text z) v
ends_spelled c z e v h =
    let w = value_outer c (shown c z).level (shown c z).outer v h in
    let same : Some (expression_value c e.expression) ≡ Some v = sym e.value ∙ w.1 in
    record {
      expression = e.expression;
      text = sym (e.text ∙ slot_outermost c e.slot e.expression e.count (sym e.outer ∙ w.0));
      value = cc;
    }

no_value : {P : Type 0} (c : Ctx) (l : Level) (ws : List Waiting) (v : Option ℤ) → level_value c l ≡ None → outermost_value c l ws ≡ Some v → P
no_value c l ws v e h =
    let w = value_outer c l ws v h in
    let no : ◌≡◌ {A = Option (Option ℤ)} None (Some v) = sym e ∙ w.1 in cc

state_spelled : (c : Ctx) (z : State) (v : Option ℤ) → whole_value c (shown c z) ≡ Some v → IsSpelled c (state_text z) v
state_spelled c (AtPlace p) v h = no_value c (shown c (AtPlace p)).level (shown c (AtPlace p)).outer v refl h
state_spelled c (AtPoint p) v h = no_value c (shown c (AtPoint p)).level (shown c (AtPoint p)).outer v refl h
state_spelled c (InWhole p ds a some) v h = ends_spelled c (InWhole p ds a some) (ends_whole c p ds a some) v h
state_spelled c (InFraction p ds fs a b some) v h = ends_spelled c (InFraction p ds fs a b some) (ends_fraction c p ds fs a b some) v h
state_spelled c (After k e n) v h = ends_spelled c (After k e n) (ends_after c k e n) v h

pub read_spelled : (c : Ctx) (u : List ℕ) (s : Scan) (v : Option ℤ) → run c start u ≡ Some s → whole_value c s ≡ Some v → IsSpelled c u v
read_spelled c u s v h value =
    let g = goes c (AtPlace (First Outermost)) u s h in
    let e = state_spelled c g.to v (ap (whole_value c) g.shows ∙ value) in
    record { expression = e.expression; text = e.text ∙ g.text; value = e.value }

-- ---- what is read can still become an expression, right after an open parenthesis

pub record CanEnd (u : List ℕ) : Type 0 where
  pub rest : List ℕ
  pub expression : Expression
  pub text : expression_text false expression ≡ u ++ rest

place_ends : (p : Place) (o : Operand) → CanEnd (place_text p)
place_ends p o = record { rest = operand_text (is_inside (slot_of p)) o ++ place_end p; expression = closed_place p o; text = sym (closed_place_text p o) }

state_ends : (c : Ctx) (z : State) → (shown c z).level ≡ fresh → CanEnd (state_text z)
state_ends c (AtPlace p) h = place_ends p (numeral (0 ∷ []) None None (omega arith, tt) tt (omega arith))
state_ends c (AtPoint p) h = let m : ◌≡◌ {A = Mode} LonePoint (Before Nothing) = ap (λ l. l.mode) h in absurd cc
state_ends c (InWhole p ds a some) h = let m : ◌≡◌ {A = Mode} (Whole (capped (whole_after 0 ds))) (Before Nothing) = ap (λ l. l.mode) h in absurd cc
state_ends c (InFraction p ds fs a b some) h =
    let m : ◌≡◌ {A = Mode} (Fraction (capped (whole_after 0 ds)) (fraction_by 1000 fs) (place_after 1000 fs)) (Before Nothing) = ap (λ l. l.mode) h in absurd cc
state_ends c (After k e n) h = let m : ◌≡◌ {A = Mode} (Complete (expression_value c e)) (Before Nothing) = ap (λ l. l.mode) h in absurd cc

pub open_ends : (c : Ctx) (u : List ℕ) (s : Scan) → run c start u ≡ Some s → s.level ≡ fresh → CanEnd u
open_ends c u s h is =
    let g = goes c (AtPlace (First Outermost)) u s h in
    let e = state_ends c g.to (ap (λ t. t.level) g.shows ∙ is) in
    record { rest = e.rest; expression = e.expression; text = e.text ∙ ap (λ v. v ++ e.rest) g.text }

-- ---- prefixes of what is read are read

pub run-prefix : (c : Ctx) (s t : Scan) (u v : List ℕ) → run c s (u ++ v) ≡ Some t → (r : Scan) × (run c s u ≡ Some r)
run-prefix c s t [] v h = (s, refl)
run-prefix c s t (b ∷ bs) v h =
    (elim (after_byte c s b) as (λ r. option_and_then (λ x. run c x (bs ++ v)) r ≡ Some t → (q : Scan) × (option_and_then (λ x. run c x bs) r ≡ Some q))
    [ None ↦ λ e. cc | Some x ↦ λ e. run-prefix c x t bs v e ]) h

-- ---- how many parentheses are open

abbrev pub opens : List ℕ → ℕ
opens u = count_by (λ b. b == code "(") u

abbrev pub closings : List ℕ → ℕ
closings u = count_by (λ b. b == code ")") u

pub level_keeps : (ws : List Waiting) (l : Option Level) (t : Scan) → on_level ws l ≡ Some t → t.outer ≡ ws
level_keeps ws None t h = cc
level_keeps ws (Some l) t h = let e : record { level = l; outer = ws } ≡ t = cc in ap (λ x. x.outer) (sym e)

blank_keeps : (c : Ctx) (l : Level) (ws : List Waiting) (t : Scan) → with_blank c l ws ≡ Some t → t.outer ≡ ws
blank_keeps c l [] t h = cc
blank_keeps c l (w ∷ ws) t h = level_keeps (w ∷ ws) (blank_in c l.waiting l.mode) t h

open_adds : (s : Scan) (m : Mode) (t : Scan) → with_open s m ≡ Some t → length t.outer ≡ length s.outer + 1
open_adds s (Before b) t h = let e : record { level = fresh; outer = s.level.waiting ∷ s.outer } ≡ t = cc in ap (λ x. length x.outer) (sym e) ∙ omega arith
open_adds s LonePoint t h = cc
open_adds s (Whole n) t h = cc
open_adds s (Fraction n f p) t h = cc
open_adds s (Complete v) t h = cc

pub open_fresh : (s : Scan) (m : Mode) (t : Scan) → with_open s m ≡ Some t → t.level ≡ fresh
open_fresh s (Before b) t h = let e : record { level = fresh; outer = s.level.waiting ∷ s.outer } ≡ t = cc in ap (λ x. x.level) (sym e)
open_fresh s LonePoint t h = cc
open_fresh s (Whole n) t h = cc
open_fresh s (Fraction n f p) t h = cc
open_fresh s (Complete v) t h = cc

close_takes : (c : Ctx) (l : Level) (ws : List Waiting) (t : Scan) → with_close c l ws ≡ Some t → length ws ≡ length t.outer + 1
close_takes c l [] t h = cc
close_takes c l (w ∷ ws) t h =
    (elim (level_value c l) as (λ r. option_map (λ v. record { level = completed (finished w v); outer = ws }) r ≡ Some t → length (w ∷ ws) ≡ length t.outer + 1) [
      | None ↦ λ e. cc
      | Some v ↦ λ e. let same : record { level = completed (finished w v); outer = ws } ≡ t = cc in let len : length ws ≡ length t.outer = ap (λ x. length x.outer) same in omega arith
    ]) h

-- what a byte adds to the open parentheses, and takes from them
abbrev opened : ℕ → ℕ
opened b = cond (b == code "(") 1 0

abbrev closed : ℕ → ℕ
closed b = cond (b == code ")") 1 0

plain : (b : ℕ) (m n : ℕ) → (b ≡ code "(" → ⊥) → (b ≡ code ")" → ⊥) → n ≡ m → opened b + m ≡ closed b + n
plain b m n not_open not_closed e = rw (ne_eqb b (code "(") not_open, ne_eqb b (code ")") not_closed) (omega arith)

letter_plain : (scale : Scale) → (letter scale ≡ code "(" → ⊥) × (letter scale ≡ code ")" → ⊥)
letter_plain Inch = (λ e. omega arith, λ e. omega arith)
letter_plain Centimetre = (λ e. omega arith, λ e. omega arith)
letter_plain Pica = (λ e. omega arith, λ e. omega arith)
letter_plain VerticalSpace = (λ e. omega arith, λ e. omega arith)
letter_plain Em = (λ e. omega arith, λ e. omega arith)
letter_plain En = (λ e. omega arith, λ e. omega arith)
letter_plain PointScale = (λ e. omega arith, λ e. omega arith)
letter_plain OneUnit = (λ e. omega arith, λ e. omega arith)

mark_plain : (o : Operator) (b : ℕ) → operator_text o ≡ b ∷ [] → (b ≡ code "(" → ⊥) × (b ≡ code ")" → ⊥)
mark_plain Add b h = let e : code "+" ≡ b = cc in (λ k. omega arith, λ k. omega arith)
mark_plain Subtract b h = let e : code "-" ≡ b = cc in (λ k. omega arith, λ k. omega arith)
mark_plain Multiply b h = let e : 42 ≡ b = cc in (λ k. omega arith, λ k. omega arith)
mark_plain Divide b h = let e : 47 ≡ b = cc in (λ k. omega arith, λ k. omega arith)
mark_plain Remainder b h = let e : 37 ≡ b = cc in (λ k. omega arith, λ k. omega arith)
mark_plain Less b h = let e : code "<" ≡ b = cc in (λ k. omega arith, λ k. omega arith)
mark_plain LessOrEqual b h = absurd cc
mark_plain Greater b h = let e : code ">" ≡ b = cc in (λ k. omega arith, λ k. omega arith)
mark_plain GreaterOrEqual b h = absurd cc
mark_plain Equal b h = let e : code "=" ≡ b = cc in (λ k. omega arith, λ k. omega arith)
mark_plain DoubleEqual b h = absurd cc
mark_plain And b h = let e : 38 ≡ b = cc in (λ k. omega arith, λ k. omega arith)
mark_plain Or b h = let e : 58 ≡ b = cc in (λ k. omega arith, λ k. omega arith)

symbol_depth : (c : Ctx) (s : Scan) (b : ℕ) (y : Symbol) (t : Scan) → IsByteOf b y → after_symbol c s y ≡ Some t → opened b + length s.outer ≡ closed b + length t.outer
symbol_depth c s b (Digit d) t is h =
    plain b (length s.outer) (length t.outer) (λ e. omega (arith, is.0, is.1)) (λ e. omega (arith, is.0, is.1)) (ap length (level_keeps s.outer (option_map (in_mode s.level) (with_digit d s.level.mode)) t h))
symbol_depth c s b Point t is h =
    plain b (length s.outer) (length t.outer) (λ e. omega arith) (λ e. omega arith) (ap length (level_keeps s.outer (option_map (in_mode s.level) (with_point s.level.mode)) t h))
symbol_depth c s b (Letter scale) t is h =
    plain b (length s.outer) (length t.outer) (λ e. (letter_plain scale).0 (sym is ∙ e)) (λ e. (letter_plain scale).1 (sym is ∙ e)) (ap length (level_keeps s.outer (with_letter c scale s.level) t h))
symbol_depth c s b (Mark o) t is h =
    let p = mark_plain o b is.0 in plain b (length s.outer) (length t.outer) p.0 p.1 (ap length (level_keeps s.outer (with_mark c o s.level) t h))
symbol_depth c s b Bar t is h =
    plain b (length s.outer) (length t.outer) (λ e. omega arith) (λ e. omega arith) (ap length (level_keeps s.outer (bar_in c.here s.level.waiting s.level.mode) t h))
symbol_depth c s b Open t is h = let e = open_adds s s.level.mode t h in rw is (omega arith)
symbol_depth c s b Close t is h = let e = close_takes c s.level s.outer t h in rw is (omega arith)
symbol_depth c s b Blank t is h =
    plain b (length s.outer) (length t.outer) (λ e. omega arith) (λ e. omega arith) (ap length (blank_keeps c s.level s.outer t h))

byte_depth : (c : Ctx) (s : Scan) (b : ℕ) (t : Scan) → after_byte c s b ≡ Some t → opened b + length s.outer ≡ closed b + length t.outer
byte_depth c s b t h =
    (elim (symbol_of b) as (λ r. symbol_of b ≡ r → option_and_then (after_symbol c s) r ≡ Some t → opened b + length s.outer ≡ closed b + length t.outer)
    [ None ↦ λ e k. cc | Some y ↦ λ e k. symbol_depth c s b y t (symbol_tells b y e) k ]) refl h

pub depth : (c : Ctx) (s : Scan) (u : List ℕ) (t : Scan) → run c s u ≡ Some t → opens u + length s.outer ≡ closings u + length t.outer
depth c s [] t h = let e : s ≡ t = cc in ap (λ x. 0 + length x.outer) e
depth c s (b ∷ bs) t h =
    (elim (after_byte c s b) as (λ r. after_byte c s b ≡ r → option_and_then (λ x. run c x bs) r ≡ Some t → opens (b ∷ bs) + length s.outer ≡ closings (b ∷ bs) + length t.outer) [
      | None ↦ λ e k. cc
      | Some x ↦ λ e k. let one = byte_depth c s b x e in let more = depth c x bs t k in omega (arith, one, more, sum_by-cons opened b bs, sum_by-cons closed b bs)
    ]) refl h
