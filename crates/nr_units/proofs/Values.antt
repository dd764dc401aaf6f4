-- Values of expressions are in range, and what a prefix makes of them.
use Rattle.std.proofs.Common.{◌≡◌, ℕ, zero, suc, ◌*◌, ◌/◌, ◌%◌, FitsSigned, to_z, of_z, ◌<◌, ◌≤◌, min, Bool, true, false, cond, ◌&&◌, Option, Some, None, ℤ, pos, negsuc, neg_ℤ, ◌+ℤ◌, ◌-ℤ◌, ◌*ℤ◌, ◌⊎◌, inl, inr, ◌≤ℤ◌, ◌<ℤ◌, unsigned_abs, arith, refl, ap, sym, ◌∙◌}
use Rattle.std.specs.Prelude.{int_le, int_lt, int_div, int_rem, ◌||◌}
use Rattle.std.specs.Ordering.{int_eq}
use Rattle.std.specs.Cmp.{signed_Decides}
use Rattle.std.proofs.Math.Nat.{div-le_self, mod-le}
use Rattle.std.specs.Option.{option_map, option_and_then}
use Rattle.std.specs.Int.{w32, w64, saturate_signed}
use Rattle.std.proofs.lemmas.Int.{ints, int_max_is, int_min_is, by_lt_z, to_z-of_z, fits_signed_from_abs}
use Rattle.std.proofs.lemmas.Bool.Decides.{nat_tests, leb_tells}
use Rattle.nr_units.specs.Units.{in_range, scaled, numerator, denominator, nearest, with_sign_of}
use Rattle.nr_units.specs.declared.units.Scale.{Scale}
use Rattle.nr_units.specs.Grammar.{Operand, Expression, Numeral, Plus, Minus, Past, Parentheses, Single, Joined}
use Rattle.nr_units.specs.Expression.{applied, quotient, remainder, truth, joined, past, operand_value, expression_value}
use Rattle.nr_units.specs.Prefix.{prefixed, shifted, checked, no_prefix, after_minus, after_bar}
use Rattle.nr_units.specs.declared.expression.Ctx.{Ctx}
use Rattle.nr_units.specs.declared.prefix.Prefix.{Prefix}
use Rattle.nr_units.specs.declared.operators.Operator.{Operator}
use Rattle.nr_units.specs.declared.operators.Operator.TheVariants.{Add, Subtract, Multiply, Divide, Remainder, Less, LessOrEqual, Greater, GreaterOrEqual, Equal, DoubleEqual, And, Or}

-- a value, if there is one, is in range
abbrev pub IsInRange : Option ℤ → Type 0
IsInRange None = Unit {0}
IsInRange (Some x) = unsigned_abs x ≤ 2147483647

pub cond_in_range : (b : Bool) (x y : Option ℤ) → IsInRange x → IsInRange y → IsInRange (cond b x y)
cond_in_range true x y h k = h
cond_in_range false x y h k = k

pub in_range_in_range : (z : ℤ) → IsInRange (in_range z)
in_range_in_range z =
    elim (leb_tells (unsigned_abs z) 2147483647) [ inl w ↦ rw w.0 w.1 | inr w ↦ rw w.0 tt ]

truth_in_range : (b : Bool) → IsInRange (truth b)
truth_in_range true = omega arith
truth_in_range false = omega arith

applied_in_range : (o : Operator) (x y : ℤ) → IsInRange (applied o x y)
applied_in_range Add x y = in_range_in_range (x +ℤ y)
applied_in_range Subtract x y = in_range_in_range (x -ℤ y)
applied_in_range Multiply x y = in_range_in_range (x *ℤ y)
applied_in_range Divide x y = cond_in_range (int_eq y (pos 0)) None (in_range (int_div x y)) tt (in_range_in_range (int_div x y))
applied_in_range Remainder x y = cond_in_range (int_eq y (pos 0)) None (in_range (int_rem x y)) tt (in_range_in_range (int_rem x y))
applied_in_range Less x y = truth_in_range (int_lt x y)
applied_in_range LessOrEqual x y = truth_in_range (int_le x y)
applied_in_range Greater x y = truth_in_range (int_lt y x)
applied_in_range GreaterOrEqual x y = truth_in_range (int_le y x)
applied_in_range Equal x y = truth_in_range (int_eq x y)
applied_in_range DoubleEqual x y = truth_in_range (int_eq x y)
applied_in_range And x y = truth_in_range (int_lt (pos 0) x && int_lt (pos 0) y)
applied_in_range Or x y = truth_in_range (int_lt (pos 0) x || int_lt (pos 0) y)

pub joined_in_range : (o : Operator) (x y : Option ℤ) → IsInRange (joined o x y)
joined_in_range o (Some x) (Some y) = applied_in_range o x y
joined_in_range o (Some x) None = tt
joined_in_range o None (Some y) = tt
joined_in_range o None None = tt

past_in_range : (here : ℤ) (v : Option ℤ) → IsInRange (past here v)
past_in_range here None = tt
past_in_range here (Some x) = in_range_in_range (x -ℤ here)

negated_in_range : (v : Option ℤ) → IsInRange v → IsInRange (option_map neg_ℤ v)
negated_in_range None h = tt
negated_in_range (Some (pos zero)) h = h
negated_in_range (Some (pos (suc n))) h = h
negated_in_range (Some (negsuc n)) h = h

scaled_in_range : (v : ℤ) (s : Scale) (n : ℕ) → IsInRange (scaled v s n)
unfolding scaled
scaled_in_range v s n = in_range_in_range (with_sign_of (numerator v s) (nearest (n * unsigned_abs (numerator v s)) (10000 * denominator s)))

mutual
  pub operand_in_range : (c : Ctx) (o : Operand) → IsInRange (operand_value c o)
  operand_in_range c (Numeral n is) = scaled_in_range _ _ _
  operand_in_range c (Plus o) = operand_in_range c o
  operand_in_range c (Minus o) = negated_in_range (operand_value c o) (operand_in_range c o)
  operand_in_range c (Past n o) = past_in_range c.here (operand_value c o)
  operand_in_range c (Parentheses n e m) = expression_in_range c e

  pub expression_in_range : (c : Ctx) (e : Expression) → IsInRange (expression_value c e)
  expression_in_range c (Single o) = operand_in_range c o
  expression_in_range c (Joined e n p m o) = joined_in_range p (expression_value c e) (operand_value c o)

-- what in_range says
pub in_range-near : (z : ℤ) → unsigned_abs z ≤ 2147483647 → in_range z ≡ Some z
in_range-near z h = grind (arith, nat_tests)

pub in_range-far : (z : ℤ) → 2147483647 < unsigned_abs z → in_range z ≡ None
in_range-far z h = grind (arith, nat_tests)

-- a magnitude by the order of integers, and back
pub near_bounds : (z : ℤ) → unsigned_abs z ≤ 2147483647 → (neg_ℤ (pos 2147483647) ≤ℤ z) × (z ≤ℤ pos 2147483647)
near_bounds (pos n) h = (omega (arith, ints), omega (arith, ints))
near_bounds (negsuc n) h = (omega (arith, ints), omega (arith, ints))

-- in range, above or below
pub by_range : {P : Type 0} (z : ℤ) → ((neg_ℤ (pos 2147483647) ≤ℤ z) → (z ≤ℤ pos 2147483647) → in_range z ≡ Some z → P) → (z <ℤ neg_ℤ (pos 2147483647) → in_range z ≡ None → P) → (pos 2147483647 <ℤ z → in_range z ≡ None → P) → P
by_range (pos n) near below above =
    elim (leb_tells n 2147483647) [
      | inl w ↦ near (omega (arith, ints)) (let h = w.1 in omega (arith, ints)) (in_range-near (pos n) w.1)
      | inr w ↦ above (let h = w.1 in omega (arith, ints)) (in_range-far (pos n) w.1)
    ]
by_range (negsuc n) near below above =
    elim (leb_tells (suc n) 2147483647) [
      | inl w ↦ near (let h = w.1 in omega (arith, ints)) (omega (arith, ints)) (in_range-near (negsuc n) w.1)
      | inr w ↦ below (let h = w.1 in omega (arith, ints)) (in_range-far (negsuc n) w.1)
    ]

-- when all values on the way were in range
pub checked-yes : (p : Prefix) (z : ℤ) → p.greatest ≤ℤ (z +ℤ pos 2147483647) → (z -ℤ pos 2147483647) ≤ℤ p.least → checked p z ≡ Some z
checked-yes p z low high = grind (arith, ints)

pub checked-above : (p : Prefix) (z : ℤ) → p.least <ℤ (z -ℤ pos 2147483647) → checked p z ≡ None
checked-above p z h = grind (arith, ints)

pub checked-below : (p : Prefix) (z : ℤ) → (z +ℤ pos 2147483647) <ℤ p.greatest → checked p z ≡ None
checked-below p z h = grind (arith, ints)

-- no prefix changes nothing
pub prefixed-none : (v : Option ℤ) → IsInRange v → prefixed no_prefix v ≡ v
prefixed-none None h = refl
prefixed-none (Some x) h =
    let b = near_bounds x h in
    let e : pos 0 +ℤ x ≡ x = omega (arith, ints) in
    ap (λ z. option_and_then (checked no_prefix) (in_range z)) e
    ∙ ap (option_and_then (checked no_prefix)) (in_range-near x h)
    ∙ checked-yes no_prefix x (omega (arith, ints, b.0)) (omega (arith, ints, b.1))

-- a minus sign, and a bar, in front of a value
prefixed-minus_at : (negated : Bool) (p : Prefix) (x : ℤ) → p.negated ≡ negated → shifted (after_minus p) x ≡ shifted p (neg_ℤ x)
prefixed-minus_at true p x e = rw e (omega (arith, ints))
prefixed-minus_at false p x e = rw e (omega (arith, ints))

pub prefixed-minus : (p : Prefix) (v : Option ℤ) → prefixed (after_minus p) v ≡ prefixed p (option_map neg_ℤ v)
prefixed-minus p None = refl
prefixed-minus p (Some x) = ap (λ z. option_and_then (checked p) (in_range z)) (prefixed-minus_at p.negated p x refl)

in_range-above : (z : ℤ) → pos 2147483647 <ℤ z → in_range z ≡ None
in_range-above z h = by_range z (λ low high is. absurd (omega (arith, ints))) (λ low is. is) (λ high is. is)

in_range-below : (z : ℤ) → z <ℤ neg_ℤ (pos 2147483647) → in_range z ≡ None
in_range-below z h = by_range z (λ low high is. absurd (omega (arith, ints))) (λ low is. is) (λ high is. is)

neg_near : (x : ℤ) → unsigned_abs x ≤ 2147483647 → unsigned_abs (neg_ℤ x) ≤ 2147483647
neg_near (pos zero) h = h
neg_near (pos (suc n)) h = h
neg_near (negsuc n) h = h

far_tells : (y : ℤ) → 2147483647 < unsigned_abs y → (pos 2147483647 <ℤ y) ⊎ (y <ℤ neg_ℤ (pos 2147483647))
far_tells (pos n) h = inl (omega (arith, ints))
far_tells (negsuc n) h = inr (omega (arith, ints))

-- a shift so far that it is saturated makes every value out of range
in_range-saturated : (s x : ℤ) → unsigned_abs x ≤ 2147483647 → in_range (saturate_signed w64 s +ℤ x) ≡ in_range (s +ℤ x)
in_range-saturated (pos n) x h =
    let b = near_bounds x h in
    elim (leb_tells n 9223372036854775807) [
      | inl w ↦ let small = w.1 in ap (λ m. in_range (pos m +ℤ x)) (omega arith)
      | inr w ↦
          let large = w.1 in
          in_range-above (pos (min n 9223372036854775807) +ℤ x) (omega (arith, ints, b.0)) ∙ sym (in_range-above (pos n +ℤ x) (omega (arith, ints, b.0)))
    ]
in_range-saturated (negsuc n) x h =
    let b = near_bounds x h in
    elim (leb_tells n 9223372036854775807) [
      | inl w ↦ let small = w.1 in ap (λ m. in_range (negsuc m +ℤ x)) (omega arith)
      | inr w ↦
          let large = w.1 in
          in_range-below (negsuc (min n 9223372036854775807) +ℤ x) (omega (arith, ints, b.1)) ∙ sym (in_range-below (negsuc n +ℤ x) (omega (arith, ints, b.1)))
    ]

-- where y is in range a bar asks nothing more, and else it fails
bar_near : (here : ℤ) (p : Prefix) (r : ℤ) → (p.shift -ℤ pos 2147483647) ≤ℤ r → r ≤ℤ (p.shift +ℤ pos 2147483647) → checked (after_bar here p) r ≡ checked p r
bar_near here p r low high =
    let most = int_max_is p.greatest p.shift in
    let least = int_min_is p.least p.shift in
    by_lt_z (r +ℤ pos 2147483647) p.greatest
    (λ h. checked-below (after_bar here p) r (omega (arith, ints)) ∙ sym (checked-below p r h))
    (λ h. by_lt_z p.least (r -ℤ pos 2147483647)
    (λ k. checked-above (after_bar here p) r (omega (arith, ints)) ∙ sym (checked-above p r k))
    (λ k. checked-yes (after_bar here p) r (omega (arith, ints)) (omega (arith, ints)) ∙ sym (checked-yes p r h k)))

bar_far : (here : ℤ) (p : Prefix) (r : ℤ) → ((p.shift +ℤ pos 2147483647) <ℤ r) ⊎ (r <ℤ (p.shift -ℤ pos 2147483647)) → checked (after_bar here p) r ≡ None
bar_far here p r (inl h) =
    let least = int_min_is p.least p.shift in
    checked-above (after_bar here p) r (omega (arith, ints))
bar_far here p r (inr h) =
    let most = int_max_is p.greatest p.shift in
    checked-below (after_bar here p) r (omega (arith, ints))

near_shift : (s y r : ℤ) → unsigned_abs y ≤ 2147483647 → (r ≡ s +ℤ y) ⊎ (r ≡ s -ℤ y) → ((s -ℤ pos 2147483647) ≤ℤ r) × (r ≤ℤ (s +ℤ pos 2147483647))
near_shift s y r h (inl e) = let b = near_bounds y h in (omega (arith, ints, e, b.0), omega (arith, ints, e, b.1))
near_shift s y r h (inr e) = let b = near_bounds y h in (omega (arith, ints, e, b.1), omega (arith, ints, e, b.0))

far_shift : (s y r : ℤ) → 2147483647 < unsigned_abs y → (r ≡ s +ℤ y) ⊎ (r ≡ s -ℤ y) → ((s +ℤ pos 2147483647) <ℤ r) ⊎ (r <ℤ (s -ℤ pos 2147483647))
far_shift s y r h (inl e) = elim (far_tells y h) [ inl k ↦ inl (omega (arith, ints)) | inr k ↦ inr (omega (arith, ints)) ]
far_shift s y r h (inr e) = elim (far_tells y h) [ inl k ↦ inr (omega (arith, ints)) | inr k ↦ inl (omega (arith, ints)) ]

-- the result with a bar in front, but for what is out of range
shifted-bar : (negated : Bool) (here : ℤ) (p : Prefix) (x : ℤ) → p.negated ≡ negated → unsigned_abs x ≤ 2147483647 → in_range (shifted (after_bar here p) x) ≡ in_range (shifted p (x -ℤ here))
shifted-bar true here p x e h =
    let same : (p.shift +ℤ here) +ℤ neg_ℤ x ≡ p.shift -ℤ (x -ℤ here) = omega (arith, ints) in
    rw e (in_range-saturated (p.shift +ℤ here) (neg_ℤ x) (neg_near x h) ∙ ap in_range same)
shifted-bar false here p x e h =
    let same : (p.shift -ℤ here) +ℤ x ≡ p.shift +ℤ (x -ℤ here) = omega (arith, ints) in
    rw e (in_range-saturated (p.shift -ℤ here) x h ∙ ap in_range same)

shifted_is : (negated : Bool) (p : Prefix) (y : ℤ) → p.negated ≡ negated → (shifted p y ≡ p.shift +ℤ y) ⊎ (shifted p y ≡ p.shift -ℤ y)
shifted_is true p y e = inr (rw e refl)
shifted_is false p y e = inl (rw e refl)

-- two checks that agree on a value, on the value if it is in range
same_checked : (f g : ℤ → Option ℤ) (z : ℤ) → f z ≡ g z → option_and_then f (in_range z) ≡ option_and_then g (in_range z)
same_checked f g z e = by_range z (λ low high is. rw is e) (λ low is. rw is refl) (λ high is. rw is refl)

none_checked : (f : ℤ → Option ℤ) (z : ℤ) → f z ≡ None → option_and_then f (in_range z) ≡ None
none_checked f z e = by_range z (λ low high is. rw is e) (λ low is. rw is refl) (λ high is. rw is refl)

pub prefixed-bar : (here : ℤ) (p : Prefix) (v : Option ℤ) → IsInRange v → prefixed (after_bar here p) v ≡ prefixed p (past here v)
prefixed-bar here p None h = refl
prefixed-bar here p (Some x) h =
    let y : ℤ = x -ℤ here in
    let first : prefixed (after_bar here p) (Some x) ≡ option_and_then (checked (after_bar here p)) (in_range (shifted p y)) =
    ap (option_and_then (checked (after_bar here p))) (shifted-bar p.negated here p x refl h) in
    let is = shifted_is p.negated p y refl in
    elim (leb_tells (unsigned_abs y) 2147483647) [
      | inl w ↦
          first ∙ same_checked (checked (after_bar here p)) (checked p) (shifted p y) (let b = near_shift p.shift y (shifted p y) w.1 is in bar_near here p (shifted p y) b.0 b.1)
          ∙ ap (prefixed p) (sym (in_range-near y w.1))
      | inr w ↦
          first ∙ none_checked (checked (after_bar here p)) (shifted p y) (bar_far here p (shifted p y) (far_shift p.shift y (shifted p y) w.1 is))
          ∙ ap (prefixed p) (sym (in_range-far y w.1))
    ]

-- ---- what the code computes

in_range-saturate : (z : ℤ) → in_range (saturate_signed w64 z) ≡ in_range z
in_range-saturate (pos n) =
    elim (leb_tells n 9223372036854775807) [
      | inl w ↦ let small = w.1 in ap (λ m. in_range (pos m)) (omega arith)
      | inr w ↦ let large = w.1 in in_range-above (pos (min n 9223372036854775807)) (omega (arith, ints)) ∙ sym (in_range-above (pos n) (omega (arith, ints)))
    ]
in_range-saturate (negsuc n) =
    elim (leb_tells n 9223372036854775807) [
      | inl w ↦ let small = w.1 in ap (λ m. in_range (negsuc m)) (omega arith)
      | inr w ↦ let large = w.1 in in_range-below (negsuc (min n 9223372036854775807)) (omega (arith, ints)) ∙ sym (in_range-below (negsuc n) (omega (arith, ints)))
    ]

-- a number of 32 bits in 64
pub FitsSigned-wider : (x : ℤ) → FitsSigned w32 x → FitsSigned w64 x
FitsSigned-wider x h = let f = h.sfits in record { sfits = omega arith }

pub widened_is : (x a : ℤ) → FitsSigned w32 x → a ≡ to_z w32 (of_z w32 x) → to_z w64 (of_z w64 a) ≡ x
widened_is x a h e =
    ap (λ z. to_z w64 (of_z w64 z)) (e ∙ to_z-of_z w32 x h) ∙ to_z-of_z w64 x (FitsSigned-wider x h)

abbrev pub signed_sum : Bool → ℤ → ℤ → ℤ
signed_sum true a b = a -ℤ b
signed_sum false a b = a +ℤ b

shifted_sum : (negated : Bool) (p : Prefix) (x : ℤ) → p.negated ≡ negated → shifted p x ≡ signed_sum negated p.shift x
shifted_sum true p x e = rw e refl
shifted_sum false p x e = rw e refl

pub shifted_code : (negated : Bool) (p : Prefix) (x a s : ℤ) → p.negated ≡ negated → FitsSigned w64 p.shift → FitsSigned w32 x → FitsSigned w64 s → a ≡ to_z w32 (of_z w32 x) → s ≡ saturate_signed w64 (signed_sum negated (to_z w64 (of_z w64 p.shift)) (to_z w64 (of_z w64 a))) → in_range (to_z w64 (of_z w64 s)) ≡ in_range (shifted p x)
shifted_code negated p x a s e fits fits_x fits_s is_a is_s =
    ap in_range (to_z-of_z w64 s fits_s)
    ∙ ap in_range (is_s ∙ ap (λ z. saturate_signed w64 (signed_sum negated z (to_z w64 (of_z w64 a)))) (to_z-of_z w64 p.shift fits) ∙ ap (λ z. saturate_signed w64 (signed_sum negated p.shift z)) (widened_is x a fits_x is_a))
    ∙ in_range-saturate (signed_sum negated p.shift x)
    ∙ ap in_range (sym (shifted_sum negated p x e))

abs-neg : (n : ℕ) → unsigned_abs (neg_ℤ (pos n)) ≡ n
abs-neg zero = refl
abs-neg (suc n) = refl

abs-int_div-le : (x y : ℤ) → unsigned_abs (int_div x y) ≤ unsigned_abs x
abs-int_div-le (pos a) (pos b) = div-le_self a b
abs-int_div-le (pos a) (negsuc b) = rw (abs-neg (a / suc b)) (div-le_self a (suc b))
abs-int_div-le (negsuc a) (pos b) = rw (abs-neg (suc a / b)) (div-le_self (suc a) b)
abs-int_div-le (negsuc a) (negsuc b) = div-le_self (suc a) (suc b)

abs-int_rem-le : (x y : ℤ) → unsigned_abs (int_rem x y) ≤ unsigned_abs x
abs-int_rem-le (pos a) d = mod-le a (unsigned_abs d)
abs-int_rem-le (negsuc a) d = rw (abs-neg (suc a % unsigned_abs d)) (mod-le (suc a) (unsigned_abs d))

abs_small : (x : ℤ) → FitsSigned w32 x → unsigned_abs x ≤ 2147483648
abs_small (pos n) h = let f = h.sfits in omega arith
abs_small (negsuc n) h = let f = h.sfits in omega arith

is_false : (b : Bool) → (b ≡ true → ⊥) → b ≡ false
is_false true h = absurd (h refl)
is_false false h = refl

int_eq-nonzero : (y : ℤ) → (of_z w32 y ≡ 0 → ⊥) → int_eq y (pos 0) ≡ false
int_eq-nonzero y h = is_false (int_eq y (pos 0)) (λ e. h (ap (of_z w32) ((signed_Decides y (pos 0)).0 e)))

pub quotient_code : (x y a b : ℤ) → FitsSigned w32 x → FitsSigned w32 y → a ≡ to_z w32 (of_z w32 x) → b ≡ to_z w32 (of_z w32 y) → (of_z w32 y ≡ 0 → ⊥) → in_range (to_z w64 (of_z w64 (int_div (to_z w64 (of_z w64 a)) (to_z w64 (of_z w64 b))))) ≡ quotient x y
quotient_code x y a b fits_x fits_y is_a is_b nonzero =
    let fits : FitsSigned w64 (int_div x y) = fits_signed_from_abs w64 (int_div x y) (omega (arith, abs-int_div-le x y, abs_small x fits_x)) in
    ap (λ z. in_range (to_z w64 (of_z w64 (int_div z (to_z w64 (of_z w64 b)))))) (widened_is x a fits_x is_a)
    ∙ ap (λ z. in_range (to_z w64 (of_z w64 (int_div x z)))) (widened_is y b fits_y is_b)
    ∙ ap in_range (to_z-of_z w64 (int_div x y) fits)
    ∙ ap (λ t. cond t None (in_range (int_div x y))) (sym (int_eq-nonzero y nonzero))

pub remainder_code : (x y a b : ℤ) → FitsSigned w32 x → FitsSigned w32 y → a ≡ to_z w32 (of_z w32 x) → b ≡ to_z w32 (of_z w32 y) → (of_z w32 y ≡ 0 → ⊥) → in_range (to_z w64 (of_z w64 (int_rem (to_z w64 (of_z w64 a)) (to_z w64 (of_z w64 b))))) ≡ remainder x y
remainder_code x y a b fits_x fits_y is_a is_b nonzero =
    let fits : FitsSigned w64 (int_rem x y) = fits_signed_from_abs w64 (int_rem x y) (omega (arith, abs-int_rem-le x y, abs_small x fits_x)) in
    ap (λ z. in_range (to_z w64 (of_z w64 (int_rem z (to_z w64 (of_z w64 b)))))) (widened_is x a fits_x is_a)
    ∙ ap (λ z. in_range (to_z w64 (of_z w64 (int_rem x z)))) (widened_is y b fits_y is_b)
    ∙ ap in_range (to_z-of_z w64 (int_rem x y) fits)
    ∙ ap (λ t. cond t None (in_range (int_rem x y))) (sym (int_eq-nonzero y nonzero))
