-- The value of a number expression, and the answer for a text.
use Prim.Native.Char.{code}
use Rattle.std.specs.Prelude.{◌≡◌, ℕ, suc, ◌+◌, ◌*◌, ◌/◌, ◌<◌, ◌≤◌, Bool, false, ◌&&◌, ◌||◌, List, [], ◌∷◌, ◌++◌, length, take, count_by, ◌==◌, Option, Some, None, ℤ, pos, neg_ℤ, ◌+ℤ◌, ◌-ℤ◌, ◌*ℤ◌, int_div, int_rem, int_lt, int_le, unwrap_or, if◌then◌else◌}
use Rattle.std.specs.Option.{option_map, option_and_then}
use Rattle.std.specs.Ordering.{int_eq}
use Rattle.nr_units.specs.Units.{in_range, scaled}
use Rattle.nr_units.specs.Grammar.{Number, fraction_digits, Operand, Expression, Numeral, Plus, Minus, Past, Parentheses, Single, Joined, expression_text}
use Rattle.nr_units.specs.declared.operators.Operator.{Operator}
use Rattle.nr_units.specs.declared.operators.Operator.TheVariants.{Add, Subtract, Multiply, Divide, Remainder, Less, LessOrEqual, Greater, GreaterOrEqual, Equal, DoubleEqual, And, Or}
use Rattle.nr_units.specs.declared.expression.Ctx.{Ctx}
use Rattle.nr_units.specs.declared.expression.Read.{Read}

-- the number that digits write after n
abbrev pub whole_after : ℕ → List ℕ → ℕ
whole_after n [] = n
whole_after n (d ∷ ds) = whole_after (10 * n + d) ds

-- Digits after the point, in ten-thousandths: the first counts 1000, the next 100, 10 and 1, the others nothing.
abbrev pub fraction_by : ℕ → List ℕ → ℕ
fraction_by place [] = 0
fraction_by place (d ∷ ds) = place * d + fraction_by (place / 10) ds

abbrev pub ten_thousandths : Number → ℕ
ten_thousandths n = 10000 * whole_after 0 n.whole + fraction_by 1000 (fraction_digits n.fraction)

-- 1 or 0
abbrev pub truth : Bool → Option ℤ
truth b = Some (if b then pos 1 else pos 0)

-- the quotient, truncated toward zero, and what it leaves of x
abbrev pub quotient : ℤ → ℤ → Option ℤ
quotient x y = if int_eq y (pos 0) then None else in_range (int_div x y)

abbrev pub remainder : ℤ → ℤ → Option ℤ
remainder x y = if int_eq y (pos 0) then None else in_range (int_rem x y)

-- x and y joined by an operator
abbrev pub applied : Operator → ℤ → ℤ → Option ℤ
applied Add x y = in_range (x +ℤ y)
applied Subtract x y = in_range (x -ℤ y)
applied Multiply x y = in_range (x *ℤ y)
applied Divide x y = quotient x y
applied Remainder x y = remainder x y
applied Less x y = truth (int_lt x y)
applied LessOrEqual x y = truth (int_le x y)
applied Greater x y = truth (int_lt y x)
applied GreaterOrEqual x y = truth (int_le y x)
applied Equal x y = truth (int_eq x y)
applied DoubleEqual x y = truth (int_eq x y)
applied And x y = truth (int_lt (pos 0) x && int_lt (pos 0) y)
applied Or x y = truth (int_lt (pos 0) x || int_lt (pos 0) y)

-- the same of two values, either of which may be none
abbrev pub joined : Operator → Option ℤ → Option ℤ → Option ℤ
joined operator (Some x) (Some y) = applied operator x y
joined operator (Some x) None = None
joined operator None y = None

-- a value less the present place
abbrev pub past : ℤ → Option ℤ → Option ℤ
past here v = option_and_then (λ x. in_range (x -ℤ here)) v

-- the value of a syntax: none where a divisor is 0 or a value on the way is out of range
abbrev mutual
  pub operand_value : Ctx → Operand → Option ℤ
  operand_value c (Numeral n is) = scaled c.v (unwrap_or n.scale c.default) (ten_thousandths n)
  operand_value c (Plus o) = operand_value c o
  operand_value c (Minus o) = option_map neg_ℤ (operand_value c o)
  operand_value c (Past n o) = past c.here (operand_value c o)
  operand_value c (Parentheses n e m) = expression_value c e

  pub expression_value : Ctx → Expression → Option ℤ
  expression_value c (Single o) = operand_value c o
  expression_value c (Joined e n operator m o) = joined operator (expression_value c e) (operand_value c o)

-- the first m bytes of the text are this expression
pub record IsPrefix (text : List ℕ) (m : ℕ) (e : Expression) : Type 0 where
  pub within : m ≤ length text
  pub prefix : take m text ≡ expression_text false e

-- At place k a parenthesis is opened while 64 are open, and what has come so far can still become an expression.
pub record IsTooDeep (text : List ℕ) (k : ℕ) : Type 0 where
  pub opens : take (suc k) text ≡ take k text ++ code "(" ∷ []
  pub depth : count_by (λ b. b == code "(") (take k text) ≡ 64 + count_by (λ b. b == code ")") (take k text)
  pub goes_on : (rest : List ℕ) × (e : Expression) × (expression_text false e ≡ take (suc k) text ++ rest)

-- The answer for a text: the longest prefix that is an expression, and its value.
pub record IsLongest (c : Ctx) (text : List ℕ) (read : Read) (e : Expression) : Type 0 where
  pub prefix : IsPrefix text read.used e
  pub longest : (m : ℕ) → (other : Expression) → IsPrefix text m other → m ≤ read.used
  pub value : read.value ≡ expression_value c e

pub data IsAnswer (c : Ctx) (text : List ℕ) (read : Read) : Type 0 where
  Longest : ((k : ℕ) → IsTooDeep text k → ⊥) → (e : Expression) → IsLongest c text read e
      → IsAnswer c text read
  Nothing : ((k : ℕ) → IsTooDeep text k → ⊥) → ((m : ℕ) → (e : Expression) → IsPrefix text m e → ⊥)
      → read.value ≡ None → read.used ≡ 0 → IsAnswer c text read
  TooDeep : IsTooDeep text read.used → ((k : ℕ) → k < read.used → IsTooDeep text k → ⊥) → read.value ≡ None
      → IsAnswer c text read
