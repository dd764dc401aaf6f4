-- The syntax of number expressions, and its texts.
use Prim.Native.Char.{code}
use Rattle.std.specs.Prelude.{ℕ, zero, suc, ◌+◌, ◌<◌, Bool, true, false, List, [], ◌∷◌, ◌++◌, length, Option, Some, None, codes}
use Rattle.nr_units.specs.declared.units.Scale.{Scale}
use Rattle.nr_units.specs.declared.units.Scale.TheVariants.{Inch, Centimetre, Pica, VerticalSpace, Em, En, Point, Unit as OneUnit}
use Rattle.nr_units.specs.declared.operators.Operator.{Operator}
use Rattle.nr_units.specs.declared.operators.Operator.TheVariants.{Add, Subtract, Multiply, Divide, Remainder, Less, LessOrEqual, Greater, GreaterOrEqual, Equal, DoubleEqual, And, Or}

-- the text of an operator
abbrev pub operator_text : Operator → List ℕ
operator_text Add = codes "+"
operator_text Subtract = codes "-"
operator_text Multiply = codes "*"
operator_text Divide = codes "/"
operator_text Remainder = codes "%"
operator_text Less = codes "<"
operator_text LessOrEqual = codes "<="
operator_text Greater = codes ">"
operator_text GreaterOrEqual = codes ">="
operator_text Equal = codes "="
operator_text DoubleEqual = codes "=="
operator_text And = codes "&"
operator_text Or = codes ":"

-- the letter of a scale
abbrev pub letter : Scale → ℕ
letter Inch = code "i"
letter Centimetre = code "c"
letter Pica = code "P"
letter VerticalSpace = code "v"
letter Em = code "m"
letter En = code "n"
letter Point = code "p"
letter OneUnit = code "u"

-- each is a decimal digit
abbrev pub AreDigits : List ℕ → Type 0
AreDigits [] = Unit {0}
AreDigits (d ∷ ds) = (d < 10) × AreDigits ds

-- A number: digits, or digits and a point, or digits, a point and digits, or a point and digits; then a scale
-- letter or none.
pub record Number : Type 0 where
  pub whole : List ℕ
  pub fraction : Option (List ℕ)
  pub scale : Option Scale

-- the digits after the point, and the text of the point and them
abbrev pub fraction_digits : Option (List ℕ) → List ℕ
fraction_digits None = []
fraction_digits (Some ds) = ds

abbrev pub digits_text : List ℕ → List ℕ
digits_text [] = []
digits_text (d ∷ ds) = (code "0" + d) ∷ digits_text ds

abbrev pub fraction_text : Option (List ℕ) → List ℕ
fraction_text None = []
fraction_text (Some ds) = code "." ∷ digits_text ds

abbrev pub scale_text : Option Scale → List ℕ
scale_text None = []
scale_text (Some s) = letter s ∷ []

pub record IsNumber (n : Number) : Type 0 where
  pub whole : AreDigits n.whole
  pub fraction : AreDigits (fraction_digits n.fraction)
  pub not_empty : 0 < length n.whole + length (fraction_digits n.fraction)

abbrev pub number_text : Number → List ℕ
number_text n = digits_text n.whole ++ (fraction_text n.fraction ++ scale_text n.scale)

-- An operand is a number, one with a sign in front, one after a bar, or an expression in parentheses. An
-- expression is an operand, and then any number of operators, each with an operand. The numbers say how many blanks
-- stand after a bar, inside the parentheses at either end, and before and after an operator.
mutual
  pub data Operand : Type 0 where
    Numeral : (n : Number) → IsNumber n → Operand
    Plus : Operand → Operand
    Minus : Operand → Operand
    Past : ℕ → Operand → Operand
    Parentheses : ℕ → Expression → ℕ → Operand

  pub data Expression : Type 0 where
    Single : Operand → Expression
    Joined : Expression → ℕ → Operator → ℕ → Operand → Expression

-- Blanks stand inside parentheses only.
abbrev pub blanks : Bool → ℕ → List ℕ
blanks false n = []
blanks true zero = []
blanks true (suc n) = code " " ∷ blanks true n

-- the text, inside parentheses or outside
abbrev mutual
  pub operand_text : Bool → Operand → List ℕ
  operand_text inside (Numeral n is) = number_text n
  operand_text inside (Plus o) = code "+" ∷ operand_text inside o
  operand_text inside (Minus o) = code "-" ∷ operand_text inside o
  operand_text inside (Past n o) = code "|" ∷ (blanks inside n ++ operand_text inside o)
  operand_text inside (Parentheses n e m) =
      code "(" ∷ (blanks true n ++ (expression_text true e ++ (blanks true m ++ code ")" ∷ [])))

  pub expression_text : Bool → Expression → List ℕ
  expression_text inside (Single o) = operand_text inside o
  expression_text inside (Joined e n operator m o) =
      expression_text inside e
      ++ (blanks inside n ++ (operator_text operator ++ (blanks inside m ++ operand_text inside o)))
