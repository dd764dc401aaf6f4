-- How a text is scanned: what is kept of the bytes before, and what the next byte does to it.
use Prim.Native.Char.{code}
use Rattle.std.specs.Prelude.{ℕ, ◌+◌, ◌-◌, ◌*◌, ◌/◌, ◌^◌, min, Bool, ◌&&◌, List, [], ◌∷◌, Option, Some, None, ℤ, if◌then◌else◌, nat_le, ◌==◌}
use Rattle.std.specs.Option.{option_map, option_and_then}
use Rattle.nr_units.specs.Prefix.{prefixed, no_prefix, after_minus, after_bar}
use Rattle.nr_units.specs.Units.{scaled}
use Rattle.nr_units.specs.Expression.{joined}
use Rattle.nr_units.specs.declared.units.Scale.{Scale}
use Rattle.nr_units.specs.declared.units.Scale.TheVariants.{Inch, Centimetre, Pica, VerticalSpace, Em, En, Point as PointScale, Unit as OneUnit}
use Rattle.nr_units.specs.declared.operators.Operator.{Operator}
use Rattle.nr_units.specs.declared.operators.Operator.TheVariants.{Add, Subtract, Multiply, Divide, Remainder, Less, LessOrEqual, Greater, GreaterOrEqual, Equal, DoubleEqual, And, Or}
use Rattle.nr_units.specs.declared.symbols.Symbol.{Symbol}
use Rattle.nr_units.specs.declared.symbols.Symbol.TheVariants.{Digit, Point, Letter, Mark, Bar, Open, Close, Blank}
use Rattle.nr_units.specs.declared.level.Left.{Left}
use Rattle.nr_units.specs.declared.level.Waiting.{Waiting}
use Rattle.nr_units.specs.declared.level.Preceding.{Preceding}
use Rattle.nr_units.specs.declared.level.Preceding.TheVariants.{Nothing, AnOperator, ASign}
use Rattle.nr_units.specs.declared.level.Mode.{Mode}
use Rattle.nr_units.specs.declared.level.Mode.TheVariants.{Before, LonePoint, Whole, Fraction, Complete}
use Rattle.nr_units.specs.declared.level.Level.{Level}
use Rattle.nr_units.specs.declared.expression.Ctx.{Ctx}

-- what a byte is in an expression
abbrev pub found : ℕ → List (ℕ × Symbol) → Option Symbol
found b [] = None
found b (entry ∷ more) = if b == entry.0 then Some entry.1 else found b more

abbrev pub symbols : List (ℕ × Symbol)
symbols =
    (code ".", Point) ∷ (code "i", Letter Inch) ∷ (code "c", Letter Centimetre) ∷ (code "P", Letter Pica)
    ∷ (code "v", Letter VerticalSpace)
    ∷ (code "m", Letter Em) ∷ (code "n", Letter En) ∷ (code "p", Letter PointScale)
    ∷ (code "u", Letter OneUnit) ∷ (code "+", Mark Add)
    ∷ (code "-", Mark Subtract) ∷ (code "*", Mark Multiply) ∷ (code "/", Mark Divide)
    ∷ (code "%", Mark Remainder) ∷ (code "<", Mark Less)
    ∷ (code ">", Mark Greater) ∷ (code "=", Mark Equal) ∷ (code "&", Mark And) ∷ (code ":", Mark Or)
    ∷ (code "|", Bar) ∷ (code "(", Open) ∷ (code ")", Close)
    ∷ (code " ", Blank) ∷ []

abbrev pub symbol_of : ℕ → Option Symbol
symbol_of b =
    if nat_le (code "0") b && nat_le b (code "9") then Some (Digit (b - code "0")) else found b symbols

-- an operator with `=` after it, where that is one
abbrev pub widened : Operator → Option Operator
widened Less = Some LessOrEqual
widened Greater = Some GreaterOrEqual
widened Equal = Some DoubleEqual
widened Add = None
widened Subtract = None
widened Multiply = None
widened Divide = None
widened Remainder = None
widened LessOrEqual = None
widened GreaterOrEqual = None
widened DoubleEqual = None
widened And = None
widened Or = None

-- what waits for an operand: the value and operator on its left, and the signs and bars in front of it
abbrev pub nothing_waits : Waiting
nothing_waits = record { left = None; prefix = no_prefix }

abbrev pub joined_left : Option Left → Option ℤ → Option ℤ
joined_left None v = v
joined_left (Some l) v = joined l.operator l.value v

abbrev pub finished : Waiting → Option ℤ → Option ℤ
finished w v = joined_left w.left (prefixed w.prefix v)

-- the ten-thousandths of a number that may end here
abbrev pub number_of : Mode → Option ℕ
number_of (Before f) = None
number_of LonePoint = None
number_of (Whole w) = Some (10000 * w)
number_of (Fraction w f p) = Some (10000 * w + f)
number_of (Complete v) = None

abbrev pub number_value : Ctx → Scale → Waiting → ℕ → Option ℤ
number_value c scale w n = finished w (scaled c.v scale n)

-- the value of the expression, where an operand ends here
abbrev pub value_in : Ctx → Waiting → Mode → Option (Option ℤ)
value_in c w (Before f) = None
value_in c w LonePoint = None
value_in c w (Whole n) = Some (number_value c c.default w (10000 * n))
value_in c w (Fraction n f p) = Some (number_value c c.default w (10000 * n + f))
value_in c w (Complete v) = Some v

abbrev pub level_value : Ctx → Level → Option (Option ℤ)
level_value c l = value_in c l.waiting l.mode

abbrev pub completed : Option ℤ → Level
completed v = record { mode = Complete v; waiting = nothing_waits }

abbrev pub in_mode : Level → Mode → Level
in_mode l m = record { mode = m; waiting = l.waiting }

-- a digit of the whole part, and one after the point
abbrev pub capped : ℕ → ℕ
capped n = min n (2 ^ 32 - 1)

abbrev pub more_whole : ℕ → ℕ → Mode
more_whole w d = Whole (capped (capped (w * 10) + d))

abbrev pub more_fraction : ℕ → ℕ → ℕ → ℕ → Mode
more_fraction w f p d = Fraction w (capped (f + capped (p * d))) (p / 10)

abbrev pub with_digit : ℕ → Mode → Option Mode
with_digit d (Before f) = Some (Whole d)
with_digit d LonePoint = Some (more_fraction 0 0 1000 d)
with_digit d (Whole w) = Some (more_whole w d)
with_digit d (Fraction w f p) = Some (more_fraction w f p d)
with_digit d (Complete v) = None

abbrev pub with_point : Mode → Option Mode
with_point (Before f) = Some LonePoint
with_point LonePoint = None
with_point (Whole w) = Some (Fraction w 0 1000)
with_point (Fraction w f p) = None
with_point (Complete v) = None

abbrev pub with_letter : Ctx → Scale → Level → Option Level
with_letter c scale l = option_map (λ n. completed (number_value c scale l.waiting n)) (number_of l.mode)

-- `=` after an operator
abbrev pub widened_left : Option Left → Option Left
widened_left None = None
widened_left (Some l) = option_map (λ o. record { value = l.value; operator = o }) (widened l.operator)

abbrev pub with_equal : Preceding → Waiting → Option Level
with_equal AnOperator w =
    option_map (λ l. record { mode = Before Nothing; waiting = record { left = Some l; prefix = w.prefix } })
    (widened_left w.left)
with_equal Nothing w = None
with_equal ASign w = None

-- an operator's byte where an operand is wanted: a sign, or `=` after an operator
abbrev pub with_sign : Preceding → Operator → Waiting → Option Level
with_sign b Add w = Some (record { mode = Before ASign; waiting = w })
with_sign b Subtract w =
    Some (record { mode = Before ASign; waiting = record { left = w.left; prefix = after_minus w.prefix } })
with_sign b Equal w = with_equal b w
with_sign b Multiply w = None
with_sign b Divide w = None
with_sign b Remainder w = None
with_sign b Less w = None
with_sign b LessOrEqual w = None
with_sign b Greater w = None
with_sign b GreaterOrEqual w = None
with_sign b DoubleEqual w = None
with_sign b And w = None
with_sign b Or w = None

abbrev pub after_operator : Operator → Option ℤ → Level
after_operator o v =
    record {
      mode = Before AnOperator;
      waiting = record {
        left = Some (record { value = v; operator = o });
        prefix = no_prefix;
      };
    }

abbrev pub mark_in : Ctx → Operator → Waiting → Mode → Option Level
mark_in c o w (Before b) = with_sign b o w
mark_in c o w LonePoint = None
mark_in c o w (Whole n) = Some (after_operator o (number_value c c.default w (10000 * n)))
mark_in c o w (Fraction n f p) = Some (after_operator o (number_value c c.default w (10000 * n + f)))
mark_in c o w (Complete v) = Some (after_operator o v)

abbrev pub with_mark : Ctx → Operator → Level → Option Level
with_mark c o l = mark_in c o l.waiting l.mode

abbrev pub bar_in : ℤ → Waiting → Mode → Option Level
bar_in here w (Before b) =
    Some (record {
      mode = Before Nothing;
      waiting = record { left = w.left; prefix = after_bar here w.prefix };
    })
bar_in here w LonePoint = None
bar_in here w (Whole n) = None
bar_in here w (Fraction n f p) = None
bar_in here w (Complete v) = None

-- a blank inside parentheses
abbrev pub blank_in : Ctx → Waiting → Mode → Option Level
blank_in c w (Before Nothing) = Some (record { mode = Before Nothing; waiting = w })
blank_in c w (Before AnOperator) = Some (record { mode = Before Nothing; waiting = w })
blank_in c w (Before ASign) = None
blank_in c w LonePoint = None
blank_in c w (Whole n) = Some (completed (number_value c c.default w (10000 * n)))
blank_in c w (Fraction n f p) = Some (completed (number_value c c.default w (10000 * n + f)))
blank_in c w (Complete v) = Some (completed v)

-- the level where an expression begins
abbrev pub fresh : Level
fresh = record { mode = Before Nothing; waiting = nothing_waits }

-- the innermost level, and what waits at each open parenthesis, the innermost first
pub record Scan : Type 0 where
  pub level : Level
  pub outer : List Waiting

-- outside parentheses, this level
abbrev pub outermost : Level → Scan
outermost l = record { level = l; outer = [] }

abbrev pub on_level : List Waiting → Option Level → Option Scan
on_level ws l = option_map (λ l. record { level = l; outer = ws }) l

abbrev pub with_open : Scan → Mode → Option Scan
with_open s (Before b) = Some (record { level = fresh; outer = s.level.waiting ∷ s.outer })
with_open s LonePoint = None
with_open s (Whole n) = None
with_open s (Fraction n f p) = None
with_open s (Complete v) = None

abbrev pub with_close : Ctx → Level → List Waiting → Option Scan
with_close c l [] = None
with_close c l (w ∷ ws) =
    option_map (λ v. record { level = completed (finished w v); outer = ws }) (level_value c l)

abbrev pub with_blank : Ctx → Level → List Waiting → Option Scan
with_blank c l [] = None
with_blank c l (w ∷ ws) = on_level (w ∷ ws) (blank_in c l.waiting l.mode)

-- after one more symbol; none where no expression goes on so
abbrev pub after_symbol : Ctx → Scan → Symbol → Option Scan
after_symbol c s (Digit d) = on_level s.outer (option_map (in_mode s.level) (with_digit d s.level.mode))
after_symbol c s Point = on_level s.outer (option_map (in_mode s.level) (with_point s.level.mode))
after_symbol c s (Letter scale) = on_level s.outer (with_letter c scale s.level)
after_symbol c s (Mark o) = on_level s.outer (with_mark c o s.level)
after_symbol c s Bar = on_level s.outer (bar_in c.here s.level.waiting s.level.mode)
after_symbol c s Open = with_open s s.level.mode
after_symbol c s Close = with_close c s.level s.outer
after_symbol c s Blank = with_blank c s.level s.outer

abbrev pub after_byte : Ctx → Scan → ℕ → Option Scan
after_byte c s b = option_and_then (after_symbol c s) (symbol_of b)

-- after a text
abbrev pub run : Ctx → Scan → List ℕ → Option Scan
run c s [] = Some s
run c s (b ∷ bs) = option_and_then (λ t. run c t bs) (after_byte c s b)

abbrev pub start : Scan
start = record { level = fresh; outer = [] }

-- the value, where the text so far is an expression: an operand may end, and no parenthesis is open
abbrev pub outermost_value : Ctx → Level → List Waiting → Option (Option ℤ)
outermost_value c l [] = level_value c l
outermost_value c l (w ∷ ws) = None

abbrev pub whole_value : Ctx → Scan → Option (Option ℤ)
whole_value c s = outermost_value c s.level s.outer

-- the level after a symbol that is no digit and no parenthesis
abbrev pub level_after : Ctx → Bool → Level → Symbol → Option Level
level_after c inside l (Digit d) = None
level_after c inside l Point = option_map (in_mode l) (with_point l.mode)
level_after c inside l (Letter scale) = with_letter c scale l
level_after c inside l (Mark o) = with_mark c o l
level_after c inside l Bar = bar_in c.here l.waiting l.mode
level_after c inside l Open = None
level_after c inside l Close = None
level_after c inside l Blank = if inside then blank_in c l.waiting l.mode else None
