-- Numbers of few digits, with the letter of a scale or none.
use Prim.Native.Char.{code}
use Rattle.std.specs.Prelude.{◌≡◌, ℕ, zero, suc, ◌+◌, ◌-◌, ◌≤◌, List, ◌∷◌, drop, pos}
use Rattle.nr_units.specs.LongestPrefix.{read_on}
use Rattle.nr_units.specs.Scan.{Scan, in_mode, more_whole, outermost}
use Rattle.nr_units.specs.Units.{denominator, numerator}
use Rattle.nr_units.specs.declared.expression.Ctx.{Ctx}
use Rattle.nr_units.specs.declared.expression.Read.{Read}
use Rattle.nr_units.specs.declared.units.Scale.{Scale}

-- one of this scale is so many units, v being the vertical space
pub record IsWhole (scale : Scale) (v units : ℕ) : Type 0 where
  pub factor : numerator (pos v) scale ≡ pos units
  pub divisor : denominator scale ≡ 1
  pub most : units ≤ 32760

-- where a scan stands after digits that write n, where an operand of them began at s
abbrev pub whole : Scan → ℕ → Scan
whole s n = outermost (in_mode s.level (more_whole 0 n))

-- the same after so many digits
abbrev pub after_digits : Scan → ℕ → ℕ → Scan
after_digits s zero n = s
after_digits s (suc i) n = whole s n

-- an operand may begin at s, with a digit
pub record BeginsOperand (s : Scan) : Type 0 where
  pub takes : (c : Ctx) (k : ℕ) (longest : Read) (b : ℕ) (bs : List ℕ) → code "0" ≤ b → b ≤ code "9"
      → read_on c s k longest (b ∷ bs) ≡ read_on c (whole s (b - code "0")) (k + 1) longest bs

-- Where an operand begins, the first i bytes of a text are read as digits that write n.
pub record ReadsDigits (text : List ℕ) (i n : ℕ) : Type 0 where
  pub first : i ≡ 0 → n ≡ 0
  pub most : n ≤ 9999
  pub known : (c : Ctx) (s : Scan) → BeginsOperand s → (k l : ℕ) (longest : Read) → l ≡ k + i
      → read_on c s k longest text ≡ read_on c (after_digits s i n) l longest (drop i text)
