-- Units: 240 to the inch. Scales, and how a number is rounded to a multiple or to whole units.
use Rattle.std.specs.Prelude.{ℕ, ◌+◌, ◌*◌, ◌/◌, ◌≤◌, ℤ, pos, negsuc, neg_ℤ, unsigned_abs, Option, Some, None, nat_le, if◌then◌else◌}
use Rattle.nr_units.specs.declared.units.Scale.{Scale}
use Rattle.nr_units.specs.declared.units.Scale.TheVariants.{Inch, Centimetre, Pica, VerticalSpace, Em, En, Point, Unit as OneUnit}

-- the whole number nearest to n / d; of two as near, the greater
abbrev pub nearest : ℕ → ℕ → ℕ
nearest n d = (2 * n + d) / (2 * d)

-- A scale stands for numerator / denominator units, v being the vertical space in units.
abbrev pub numerator : ℤ → Scale → ℤ
numerator v Inch = pos 240
numerator v Centimetre = pos 12000
numerator v Pica = pos 40
numerator v VerticalSpace = v
numerator v Em = pos 24
numerator v En = pos 24
numerator v Point = pos 10
numerator v OneUnit = pos 1

abbrev pub denominator : Scale → ℕ
denominator Inch = 1
denominator Centimetre = 127
denominator Pica = 1
denominator VerticalSpace = 1
denominator Em = 1
denominator En = 1
denominator Point = 3
denominator OneUnit = 1

-- the number of this magnitude with the sign of z
abbrev pub with_sign_of : ℤ → ℕ → ℤ
with_sign_of (pos n) magnitude = pos magnitude
with_sign_of (negsuc n) magnitude = neg_ℤ (pos magnitude)

-- the multiple of step nearest to z, half away from zero: the magnitude is rounded, the sign stays
abbrev pub nearest_multiple : ℕ → ℤ → ℤ
nearest_multiple step z = with_sign_of z (step * nearest (unsigned_abs z) step)

-- from -2147483647 to 2147483647
abbrev pub IsInRange : ℤ → Type 0
IsInRange z = unsigned_abs z ≤ 2147483647

-- the value z, where it is from -2147483647 to 2147483647
abbrev pub in_range : ℤ → Option ℤ
in_range z = if nat_le (unsigned_abs z) 2147483647 then Some z else None

-- what a number of so many ten-thousandths means under a scale: the nearest unit, half away from zero
unfoldable pub scaled : ℤ → Scale → ℕ → Option ℤ
scaled v scale number =
    let factor = numerator v scale in
    in_range (with_sign_of factor (nearest (number * unsigned_abs factor) (10000 * denominator scale)))
