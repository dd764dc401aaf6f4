-- The signs and bars in front of an operand of a number expression (CSTR 54, numerical input).
use Rattle.std.specs.Prelude.{◌&&◌, false, not, Option, Some, None, ℤ, pos, ◌+ℤ◌, ◌-ℤ◌, int_le, if◌then◌else◌}
use Rattle.std.specs.Option.{option_and_then}
use Rattle.std.specs.Int.{w64, saturate_signed, int_max, int_min}
use Rattle.nr_units.specs.Units.{in_range}
use Rattle.nr_units.specs.declared.prefix.Prefix.{Prefix}

-- what signs and bars in front of a value make of it
abbrev pub shifted : Prefix → ℤ → ℤ
shifted p x = if p.negated then p.shift -ℤ x else p.shift +ℤ x

abbrev pub checked : Prefix → ℤ → Option ℤ
checked p z =
    if int_le p.greatest (z +ℤ pos 2147483647) && int_le (z -ℤ pos 2147483647) p.least then Some z else None

abbrev pub prefixed : Prefix → Option ℤ → Option ℤ
prefixed p v = option_and_then (λ x. option_and_then (checked p) (in_range (shifted p x))) v

abbrev pub no_prefix : Prefix
no_prefix = record { negated = false; shift = pos 0; least = pos 0; greatest = pos 0 }

abbrev pub after_minus : Prefix → Prefix
after_minus p = record { negated = not p.negated; shift = p.shift; least = p.least; greatest = p.greatest }

abbrev pub shift_after_bar : ℤ → Prefix → ℤ
shift_after_bar here p = saturate_signed w64 (if p.negated then p.shift +ℤ here else p.shift -ℤ here)

abbrev pub after_bar : ℤ → Prefix → Prefix
after_bar here p = record {
  negated = p.negated;
  shift = shift_after_bar here p;
  least = int_min p.least p.shift;
  greatest = int_max p.greatest p.shift;
}
