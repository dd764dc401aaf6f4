-- Whether words are hyphenated at the points of `.hw` (CSTR 54, hyphenation).
use Rattle.std.specs.Prelude.{ℕ, true, false, not, List, pos}
use Rattle.nr_units.specs.declared.units.Scale.TheVariants.{Unit as OneUnit}
use Rattle.nr_settings.specs.Numbers.{first_value, is_zero}
use Rattle.nr_settings.specs.declared.hyphenation.Hyphenation.{Hyphenation}

-- `.hy N`: on; off where N is 0
abbrev pub hy : List ℕ → ℕ → Hyphenation → Hyphenation
hy line v s = record { on = not (is_zero (first_value OneUnit v (pos 0) line)) }

-- `.nh`: off
abbrev pub nh : Hyphenation → Hyphenation
nh s = record { on = false }

abbrev pub first_hyphenation : Hyphenation
first_hyphenation = record { on = true }
