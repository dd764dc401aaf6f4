-- Distances and places of vertical motion (CSTR 54, vertical spacing; page control).
use Rattle.std.specs.Prelude.{ℕ, List, Option, Some, None, ℤ, pos}
use Rattle.nr_units.specs.Units.{nearest_multiple}
use Rattle.nr_units.specs.declared.units.Scale.TheVariants.{VerticalSpace}
use Rattle.nr_settings.specs.Numbers.{first_value, first_change, applied}
use Rattle.nr_settings.specs.declared.numbers.Change.{Change}

-- `.sp N`, `.ne N`: the distance N, rounded to a multiple of 40; without N the vertical space
abbrev pub distance_or : ℕ → Option ℤ → ℤ
distance_or v None = pos v
distance_or v (Some units) = nearest_multiple 40 units

abbrev pub sp : List ℕ → ℕ → ℤ → ℤ
sp line v here = distance_or v (first_value VerticalSpace v here line)

abbrev pub ne : List ℕ → ℕ → ℤ → ℤ
ne line v here = distance_or v (first_value VerticalSpace v here line)

-- `.rt ±N`: the place N, of which the signs count from the present place; without N the marked one
abbrev pub place_or : ℕ → ℕ → Option Change → ℤ
place_or mark place None = pos mark
place_or mark place (Some change) = nearest_multiple 40 (applied change (pos place))

abbrev pub rt : List ℕ → ℕ → ℕ → ℕ → ℤ
rt line v place mark = place_or mark place (first_change VerticalSpace v (pos place) line)
