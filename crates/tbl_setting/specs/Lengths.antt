-- The length of a line that `.ll` says (CSTR 54): a number, or one more or less. 24 units are a cell.
use Rattle.std.specs.Prelude.{ℕ, ◌-◌, ◌/◌, min, List, [], ◌∷◌, Option, None, Some, ℤ, pos, negsuc, ◌==◌, if◌then◌else◌}
use Prim.Native.Char.{code}
use Rattle.nr_units.specs.LongestPrefix.{read_of}
use Rattle.nr_units.specs.declared.expression.Ctx.{Ctx}
use Rattle.nr_units.specs.declared.units.Scale.{Scale}
use Rattle.nr_units.specs.declared.units.Scale.TheVariants.{En}
use Rattle.tbl_table.specs.Sums.{sum}

abbrev pub context : Scale → Ctx
context scale = record { v = pos 40; here = pos 0; default = scale }

abbrev pub cells_in : ℤ → Option ℕ
cells_in (pos n) = Some (min n 1000000 / 24)
cells_in (negsuc n) = None

abbrev pub value_in : Option ℤ → Option ℕ
value_in None = None
value_in (Some value) = cells_in value

abbrev pub length_in : List ℕ → Scale → Option ℕ
length_in text scale = value_in (read_of (context scale) text).value

abbrev pub more_cells : ℕ → Option ℕ → Option ℕ
more_cells cells None = None
more_cells cells (Some n) = Some (sum cells n)

abbrev pub fewer_cells : ℕ → Option ℕ → Option ℕ
fewer_cells cells None = None
fewer_cells cells (Some n) = Some (cells - n)

abbrev pub cells_said : List ℕ → ℕ → Option ℕ
cells_said [] cells = length_in [] En
cells_said (b ∷ bs) cells =
    if b == code "+" then more_cells cells (length_in bs En) else
    if b == code "-" then fewer_cells cells (length_in bs En) else length_in (b ∷ bs) En
