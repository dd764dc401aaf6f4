-- Cells in a row.
use Prim.Native.Char.{code}
use Rattle.std.specs.Prelude.{◌-◌, ◌==◌, Bool, true, false, List, length, take}
use Rattle.std.specs.List.{suffix_len}
use Rattle.nr_vectors.specs.declared.cell.Cell.{Cell}
use Rattle.nr_vectors.specs.declared.cell.Look.{Look}
use Rattle.nr_vectors.specs.declared.cell.Look.TheVariants.{Plain, Under, Bold}

abbrev pub blank : Cell
blank = record { byte = code " "; look = Plain }

abbrev pub is_plain : Look → Bool
is_plain Plain = true
is_plain Under = false
is_plain Bold = false

abbrev pub is_under : Look → Bool
is_under Plain = false
is_under Under = true
is_under Bold = false

-- a blank is a blank however it looks
abbrev pub is_blank : Cell → Bool
is_blank cell = cell.byte == code " "

-- the cells without the blanks after the last that is none
abbrev pub trimmed : List Cell → List Cell
trimmed cells = take (length cells - suffix_len is_blank cells) cells
