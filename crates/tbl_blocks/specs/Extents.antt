-- How many cells a text takes in one line, and whether that is sure: what only the formatter knows the width of counts as its text.
use Rattle.std.specs.Prelude.{ℕ, ◌-◌, nat_lt, Bool, true, not, ◌==◌, ◌&&◌, List, [], ◌∷◌, if◌then◌else◌}
use Prim.Native.Char.{code}
use Rattle.tbl_blocks.specs.declared.blocks.Measured.{Measured}
use Rattle.tbl_blocks.specs.declared.parts.Extent.{Extent}
use Rattle.tbl_blocks.specs.declared.parts.Known.{Known}
use Rattle.tbl_blocks.specs.declared.units.Unit.{Unit}
use Rattle.tbl_blocks.specs.Parts.{sum}
use Rattle.tbl_blocks.specs.Units.{is_sure, unit_of}

abbrev pub nothing_measured : Measured
nothing_measured = record { extent = record { cells = 0; sure = true }; more = 0 }

abbrev pub extended : Unit → ℕ → Measured → Measured
extended u b m = record {
  extent = record {
    cells = sum m.extent.cells u.cells;
    sure = m.extent.sure && (is_sure u.does && not (b == code "\t"));
  };
  more = u.more;
}

-- with a byte that prints as it is
abbrev pub widened : Measured → Measured
widened m = record m { extent = record m.extent { cells = sum m.extent.cells 1 }; more = 0 }

abbrev pub measured : ℕ → List ℕ → List Known → Measured → Measured
measured b text strings m =
    if nat_lt 0 m.more then record m { more = m.more - 1 } else extended (unit_of b text strings) b m

abbrev pub measured_from : List ℕ → List Known → Measured → Measured
measured_from [] strings m = m
measured_from (b ∷ bs) strings m = measured_from bs strings (measured b bs strings m)

abbrev pub extent_of : List ℕ → List Known → Extent
extent_of text strings = (measured_from text strings nothing_measured).extent
