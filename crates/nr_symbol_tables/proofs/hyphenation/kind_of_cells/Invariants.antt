use Rattle.std.proofs.Common.{◌≡◌, ◌<◌, take}
use Rattle.nr_symbol_tables.specs.Word.{bytes_of}
use Rattle.nr_symbol_tables.specs.Hyphenation.{kind}
use Rattle.nr_symbol_tables.proofs.hyphenation.kind_of_cells.Given as goal

abbrev pub invariant-loop-cell : goal.invariant-loop-cell
invariant-loop-cell l = record { is : l.kind ≡ kind (bytes_of (take l.cell-index l.cells)); few : l.kind < 256 }
