-- Lines that do nothing, read at once of the bytes that come next of the source.
use Rattle.std.specs.Prelude.{Bool, false}
use Rattle.nr_reading.specs.declared.half.Half.{Half}
use Rattle.nr_reading.specs.declared.mode.Mode.{Mode}
use Rattle.nr_reading.specs.declared.mode.Mode.TheVariants as modes
use Rattle.nr_reading.specs.Half.{reads_next}

abbrev pub is_dropping_in : Mode → Half → Bool
is_dropping_in modes.Drop h = reads_next h
is_dropping_in m h = false

-- the next item is read in a line that does nothing, after no part of an escape
abbrev pub is_dropping : Half → Bool
is_dropping h = is_dropping_in h.reading.mode h
