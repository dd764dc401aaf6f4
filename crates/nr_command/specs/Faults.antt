-- The line that reports how a run ended.
use Rattle.std.specs.Prelude.{◌≡◌, ℕ, List, [], ◌++◌, true, Option, ◌⊎◌, codes, decimal}
use Rattle.std.specs.Io.KnownBytes.{Appends}
use Rattle.nr_units.specs.Failures.{SinkFailures, put_counted_if}
use Rattle.nr_units.specs.Sink.{AppendsPrefix}
use Rattle.nr_machine.specs.declared.outcome.Measure.{Measure}
use Rattle.nr_machine.specs.declared.outcome.Measure.TheVariants.{Stored, Depth, LineCells, PageCells}
use Rattle.nr_machine.specs.declared.outcome.Measure.TheVariants.{Expansions, Moves}
use Rattle.nr_machine.specs.declared.outcome.Outcome.{Outcome}
use Rattle.nr_machine.specs.declared.outcome.Outcome.TheVariants.{Done, Limit, ReadFault, TooLong, WriteFault}

-- what is limited
abbrev pub limited_text : Measure → List ℕ
limited_text Stored = codes "stored bytes"
limited_text Depth = codes "input depth"
limited_text LineCells = codes "line cells"
limited_text PageCells = codes "page cells"
limited_text Expansions = codes "expansions"
limited_text Moves = codes "moves"

-- a place in the input, and the line's end
abbrev pub place_text : ℕ → List ℕ
place_text at = codes " at byte " ++ decimal at ++ codes "\n"

-- the line that reports how a run ended: nothing where it is done
abbrev pub line_of : Outcome → List ℕ
line_of Done = []
line_of (Limit which at) = codes "nroff: " ++ limited_text which ++ codes " limit passed" ++ place_text at
line_of (ReadFault at) = codes "nroff: read fault" ++ place_text at
line_of TooLong = codes "nroff: input too long\n"
line_of WriteFault = codes "nroff: write fault\n"

-- A line was written whole, or a prefix of it went out where a call failed. The counts are those of the
-- failed calls before and after.
abbrev pub Tells : Option (List ℕ) → Option (List ℕ) → SinkFailures → SinkFailures → List ℕ → Type 0
Tells old new before after line =
    ((after ≡ before) × Appends old new line) ⊎ ((after ≡ put_counted_if true before)
    × AppendsPrefix old new line)
