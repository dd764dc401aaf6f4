-- How a program ended: its status, and the line that reports it.
use Rattle.std.specs.Prelude.{◌≡◌, ℕ, List, [], ◌∷◌, true, Option, None, Some, ◌⊎◌, codes, decimal}
use Rattle.std.specs.Borrow.{Bor}
use Rattle.std.specs.Io.KnownBytes.{Appends}
use Rattle.std.specs.List.{concat}
use Rattle.nr_units.specs.Failures.{SinkFailures, put_counted_if}
use Rattle.nr_units.specs.Sink.{AppendsPrefix}
use Rattle.filters.specs.declared.endings.Ending.{Ending}
use Rattle.filters.specs.declared.endings.Ending.TheVariants.{Done, Complained, TooLong, ReadFault, WriteFault, BadWord, CannotOpen, CannotRead, OutOfMemory}

-- the status of the program
abbrev pub status_of : Ending → ℕ
status_of Done = 0
status_of Complained = 1
status_of (TooLong name) = 1
status_of (BadWord what word) = 2
status_of (ReadFault name at) = 3
status_of (CannotOpen name) = 3
status_of (CannotRead name) = 3
status_of WriteFault = 4
status_of OutOfMemory = 5

-- a line of a program
abbrev pub reported : List ℕ → List ℕ → List ℕ → List ℕ
reported program what word = concat (program ∷ codes ": " ∷ what ∷ word ∷ codes "\n" ∷ [])

-- a line about the text of this name
abbrev pub reported_named : List ℕ → List ℕ → List ℕ → List ℕ → List ℕ
reported_named program name what word =
    concat (program ∷ codes ": " ∷ name ∷ codes ": " ∷ what ∷ word ∷ codes "\n" ∷ [])

-- a line about a text, by its name or without
abbrev pub reported_of : List ℕ → Option (Bor (List ℕ)) → List ℕ → List ℕ → List ℕ
reported_of program None what word = reported program what word
reported_of program (Some name) what word = reported_named program name.now what word

-- the line that reports how a program ended: nothing where all went out
abbrev pub line_of : List ℕ → Ending → List ℕ
line_of program Done = []
line_of program Complained = []
line_of program (TooLong name) = reported_of program name (codes "input too long") []
line_of program (ReadFault name at) = reported_of program name (codes "read fault at byte ") (decimal at)
line_of program WriteFault = reported program (codes "write fault") []
line_of program (BadWord what word) = reported program what.now word.now
line_of program (CannotOpen name) = reported program (codes "cannot open ") name.now
line_of program (CannotRead name) = reported program (codes "cannot read ") name.now
line_of program OutOfMemory = reported program (codes "out of memory") []

-- A line was written whole, or a prefix of it went out where a call failed. The counts are those of the failed
-- calls before and after.
abbrev pub Tells : Option (List ℕ) → Option (List ℕ) → SinkFailures → SinkFailures → List ℕ → Type 0
Tells old new before after line =
    ((after ≡ before) × Appends old new line)
    ⊎ ((after ≡ put_counted_if true before) × AppendsPrefix old new line)
