-- How the program ended: its status, and the line that reports it.
use Rattle.std.specs.Prelude.{ℕ, List, [], ◌∷◌, codes, decimal}
use Rattle.std.specs.List.{concat}
use Rattle.nr_machine.specs.declared.outcome.Measure.{Measure}
use Rattle.nr_machine.specs.declared.outcome.Measure.TheVariants.{Stored, Depth, LineCells, PageCells}
use Rattle.nr_machine.specs.declared.outcome.Measure.TheVariants.{Expansions, Moves}
use Rattle.nr_command_options.specs.Inputs.{reading_of}
use Rattle.nr_command.specs.Opening.{name_of}
use Rattle.program_options.specs.Usage.{usage_text}
use Rattle.program_command.specs.declared.endings.Ending.{Ending}
use Rattle.program_command.specs.declared.endings.Ending.TheVariants.{Done, Unshown, Limit, NoRoom, TooLong}
use Rattle.program_command.specs.declared.endings.Ending.TheVariants.{BadWord, CannotOpen, NoMacros}
use Rattle.program_command.specs.declared.endings.Ending.TheVariants.{ReadFault, WriteFault, OutOfMemory}
use Rattle.program_command.specs.declared.endings.Ending.TheVariants.{NeedsOthers, LeftOut, NoFolder}
use Rattle.document_sources.specs.declared.folder.Why.{Why}
use Rattle.document_sources.specs.declared.folder.Why.TheVariants.{Nothing, Outside, TooMany, Unreadable}
use Rattle.document_sources.specs.declared.folder.Why.TheVariants as whys

-- the status of the program
abbrev pub status_of : Ending → ℕ
status_of Done = 0
status_of (Unshown name names) = 0
status_of (Limit place which) = 1
status_of (NoRoom place) = 1
status_of TooLong = 1
status_of (BadWord usage) = 2
status_of (CannotOpen input) = 3
status_of (NoMacros name) = 3
status_of (ReadFault place) = 3
status_of WriteFault = 4
status_of OutOfMemory = 5
status_of NeedsOthers = 6
status_of (LeftOut place why) = 3
status_of (NoFolder path) = 3

-- what is limited
abbrev pub limit_text : Measure → List ℕ
limit_text Stored = codes "stored bytes"
limit_text Depth = codes "input depth"
limit_text LineCells = codes "line cells"
limit_text PageCells = codes "page cells"
limit_text Expansions = codes "expansions"
limit_text Moves = codes "moves"

-- why a text is left out
abbrev pub why_text : Why → List ℕ
why_text Nothing = codes "is not in the folder"
why_text Outside = codes "is out of the folder"
why_text whys.TooLong = codes "makes too many bytes"
why_text Unreadable = codes "can't be read"
why_text TooMany = codes "is one too many"

-- a line of the program
abbrev pub reported : List ℕ → List ℕ → List ℕ
reported what name = concat (codes "nulbiko: " ∷ what ∷ name ∷ codes "\n" ∷ [])

-- a line about a line of a text
abbrev pub placed : List ℕ → List ℕ → List ℕ → List ℕ → List ℕ
placed name line what end =
    concat (codes "nulbiko: " ∷ name ∷ codes ":" ∷ line ∷ codes ": " ∷ what ∷ end ∷ codes "\n" ∷ [])

abbrev pub reported_at : List ℕ → ℕ → List ℕ → List ℕ → List ℕ
reported_at name line what end = placed name (decimal line) what end

-- a line about texts of which the first has this name, and characters of these names are not shown
abbrev pub unshown_line : List ℕ → List ℕ → List ℕ
unshown_line name names = concat (codes "nulbiko: " ∷ name ∷ codes ": characters not shown:" ∷ names ∷ codes "\n" ∷ [])

-- the line that reports how the program ended: nothing where all went out, or where other programs are needed
abbrev pub line_of : Ending → List ℕ
line_of Done = []
line_of (Unshown name names) = unshown_line name.now names.items
line_of (Limit place which) = reported_at place.name.now place.line (limit_text which) (codes " limit passed")
line_of (NoRoom place) = reported_at place.name.now place.line (codes "no room for a table") []
line_of TooLong = reported (codes "input too long") []
line_of (BadWord usage) = usage_text usage.case usage.word.now
line_of (CannotOpen input) = reported (codes "cannot open ") (name_of (reading_of input))
line_of (NoMacros name) = reported (codes "no macros of the name ") name.now
line_of (ReadFault place) = reported_at place.name.now place.line (codes "read fault") []
line_of WriteFault = reported (codes "write fault") []
line_of OutOfMemory = reported (codes "out of memory") []
line_of NeedsOthers = []
line_of (LeftOut place why) = reported_at place.name.now place.line (codes "the text that .so names ") (why_text why)
line_of (NoFolder path) = reported (codes "no folder ") path.now
