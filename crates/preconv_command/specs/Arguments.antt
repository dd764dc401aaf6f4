-- What the words of the command line come to.
use Rattle.std.specs.Prelude.{ℕ, ◌+◌, ◌<◌, ◌≤◌, List, [], ◌∷◌, Bool, true, false, not, if◌then◌else◌, Option}
use Rattle.std.specs.Prelude.{None, Some, Result, Ok, Err, codes}
use Rattle.std.specs.Str.{bytes_eq}
use Rattle.utf8_characters.specs.declared.table.FixedTable.TheVariants.{Latin1}
use Rattle.filters.specs.Arguments.{is_option}
use Rattle.filters_own.specs.declared.names.Named.{Named}
use Rattle.filters_own.specs.declared.names.Named.TheVariants.{Fixed}
use Rattle.filters_own.specs.Names.{table_at}
use Rattle.preconv_command.specs.declared.arguments.Job.{Job}
use Rattle.preconv_command.specs.declared.arguments.Wrong.{Wrong}
use Rattle.preconv_command.specs.declared.arguments.Wrong.TheVariants.{UnknownOption, UnknownTable, NoTable}

abbrev pub job : Option Named → ℕ → Result Job Wrong
job table place = Ok (record { table = table; files = place })

-- what a name comes to that stands at this place
abbrev pub with_table : ℕ → Option Named → (Named → Result Job Wrong) → Result Job Wrong
with_table place None next = Err (UnknownTable place)
with_table place (Some table) next = next table

-- Options from this place on, up to the first file: `-8`, and `-u` with a table, whose name may be awaited.
-- The last of them counts.
abbrev pub asked_from : Bool → Option Named → ℕ → List (List ℕ) → Result Job Wrong
asked_from true table place [] = Err NoTable
asked_from false table place [] = job table place
asked_from true table place (name ∷ words) =
    with_table place (table_at place name) (λ t. asked_from false (Some t) (place + 1) words)
asked_from false table place (word ∷ words) =
    if not (is_option word) then job table place else
    if bytes_eq word (codes "-8") then asked_from false (Some (Fixed Latin1)) (place + 1) words else
    if bytes_eq word (codes "-u") then asked_from true table (place + 1) words else Err (UnknownOption place)

abbrev pub asked : List (List ℕ) → Result Job Wrong
asked words = asked_from false None 0 words

-- no place lies after that of the last of so many words, but that of the first file where there is none
abbrev pub IsWithin : ℕ → Result Job Wrong → Type 0
IsWithin count (Ok job) = job.files ≤ count
IsWithin count (Err (UnknownOption place)) = place < count
IsWithin count (Err (UnknownTable place)) = place < count
IsWithin count (Err NoTable) = Unit {0}
