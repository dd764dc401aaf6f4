-- What the words of the command line come to.
use Prim.Native.Char.{code}
use Rattle.std.specs.Prelude.{ℕ, ◌+◌, ◌<◌, ◌≤◌, List, [], ◌∷◌, length, Bool, true, false, ◌==◌, nat_lt}
use Rattle.std.specs.Prelude.{if◌then◌else◌, Option, None, Some, Result, Ok, Err, codes, slice_get}
use Rattle.std.specs.Str.{bytes_eq}
use Rattle.filters_own.specs.declared.names.Named.{Named}
use Rattle.filters_own.specs.Names.{table_at}
use Rattle.utf8_command.specs.declared.arguments.Job.{Job}
use Rattle.utf8_command.specs.declared.arguments.Job.TheVariants.{Turn, Choose, Version}
use Rattle.utf8_command.specs.declared.arguments.Wrong.{Wrong}
use Rattle.utf8_command.specs.declared.arguments.Wrong.TheVariants.{UnknownOption, UnknownTable, NoTable}
use Rattle.utf8_command.specs.declared.arguments.Wrong.TheVariants.{SeveralFiles}

-- an option begins with `-`
abbrev pub is_option : List ℕ → Bool
is_option [] = false
is_option (byte ∷ rest) = byte == code "-"

-- a word that is no table
abbrev pub wrong_at : ℕ → List ℕ → Wrong
wrong_at place word = if is_option word then UnknownOption place else UnknownTable place

abbrev pub job_of : Bool → ℕ → List ℕ → Option Named → Result Job Wrong
job_of escapes place word None = Err (wrong_at place word)
job_of escapes place word (Some table) = Ok (Turn table escapes (place + 1))

-- the word at this place names the table, and files stand after it
abbrev pub table_of : Bool → ℕ → Option (List ℕ) → Result Job Wrong
table_of escapes place None = Err NoTable
table_of escapes place (Some word) = job_of escapes place word (table_at place word)

abbrev pub table_asked : Bool → ℕ → List (List ℕ) → Result Job Wrong
table_asked escapes place words = table_of escapes place (slice_get words place)

-- a table is chosen for one file, or for standard input
abbrev pub choice_asked : List (List ℕ) → Result Job Wrong
choice_asked words = if nat_lt 2 (length words) then Err SeveralFiles else Ok Choose

-- `--version`; `--choose` and a file or none; `-c` or not, and then the table
abbrev pub asked : List (List ℕ) → Result Job Wrong
asked [] = Err NoTable
asked (word ∷ words) =
    if bytes_eq word (codes "--version") then Ok Version else
    if bytes_eq word (codes "--choose") then choice_asked (word ∷ words) else
    if bytes_eq word (codes "-c") then table_asked true 1 (word ∷ words)
    else table_asked false 0 (word ∷ words)

-- no place lies after that of the last of so many words, but that of the first file where there is none
abbrev pub IsWithin : ℕ → Result Job Wrong → Type 0
IsWithin count (Ok (Turn table escapes files)) = files ≤ count
IsWithin count (Ok Choose) = 0 < count
IsWithin count (Ok Version) = Unit {0}
IsWithin count (Err (UnknownOption place)) = place < count
IsWithin count (Err (UnknownTable place)) = place < count
IsWithin count (Err NoTable) = Unit {0}
IsWithin count (Err SeveralFiles) = Unit {0}
