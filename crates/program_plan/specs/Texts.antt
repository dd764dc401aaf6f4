-- The texts of a job.
use Rattle.std.specs.Prelude.{ℕ, List, [], ◌∷◌, ◌++◌, map, length, ◌||◌, ◌==◌, Option, None, Some, if◌then◌else◌, codes}
use Rattle.nr_command_options.specs.Inputs.{Reading, ReadsMacros, ReadsStandard, named}
use Rattle.program_options.specs.Job.{Asked}
use Rattle.program_plan.specs.Macros.{file_name}

-- the macro files that are read of a folder
abbrev pub named_in : Option (List ℕ) → List (List ℕ) → List (List ℕ)
named_in None names = []
named_in (Some folder) names = map file_name names

abbrev pub macro_names : Asked → List (List ℕ)
macro_names asked = named_in asked.folder asked.macros

abbrev pub folder_or : Option (List ℕ) → List ℕ
folder_or None = codes "."
folder_or (Some folder) = folder

-- those macro files, the files, and standard input where words say it and where there is no file
abbrev pub readings_of : Asked → List Reading
readings_of asked =
    map (λ name. ReadsMacros (folder_or asked.folder) name) (macro_names asked)
    ++ map named asked.files
    ++ (if asked.plain.reads_input || (length asked.files == 0) then ReadsStandard ∷ [] else [])
