-- What the program reads, in order.
use Rattle.std.specs.Prelude.{ℕ, List, [], ◌∷◌, ◌++◌, map, ◌==◌, if◌then◌else◌, codes}
use Rattle.nr_command_options.specs.Settings.{hyphen}
use Rattle.nr_command_options.specs.Arguments.{Asked}
use Rattle.nr_command_options.specs.declared.inputs.Input.{Input}
use Rattle.nr_command_options.specs.declared.inputs.Input.TheVariants.{Macros, File, Standard}

-- a macro file by its folder and its name, a file by its name, or standard input
pub data Reading : Type 0 where
  ReadsMacros : List ℕ → List ℕ → Reading
  ReadsFile : List ℕ → Reading
  ReadsStandard : Reading

-- the name of a macro file's file
abbrev pub macro_path : List ℕ → List ℕ → List ℕ
macro_path folder name = folder ++ codes "/tmac." ++ name

-- `-` is standard input
abbrev pub named : List ℕ → Reading
named [] = ReadsFile []
named (byte ∷ []) = if byte == hyphen then ReadsStandard else ReadsFile (byte ∷ [])
named (byte ∷ next ∷ rest) = ReadsFile (byte ∷ next ∷ rest)

-- the macro files, the files, and standard input if it is read after them
abbrev pub readings : Asked → List Reading
readings asked =
    map (λ name. ReadsMacros asked.folder name) asked.macros
    ++ map named asked.files
    ++ (if asked.reads_input then ReadsStandard ∷ [] else [])

abbrev pub reading_of : Input → Reading
reading_of (Macros file) = ReadsMacros file.folder.now file.name.now
reading_of (File name) = ReadsFile name.now
reading_of Standard = ReadsStandard
