-- The texts of the system.
use Rattle.std.specs.Prelude.{◌≡◌, ℕ, ◌<◌, List, [], ◌∷◌, length, Option, Result, Ok, Err, IfOk, ◌⊎◌, ⊤}
use Rattle.nr_units.specs.Source.{reader_supply}
use Rattle.nr_command_options.specs.Inputs.{Reading, ReadsMacros, ReadsFile, ReadsStandard, macro_path}
use Rattle.nr_command.specs.Opening.{Opening, Opens, Asks}
use Rattle.nr_command.specs.declared.disk.Text.{Text}
use Rattle.nr_command.specs.declared.disk.Text.TheVariants.{File, Standard}

-- the bytes that are left of a text, where they are known
abbrev pub left_of : {F I : Type 0} → (F → Option (List ℕ)) → (I → Option (List ℕ))
    → Text F I → Option (List ℕ)
left_of file standard (File f) = file f
left_of file standard (Standard i) = standard i

-- it is a file
abbrev pub IsFile : {F I : Type 0} → Text F I → Type 0
IsFile (File f) = ⊤
IsFile (Standard i) = ⊥

-- A text was opened: standard input always is, and anything else is a file.
abbrev pub IsText : {F I E : Type 0} → I → Reading → Result (Text F I) E → Type 0
IsText standard ReadsStandard result = result ≡ Ok (Standard standard)
IsText standard (ReadsFile name) result = IfOk result IsFile
IsText standard (ReadsMacros folder name) result = IfOk result IsFile

-- the paths of a text
abbrev pub paths_of : Reading → List (List ℕ)
paths_of (ReadsMacros folder name) = macro_path folder name ∷ []
paths_of (ReadsFile name) = name ∷ []
paths_of ReadsStandard = []

-- its path is longer than any that Linux opens
abbrev pub IsTooLong : Reading → Type 0
IsTooLong (ReadsMacros folder name) = 4095 < length (macro_path folder name)
IsTooLong (ReadsFile name) = ⊥
IsTooLong ReadsStandard = ⊥

-- Its path was asked for; or none was, since it is too long, and the text can't be opened.
abbrev pub AsksPath : {F I E : Type 0} → Option (List (List ℕ)) → Option (List (List ℕ)) → Reading
    → Result (Text F I) E → Type 0
AsksPath asked asked' reading (Ok text) = Asks asked asked' (paths_of reading)
AsksPath asked asked' reading (Err error) =
    Asks asked asked' (paths_of reading) ⊎ (Asks asked asked' [] × IsTooLong reading)

-- What may come of opening a text: standard input is always open, and of a file nothing is known.
abbrev pub MayCome : Option (List ℕ) → Reading → Opening → Type 0
MayCome standard ReadsStandard opening = opening ≡ Opens (reader_supply standard)
MayCome standard (ReadsFile name) opening = ⊤
MayCome standard (ReadsMacros folder name) opening = ⊤
