-- Files read one after the other, as one input.
use Prim.Native.Char.{code}
use Rattle.std.specs.Prelude.{ℕ, List, [], ◌∷◌, ◌++◌, length, Bool, false, not, ◌==◌, if◌then◌else◌, Option}
use Rattle.std.specs.Option.{option_map}
use Rattle.std.specs.List.{flat_map}
use Rattle.nr_units.specs.Source.{Supply, Faults, Never, Anytime}
use Rattle.nr_command_options.specs.Chained.{faults_before, some_anytime, all_known}

-- there are bytes, and the last is no newline
abbrev pub lacks_newline : List ℕ → Bool
lacks_newline [] = false
lacks_newline (byte ∷ []) = not (byte == code "\n")
lacks_newline (byte ∷ next ∷ bytes) = lacks_newline (next ∷ bytes)

-- the bytes of a file, and the newline that it lacks
abbrev pub completed : List ℕ → List ℕ
completed bytes = if lacks_newline bytes then bytes ++ code "\n" ∷ [] else bytes

-- When calls fail: a file that fails before its end came stops all, once the files before it were given.
abbrev pub faults_of_all : List Supply → Faults
faults_of_all [] = Never
faults_of_all (file ∷ files) =
    faults_before file.faults (length file.bytes) (length (completed file.bytes)) (faults_of_all files)

-- the files in order, each completed; where one of them may fail at any call, so may all
abbrev pub one_after_the_other : List Supply → Supply
one_after_the_other files = record {
  bytes = flat_map (λ file. completed file.bytes) files;
  faults = if some_anytime files then Anytime else faults_of_all files;
}

-- what files are to give, where each is known
abbrev pub files_supply : List (Option Supply) → Option Supply
files_supply files = option_map one_after_the_other (all_known files)
