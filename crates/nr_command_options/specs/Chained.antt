-- Files read one after the other, and a newline after each that is not empty and lacks it.
use Prim.Native.Char.{code}
use Rattle.std.specs.Prelude.{ℕ, ◌+◌, ◌%◌, ◌^◌, sum_by, List, [], ◌∷◌, ◌++◌, length, drop, slice_index_or, Bool, true, false, not, ◌==◌, nat_le, if◌then◌else◌, Option, None, Some}
use Rattle.std.specs.Option.{option_map}
use Rattle.std.specs.List.{list_any}
use Rattle.nr_units.specs.Source.{Supply, Faults, Never, After, Anytime}

-- What is to come of a file, and the newline that it lacks. The line is open where the byte before was none.
abbrev pub ended : List ℕ → Bool → List ℕ
ended [] line_open = if line_open then code "\n" ∷ [] else []
ended (byte ∷ bytes) line_open = byte ∷ ended bytes (not (byte == code "\n"))

-- what is to come of files
abbrev pub chained_bytes : Bool → List Supply → List ℕ
chained_bytes line_open [] = []
chained_bytes line_open (file ∷ files) = ended file.bytes line_open ++ chained_bytes false files

-- n bytes later
abbrev pub delayed : ℕ → Faults → Faults
delayed n Never = Never
delayed n (After k) = After (n + k)
delayed n Anytime = Anytime

-- When calls fail where a file of n bytes, which come as m, stands before others: one that fails before its end came
-- stops all.
abbrev pub faults_before : Faults → ℕ → ℕ → Faults → Faults
faults_before Never n m others = delayed m others
faults_before (After k) n m others = if nat_le k n then After k else delayed m others
faults_before Anytime n m others = Anytime

abbrev pub chained_faults : Bool → List Supply → Faults
chained_faults line_open [] = Never
chained_faults line_open (file ∷ files) =
    faults_before file.faults (length file.bytes) (length (ended file.bytes line_open))
    (chained_faults false files)

abbrev pub is_anytime : Faults → Bool
is_anytime Never = false
is_anytime (After n) = false
is_anytime Anytime = true

-- what is to come of files: where one of all may fail at any call, so may they together
abbrev pub chained : Bool → Bool → List Supply → Supply
chained anytime line_open files = record {
  bytes = chained_bytes line_open files;
  faults = if anytime then Anytime else chained_faults line_open files;
}

abbrev pub some_anytime : List Supply → Bool
some_anytime files = list_any (λ file. is_anytime file.faults) files

-- the files from a place on, the first of them read to where its line is open or not
abbrev pub chain_from : ℕ → Bool → List Supply → Supply
chain_from at line_open files = chained (some_anytime files) line_open (drop at files)

-- what each is to give, where all is known
abbrev pub all_known : List (Option Supply) → Option (List Supply)
all_known [] = Some []
all_known (None ∷ files) = None
all_known (Some file ∷ files) = option_map (λ others. file ∷ others) (all_known files)

abbrev pub chain_supply : ℕ → Bool → List (Option Supply) → Option Supply
chain_supply at line_open files = option_map (chain_from at line_open) (all_known files)

-- the bytes at hand of the file at a place
abbrev pub hand_at : ℕ → List (List ℕ) → List ℕ
hand_at at hands = slice_index_or hands at []

-- how many calls of these files failed, by how many of each did: modulo 2^64, as each is counted
unfoldable pub failures_in : {F : Type 0} → (F → ℕ) → List F → ℕ
failures_in failures files = sum_by failures files % 2 ^ 64
