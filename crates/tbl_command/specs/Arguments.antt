-- What the words of the command line come to.
use Prim.Native.Char.{code}
use Rattle.std.specs.Prelude.{◌≡◌, ℕ, ◌+◌, ◌-◌, ◌≤◌, ◌⊎◌, List, [], ◌∷◌, ◌++◌, map, Bool, true, false, ◌==◌}
use Rattle.std.specs.Prelude.{Option, None, Some, Result, Ok, Err, codes}
use Rattle.std.specs.Borrow.{Bor}
use Rattle.std.specs.Str.{bytes_eq}
use Rattle.std.specs.Str.Parse.{IsNumeral, digits_value}
use Rattle.filters_own.specs.declared.names.Named.{Named}
use Rattle.filters_own.specs.Names.{table_at}
use Rattle.tbl_command.specs.declared.arguments.BadWord.{BadWord}
use Rattle.tbl_command.specs.declared.arguments.Job.{Job}
use Rattle.tbl_command.specs.declared.arguments.Setting.{Setting}
use Rattle.tbl_command.specs.declared.arguments.Which.{Which}
use Rattle.tbl_command.specs.declared.arguments.Which.TheVariants.{Formats, Row, Line}
use Rattle.tbl_command.specs.declared.arguments.Wrong.{Wrong}
use Rattle.tbl_command.specs.declared.arguments.Wrong.TheVariants.{Unknown, BadValue, UnknownTable, NoTable}

-- the texts that references point to
abbrev pub texts : List (Bor (List ℕ)) → List (List ℕ)
texts words = map (λ (word : Bor (List ℕ)). word.now) words

-- an option begins with `-` and is not `-`
abbrev pub is_option : List ℕ → Bool
is_option [] = false
is_option (byte ∷ []) = false
is_option (byte ∷ next ∷ rest) = byte == code "-"

-- how an option that sets this begins
abbrev pub prefix_of : Which → List ℕ
prefix_of Formats = codes "-Lt"
prefix_of Row = codes "-Lr"
prefix_of Line = codes "-l"

-- the least number that it may set
abbrev pub least_of : Which → ℕ
least_of Formats = 1
least_of Row = 64
least_of Line = 1

-- the option sets this: decimal digits stand after its prefix, and the number that they write is in range
pub record Means (setting : Setting) (word : List ℕ) : Type 0 where
  pub digits : List ℕ
  pub word_is : word ≡ prefix_of setting.which ++ digits
  pub numeral : IsNumeral 10 digits
  pub number : setting.limit ≡ digits_value 10 digits
  pub least : least_of setting.which ≤ setting.limit
  pub most : setting.limit ≤ 1048576

-- the word begins with this
abbrev pub BeginsWith : List ℕ → List ℕ → Type 0
BeginsWith prefix word = (rest : List ℕ) × (word ≡ prefix ++ rest)

-- the option is none, or it is one and sets nothing
abbrev pub IsBad : Wrong → List ℕ → Type 0
IsBad Unknown word = ¬ BeginsWith (codes "-L") word × ¬ BeginsWith (codes "-l") word
IsBad UnknownTable word = ⊥
IsBad NoTable word = ⊥
IsBad BadValue word =
    (BeginsWith (codes "-L") word ⊎ BeginsWith (codes "-l") word)
    × ((setting : Setting) → Means setting word → ⊥)

-- a job with a number set
abbrev pub with_number : Which → ℕ → Job → Job
with_number Formats n job = record job { formats = n }
with_number Row n job = record job { row = n }
with_number Line n job = record job { line = n }

abbrev pub with_setting : Setting → Job → Job
with_setting setting job = with_number setting.which setting.limit job

-- the job where no option sets anything
abbrev pub usual_job : Job
usual_job = record { formats = 262144; row = 16384; line = 65; fits = true; characters = None; files = 0 }

-- where tables stay as wide as they are
abbrev pub without_fit : Job → Job
without_fit job = record job { fits = false }

-- with a table of characters, and with the place of the first file
abbrev pub with_table : Named → Job → Job
with_table table job = record job { characters = Some table }

abbrev pub at : ℕ → Job → Job
at place job = record job { files = place }

abbrev pub is_wrong : ℕ → Wrong → Result Job BadWord
is_wrong place wrong = Err (record { place = place; wrong = wrong })

-- what a name comes to that stands at this place
abbrev pub Names : Option Named → ℕ → Result Job BadWord → (Named → Type 0) → Type 0
Names None place answer next = answer ≡ is_wrong place UnknownTable
Names (Some table) place answer next = next table

-- a file, the option that a table's name follows, or another option
abbrev pub Stands : Bool → Bool → Type 0 → Type 0 → Type 0 → Type 0
Stands false names file table option = file
Stands true true file table option = table
Stands true false file table option = option

-- the option that says so, or another
abbrev pub Keeps : Bool → Type 0 → Type 0 → Type 0
Keeps true keeps option = keeps
Keeps false keeps option = option

-- it sets something, and the words after it come to the rest; or it is bad
abbrev pub Sets : List ℕ → ℕ → Result Job BadWord → (Setting → Type 0) → Type 0
Sets word place answer next =
    ((setting : Setting) × Means setting word × next setting)
    ⊎ ((wrong : Wrong) × IsBad wrong word × (answer ≡ is_wrong place wrong))

-- Words from this place on, up to the first file, where a table's name may be awaited and this is asked for
-- so far: the last that sets the same counts. The first that can't be taken is reported by its place.
abbrev pub ComesTo : Bool → Job → ℕ → List (List ℕ) → Result Job BadWord → Type 0
ComesTo true job place [] answer = answer ≡ is_wrong (place - 1) NoTable
ComesTo false job place [] answer = answer ≡ Ok (at place job)
ComesTo true job place (name ∷ words) answer =
    Names (table_at place name) place answer (λ t. ComesTo false (with_table t job) (place + 1) words answer)
ComesTo false job place (word ∷ words) answer =
    Stands (is_option word) (bytes_eq word (codes "-u")) (answer ≡ Ok (at place job))
    (ComesTo true job (place + 1) words answer)
    (Keeps (bytes_eq word (codes "-n")) (ComesTo false (without_fit job) (place + 1) words answer)
    (Sets word place answer (λ s. ComesTo false (with_setting s job) (place + 1) words answer)))

abbrev pub IsAnswer : List (List ℕ) → Result Job BadWord → Type 0
IsAnswer words answer = ComesTo false usual_job 0 words answer

-- one option was read: it sets this, or it is bad
abbrev pub Reads : List ℕ → Result Setting Wrong → Type 0
Reads word (Ok setting) = Means setting word
Reads word (Err wrong) = IsBad wrong word
