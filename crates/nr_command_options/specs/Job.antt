-- How the program reads one word, and what it has taken of the words before it.
use Rattle.std.specs.Prelude.{◌≡◌, ℕ, ◌<◌, List, [], ◌∷◌, ◌++◌, map, length, true, Option, None, Some, Result, Ok, Err, IsSome, unwrap_or, pos, ⊤}
use Rattle.std.specs.Borrow.{Bor}
use Rattle.std.specs.List.{AllZip}
use Rattle.nr_options.specs.Limits.{IsInRange, with_bound}
use Rattle.nr_page.specs.declared.faces.Faces.TheVariants.{All}
use Rattle.nr_command_options.specs.declared.usage.Case.{Case}
use Rattle.nr_command_options.specs.declared.usage.Case.TheVariants.{LeftOut, Unknown, BadValue, TooMany}
use Rattle.nr_command_options.specs.declared.usage.Usage.{Usage}
use Rattle.nr_command_options.specs.declared.job.Job.{Job}
use Rattle.nr_command_options.specs.declared.settings.Setting.{Setting}
use Rattle.nr_command_options.specs.declared.settings.Setting.TheVariants.{Select, First, Register, Macros, Folder, Input, Bold, Limit}
use Rattle.nr_command_options.specs.Settings.{Meaning, PrintOnly, BeginAt, SetRegister, ReadMacros, MacrosIn, ReadInput, ShowFaces, SetLimit, Means, IsIllFormed, letter_of, IsValue}
use Rattle.nr_command_options.specs.Arguments.{Asked, AreFew, asked_by, Complaint}

-- the texts that references point to
abbrev pub texts : List (Bor (List ℕ)) → List (List ℕ)
texts words = map (λ (word : Bor (List ℕ)). word.now) words

-- the meaning that the program holds as a setting
abbrev pub meaning_of : Setting → Meaning
meaning_of (Select select) = PrintOnly (unwrap_or select [])
meaning_of (First n) = BeginAt n
meaning_of (Register name n) = SetRegister name n
meaning_of (Macros name) = ReadMacros name.now
meaning_of (Folder folder) = MacrosIn folder.now
meaning_of Input = ReadInput
meaning_of Bold = ShowFaces
meaning_of (Limit limit n) = SetLimit limit n

-- a setting that some option asks for: a page list, and a limit in its range
abbrev pub CanBeAsked : Setting → Type 0
CanBeAsked (Select select) = IsSome select
CanBeAsked (First n) = ⊤
CanBeAsked (Register name n) = ⊤
CanBeAsked (Macros name) = ⊤
CanBeAsked (Folder folder) = ⊤
CanBeAsked Input = ⊤
CanBeAsked Bold = ⊤
CanBeAsked (Limit limit n) = IsInRange limit n

-- the value after this letter means this
pub record HasValue (letter : ℕ) (value : List ℕ) (meaning : Meaning) : Type 0 where
  pub letter_is : letter_of meaning ≡ letter
  pub value_is : IsValue meaning value

-- A value after a letter was read: it has this meaning and no other, or it has none.
abbrev pub Reads : ℕ → List ℕ → Option Setting → Type 0
Reads letter value (Some setting) = CanBeAsked setting × HasValue letter value (meaning_of setting)
    × ((other : Meaning) → HasValue letter value other → other ≡ meaning_of setting)
Reads letter value None = (other : Meaning) → HasValue letter value other → ⊥

-- the word means this and nothing else
pub record OnlyMeans (meaning : Meaning) (word : List ℕ) : Type 0 where
  pub means : Means meaning word
  pub only : (other : Meaning) → Means other word → other ≡ meaning

-- an option was read: it means this and nothing else, or it is bad by its own form
abbrev pub ReadsOption : List ℕ → Result Setting Case → Type 0
ReadsOption word (Ok setting) = CanBeAsked setting × OnlyMeans (meaning_of setting) word
ReadsOption word (Err case) = IsIllFormed case word

-- what the program holds, as texts
abbrev pub asked_of : Job → Asked
asked_of job = record {
  first = job.options.first;
  registers = job.options.registers.items;
  select = job.options.select;
  faces = job.options.faces;
  limits = job.limits;
  folder = job.macro_folder.now;
  macros = texts job.macros.items;
  reads_input = job.reads_input;
  files = texts job.files.now;
}

abbrev pub complaint_of : Usage → Complaint
complaint_of usage = record { case = usage.case; word = usage.word.now }

abbrev pub answer_of : Result Job Usage → Result Asked Complaint
answer_of (Ok job) = Ok (asked_of job)
answer_of (Err usage) = Err (complaint_of usage)

-- one more option of this meaning
abbrev pub with_meaning : Meaning → Asked → Asked
with_meaning (PrintOnly pages) asked = record asked { select = Some pages }
with_meaning (BeginAt n) asked = record asked { first = pos n }
with_meaning (SetRegister name n) asked = record asked { registers = asked.registers ++ (name, n) ∷ [] }
with_meaning (ReadMacros name) asked = record asked { macros = asked.macros ++ name ∷ [] }
with_meaning (MacrosIn folder) asked = record asked { folder = folder }
with_meaning ReadInput asked = record asked { reads_input = true }
with_meaning ShowFaces asked = record asked { faces = All }
with_meaning (SetLimit limit n) asked = record asked { limits = with_bound limit n asked.limits }

-- there is room for one of this kind, or there is none
abbrev pub HasRoom : Asked → Meaning → Type 0
HasRoom asked (SetRegister name n) = length asked.registers < 32
HasRoom asked (ReadMacros name) = length asked.macros < 32
HasRoom asked other = ⊤

abbrev pub LacksRoom : Asked → Meaning → Type 0
LacksRoom asked (SetRegister name n) = length asked.registers ≡ 32
LacksRoom asked (ReadMacros name) = length asked.macros ≡ 32
LacksRoom asked other = ⊥

-- a setting was added, or there was no room for it
abbrev pub Adds : {E : Type 0} → Asked → Meaning → Result (Unit {0}) E → Asked → Type 0
Adds old meaning (Ok done) new = HasRoom old meaning × (new ≡ with_meaning meaning old)
Adds old meaning (Err error) new = LacksRoom old meaning

-- a word is bad: by its own form, or there is no room for it
abbrev pub Refuses : Asked → List ℕ → Case → Type 0
Refuses asked word TooMany = (meaning : Meaning) × OnlyMeans meaning word × LacksRoom asked meaning
Refuses asked word LeftOut = IsIllFormed LeftOut word
Refuses asked word Unknown = IsIllFormed Unknown word
Refuses asked word BadValue = IsIllFormed BadValue word

-- a word was taken, or it is bad
abbrev pub Takes : Asked → List ℕ → Result (Unit {0}) Case → Asked → Type 0
Takes old word (Ok done) new =
    (meaning : Meaning) × OnlyMeans meaning word × HasRoom old meaning × (new ≡ with_meaning meaning old)
Takes old word (Err case) new = Refuses old word case

-- these words were taken, all good, and this is what they ask for
pub record Taken (words : List (List ℕ)) (files : List (List ℕ)) (asked : Asked) : Type 0 where
  pub meanings : List Meaning
  pub meant : AllZip OnlyMeans meanings words
  pub few : AreFew meanings
  pub asked_is : asked ≡ asked_by meanings files
