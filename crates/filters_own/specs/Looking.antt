-- A text is looked at: its first bytes are read under its coding, and what they print is counted.
use Rattle.std.specs.Prelude.{◌≡◌, ℕ, ◌<◌, List, [], length, Bool, true, Option, None, Some, Result, Ok, Err}
use Rattle.std.specs.Prelude.{⊤}
use Rattle.preconv_coding.specs.UnderCoding.{text_of}
use Rattle.preconv_characters.specs.declared.target.Target.TheVariants.{Utf8}
use Rattle.document_reader.specs.Page.{IsShort, man_of, plain_of}
use Rattle.document_reader.specs.declared.page.Stages.{Stages}
use Rattle.utf8_own_characters.specs.declared.counting.Count.{Count}
use Rattle.utf8_own_characters.specs.Ranking.{ranked}
use Rattle.utf8_own_characters.specs.Table.{Characters}
use Rattle.utf8_own_page.specs.Looking.{counts_of}
use Rattle.utf8_own_page.specs.Needing.{IsTableOf, prefix_of}
use Rattle.filters.specs.Disk.{Asks, IsUnlooked, Opened, Opening, Opens, paths_of}
use Rattle.filters.specs.Program as programs
use Rattle.filters.specs.Turning.{Filter}
use Rattle.filters.specs.declared.endings.Ending.{Ending}

-- ---- what is read

-- the first 512 KiB of a text
abbrev pub prefix_in : List ℕ → List ℕ
prefix_in bytes = prefix_of (text_of bytes)

abbrev pub IsPrefixIn : Option (List ℕ) → List ℕ → Type 0
IsPrefixIn None prefix = ⊤
IsPrefixIn (Some bytes) prefix = prefix ≡ prefix_in bytes

-- the text of this name was opened, and this is of what it gives
pub record IsOf (may_come : List ℕ → Opening → Type 0) (asked asked' : Option (List (List ℕ))) (name : List ℕ)
    (Is : Option (List ℕ) → Type 0) : Type 0 where
  pub left : Option (List ℕ)
  pub opened : may_come name (Opens left)
  pub asks : Asks asked asked' (paths_of name)
  pub is : Is left

-- or it was not read
abbrev pub ReadsOf : {T : Type 0} → (List ℕ → Opening → Type 0) → Option (List (List ℕ)) → Option (List (List ℕ))
    → List ℕ → (Option (List ℕ) → T → Type 0) → Result T Ending → Type 0
ReadsOf may_come asked asked' name Is (Ok value) = IsOf may_come asked asked' name (λ left. Is left value)
ReadsOf may_come asked asked' name Is (Err ending) = IsUnlooked may_come asked asked' name ending

-- ---- what it prints

-- mdoc(7) becomes man(7), and characters stay themselves
abbrev pub stages : Stages
stages = record { mdoc = true; characters = true }

abbrev pub looked : List ℕ → List ℕ
looked prefix = plain_of stages Utf8 prefix

-- what each stage is given has less than 2^40 bytes
pub record LookIsShort (prefix : List ℕ) : Type 0 where
  pub page : IsShort prefix (man_of true prefix)
  pub plain : length (looked prefix) < 1099511627776

-- what frames are drawn with comes first, where that is asked for
abbrev pub counts_in : Bool → List ℕ → List Count
counts_in frames prefix = counts_of 4352 frames (looked prefix)

-- ---- its table

-- the characters of a table, the most frequent first
abbrev pub AreRankedIn : Option (List ℕ) → List Count → Type 0
AreRankedIn None cells = ⊤
AreRankedIn (Some bytes) cells = LookIsShort (prefix_in bytes) → cells ≡ ranked (counts_in true (prefix_in bytes))

-- THE TABLE OF A FILE has the most frequent characters of what it prints and of what frames are drawn with
abbrev pub IsTableIn : Option (List ℕ) → Characters → Type 0
IsTableIn None table = ⊤
IsTableIn (Some bytes) table = LookIsShort (prefix_in bytes) → IsTableOf (counts_in true (prefix_in bytes)) table

-- Texts are to be turned by what is made of the table of a file.
pub record AsksForOwn (f : Characters → Filter) (file : List ℕ) (names : List (List ℕ)) (job : programs.Job) : Type 0 where
  pub left : Option (List ℕ)
  pub table : Characters
  pub made : IsTableIn left table
  pub job_is : job ≡ programs.TurnsAfter (record { name = file; left = left }) (f table) names

-- and were, up to this ending
abbrev pub ComesTo : (Characters → Filter) → List ℕ → List (List ℕ) → (programs.Job → Ending → Type 0) → Ending → Type 0
ComesTo f file names Comes ending = (job : programs.Job) × AsksForOwn f file names job × Comes job ending
