-- What the program comes to over its words.
use Rattle.std.specs.Prelude.{◌≡◌, ◌≢◌, ℕ, List, [], Bool, true, not, IsTrue, Option, None, Result, Ok, Err}
use Rattle.std.specs.Prelude.{◌⊎◌, ⊤}
use Rattle.std.specs.Io.KnownBytes.{Keeps}
use Rattle.std.specs.Option.{option_map}
use Rattle.nr_units.specs.Source.{Supply}
use Rattle.document_sources.specs.Joining.{Texts}
use Rattle.nr_command_options.specs.Inputs.{Reading, reading_of}
use Rattle.nr_command.specs.Opening.{AreOpen, Opening, Asks, IsFirstRefused}
use Rattle.preconv_coding.specs.declared.names.Coding.{Coding}
use Rattle.program_options.specs.Job.{Asked}
use Rattle.program_options.specs.Reading.{Complaint}
use Rattle.program_plan.specs.Texts.{readings_of}
use Rattle.program_command.specs.Running.{IsNamed, Runs, files_of, text_of}
use Rattle.program_command.specs.Warnings.{Heard, TellsTexts}
use Rattle.program_command.specs.declared.endings.Ending.{Ending}
use Rattle.program_command.specs.declared.endings.Ending.TheVariants.{BadWord, CannotOpen, NoFolder, NoMacros}
use Rattle.program_command.specs.declared.endings.Ending.TheVariants.{OutOfMemory, WriteFault}
use Rattle.program_command.specs.declared.surroundings.Surroundings.{Surroundings}

-- why a job of good words isn't run
abbrev pub IsUnopened : Ending → Type 0
IsUnopened (BadWord usage) = ⊤
IsUnopened (NoMacros name) = ⊤
IsUnopened (NoFolder path) = ⊤
IsUnopened other = ⊥

-- the ending of a run over texts that were opened
abbrev pub IsOfRun : Ending → Type 0
IsOfRun (BadWord usage) = ⊥
IsOfRun (CannotOpen input) = ⊥
IsOfRun (NoMacros name) = ⊥
IsOfRun (NoFolder path) = ⊥
IsOfRun other = ⊤

-- What was asked to be opened of these texts: the first that can't be is reported, and those before it were
-- opened; else all of them were, each once and in order, or none.
abbrev pub Opens : (Reading → Opening → Type 0) → Option (List Reading) → Option (List Reading) → List Reading
    → Ending → Type 0
Opens may_come asked asked' readings (CannotOpen input) =
    IsFirstRefused may_come asked asked' readings (reading_of input)
Opens may_come asked asked' readings other = Asks asked asked' [] ⊎ Asks asked asked' readings

-- what was printed went on to where the output leads, or a write fault is reported
abbrev pub Passes : Ending → Bool → Type 0
Passes ending passed_on = ending ≢ WriteFault → IsTrue passed_on

-- that word is reported
abbrev pub IsBadWord : Complaint → Ending → Type 0
IsBadWord complaint (BadWord usage) = (usage.case ≡ complaint.case) × (usage.word.now ≡ complaint.word)
IsBadWord complaint other = ⊥

-- nothing is reported of what is wrong in texts: a word is bad, or none asks for it
abbrev pub is_silent : Result Asked Complaint → Bool
is_silent (Err complaint) = true
is_silent (Ok job) = not job.plain.warns

-- a job is not run
abbrev pub IsNotRun : Ending → Type 0
IsNotRun (BadWord usage) = ⊤
IsNotRun (CannotOpen input) = ⊤
IsNotRun (NoMacros name) = ⊤
IsNotRun (NoFolder path) = ⊤
IsNotRun OutOfMemory = ⊤
IsNotRun other = ⊥

pub record EndsUnrun (ending : Ending) (held new : Option (List ℕ)) : Type 0 where
  pub unrun : IsNotRun ending
  pub kept : Keeps held new

-- What is wrong with the texts of a job was reported, if words ask for it, and then its pages came to this,
-- with the texts of the folder that words name.
pub record Warned (job : Asked) (around : Surroundings) (coding : Option Coding) (folder : Option (Option Texts)) (given : List (Option Supply))
    (ending : Ending) (held new : Option (List ℕ)) (before after : Heard) : Type 0 where
  pub reported : TellsTexts job coding 0 given before after
  pub runs : Runs job around (files_of job given) (text_of job coding folder given) ending held new

-- The texts of a job were opened, each its own, and this is what they come to.
pub record RunsOver (may_come : Reading → Opening → Type 0) (texts_in : List ℕ → Option Texts) (job : Asked) (around : Surroundings) (ending : Ending)
    (held new : Option (List ℕ)) (before after : Heard) : Type 0 where
  pub given : List (Option Supply)
  pub opened : AreOpen may_come (readings_of job) given
  pub coding : Option Coding
  pub named : IsNamed job.coding coding
  pub warned : Warned job around coding (option_map texts_in job.within) given ending held new before after

-- WHAT A JOB COMES TO that is to print pages: nothing goes out where it isn't run
abbrev pub ComesTo : (Reading → Opening → Type 0) → (List ℕ → Option Texts) → Asked → Surroundings → Ending → Option (List ℕ)
    → Option (List ℕ) → Heard → Heard → Type 0
ComesTo may_come texts_in job around ending held new before after =
    EndsUnrun ending held new ⊎ RunsOver may_come texts_in job around ending held new before after

-- the same of a job that may ask for the version or for help
abbrev pub ComesToPages : (Reading → Opening → Type 0) → (List ℕ → Option Texts) → Asked → Surroundings → Ending
    → Option (List ℕ) → Option (List ℕ) → Heard → Heard → Type 0
ComesToPages may_come texts_in job around ending held new before after =
    job.plain.says ≡ None → ComesTo may_come texts_in job around ending held new before after

-- Where a word is bad nothing is opened and nothing printed. Else the texts of the job are opened, what they
-- come to is printed, and passed on.
abbrev pub Comes : Result Asked Complaint → Surroundings → (Reading → Opening → Type 0) → (List ℕ → Option Texts)
    → Option (List Reading) → Option (List Reading) → Type 0 → Type 0 → Option (List ℕ) → Option (List ℕ) → Bool → Heard → Heard
    → Ending → Type 0
Comes (Err complaint) around may_come texts_in asked asked' unopened unprinted held held' passed_on before after ending =
    IsBadWord complaint ending × unopened × unprinted
Comes (Ok job) around may_come texts_in asked asked' unopened unprinted held held' passed_on before after ending =
    Opens may_come asked asked' (readings_of job) ending
    × ComesToPages may_come texts_in job around ending held held' before after × (unprinted ⊎ Passes ending passed_on)
