-- What the texts of a job come to.
use Rattle.std.specs.Prelude.{◌≡◌, ◌≢◌, ◌⊎◌, ℕ, List, [], ◌∷◌, ◌++◌, length, drop, take, codes, Bool, true}
use Rattle.std.specs.Prelude.{false, ◌&&◌, Option, Some, None, ⊤}
use Rattle.std.specs.Io.KnownBytes.{Keeps}
use Rattle.nr_units.specs.Source.{Supply}
use Rattle.nr_command_options.specs.Files.{files_supply}
use Rattle.preconv_coding.specs.UnderCoding.{coded_supply, coding_of, text_supply}
use Rattle.preconv_coding.specs.declared.names.Coding.{Coding}
use Rattle.nr_options.specs.declared.options.Options.{Options}
use Rattle.document_sources.specs.Joining.{Texts, followed}
use Rattle.document_reader.specs.Page.{breaks_off}
use Rattle.document_printing.specs.declared.setup.PageEnd.TheVariants as outcomes
use Rattle.document_printing.specs.declared.setup.Report.{Report}
use Rattle.program_options.specs.Job.{Asked}
use Rattle.program_options.specs.declared.plain.Faces.TheVariants as faces
use Rattle.program_plan.specs.Before.{BeginsWith, is_of_manual}
use Rattle.program_plan.specs.declared.macros.Macros.{Macros}
use Rattle.program_plan.specs.Others.{asks_for_others}
use Rattle.program_plan.specs.Prefix.{prefix}
use Rattle.program_plan.specs.Texts.{macro_names}
use Rattle.program_command.specs.Own.{unshown_of}
use Rattle.program_command.specs.Plan.{AreOptions, IsSelected, kind_of, page_limits_of, plan_of}
use Rattle.program_command.specs.Printing.{AreAllShort, Printed}
use Rattle.program_command.specs.declared.endings.Ending.{Ending}
use Rattle.program_command.specs.declared.endings.Ending.TheVariants.{Done, Unshown, Limit, NoRoom, TooLong}
use Rattle.program_command.specs.declared.endings.Ending.TheVariants.{ReadFault, WriteFault, OutOfMemory}
use Rattle.program_command.specs.declared.endings.Ending.TheVariants.{NeedsOthers, LeftOut}
use Rattle.program_command.specs.declared.endings.Place.{Place}
use Rattle.program_command.specs.declared.plan.Plan.{Plan}
use Rattle.program_command.specs.declared.running.Reading.{Reading}
use Rattle.program_command.specs.declared.surroundings.Surroundings.{Surroundings}

-- the text of files under a coding that is named beside them, or that the first says
abbrev pub under : Option Coding → Option Supply → Option Supply
under (Some coding) files = coded_supply coding files
under None files = text_supply files

-- the pages among the texts of a job, after its macro files
abbrev pub pages_of : {A : Type 0} → Asked → List A → List A
pages_of job texts = drop (length (macro_names job)) texts

-- what is read before the page of macro files
abbrev pub files_of : Asked → List (Option Supply) → Option Supply
files_of job given = files_supply (take (length (macro_names job)) given)

-- pages, and in the places of the lines that name them the texts of a folder, where there is one: 64 lines
-- are followed, and 64 MiB are read
abbrev pub with_named : Option (Option Texts) → Option Supply → Option Supply
with_named None pages = pages
with_named (Some texts) pages = followed texts pages 8192 64 67108864

-- THE TEXT of a job, with the texts of its folder, where they are known
abbrev pub text_of : Asked → Option Coding → Option (Option Texts) → List (Option Supply) → Option Supply
text_of job coding folder given = under coding (with_named folder (files_supply (pages_of job given)))

-- ---- how its end is reported

-- the name of the first text
abbrev pub first_of : List (List ℕ) → List ℕ
first_of [] = codes "-"
first_of (name ∷ names) = name

-- a line of it
abbrev pub IsPlace : List ℕ → ℕ → Place → Type 0
IsPlace name line place = (place.name.now ≡ name) × (place.line ≡ line)

-- all was printed but characters of these names, if there are any
abbrev pub IsWholeBut : List ℕ → List ℕ → Ending → Type 0
IsWholeBut name unshown Done = unshown ≡ []
IsWholeBut name unshown (Unshown first names) = (first.now ≡ name) × (names.items ≡ unshown) × (unshown ≢ [])
IsWholeBut name unshown other = ⊥

-- How the end of a page is reported, with the line that was read last, or the characters that are not shown;
-- that the output failed, also where it did after the page.
abbrev pub IsReported : List ℕ → List ℕ → Report → Ending → Type 0
IsReported name unshown report Done = (report.outcome ≡ outcomes.Done) × IsWholeBut name unshown Done
IsReported name unshown report (Unshown first names) = (report.outcome ≡ outcomes.Done) × IsWholeBut name unshown (Unshown first names)
IsReported name unshown report (Limit place which) =
    (at : ℕ) × (report.outcome ≡ outcomes.Limit which at) × IsPlace name report.line place
IsReported name unshown report (NoRoom place) = (report.outcome ≡ outcomes.NoRoom) × IsPlace name report.line place
IsReported name unshown report TooLong = report.outcome ≡ outcomes.TooLong
IsReported name unshown report (ReadFault place) = (report.outcome ≡ outcomes.ReadFault) × IsPlace name report.line place
IsReported name unshown report WriteFault = ⊤
IsReported name unshown report (LeftOut place why) = (report.outcome ≡ outcomes.Done) × (place.name.now ≡ name)
IsReported name unshown report other = ⊥

-- a text is left out
abbrev pub IsLeftOut : List ℕ → Ending → Type 0
IsLeftOut name (LeftOut place why) = place.name.now ≡ name
IsLeftOut name other = ⊥

-- all was printed, or all but some characters
abbrev pub IsWhole : Ending → Type 0
IsWhole Done = ⊤
IsWhole (Unshown name names) = ⊤
IsWhole other = ⊥

-- it ended as before, or where all was printed a text was left out
abbrev pub MayLeaveOut : List ℕ → Ending → Ending → Type 0
MayLeaveOut name before after = (after ≡ before) ⊎ (IsWhole before × IsLeftOut name after)

-- A run may end so before its page: a macro file fails, memory is wanting; or the output, which was flushed,
-- failed.
abbrev pub IsBefore : Ending → Type 0
IsBefore (ReadFault place) = ⊤
IsBefore WriteFault = ⊤
IsBefore OutOfMemory = ⊤
IsBefore other = ⊥

-- ---- what goes out

-- words ask not to print a text that asks for other programs, as this one does in what was looked at
abbrev pub is_for_others : Asked → List ℕ → Bool
is_for_others job first = job.plain.is_alone && asks_for_others first

-- What is read before a page begins with what words set. Macro files of the program may follow, and then come
-- those of a folder.
pub record AreMacros (job : Asked) (kind : Macros) (files : Option Supply) (macros : List ℕ) : Type 0 where
  pub own : List ℕ
  pub begins : BeginsWith (prefix (is_of_manual kind) job) own
  pub read : (q : Supply) → files ≡ Some q → macros ≡ own ++ q.bytes

-- A text goes out as a document, after macros: by the plan of words, surroundings and the first bytes of it,
-- which were looked at, and under the limits of the words. How it ended is reported.
pub record IsDocument (job : Asked) (around : Surroundings) (files : Option Supply) (q : Supply) (ending : Ending)
    (held new : Option (List ℕ)) : Type 0 where
  pub first : List ℕ
  pub rest : List ℕ
  pub looked_at : q.bytes ≡ first ++ rest
  pub plan : Plan
  pub plan_is : plan ≡ plan_of job around (kind_of job first) first
  pub macros : List ℕ
  pub macros_are : AreMacros job (kind_of job first) files macros
  pub options : Options
  pub options_are : AreOptions job plan options
  pub report : Report
  pub printed : Printed plan first
      (record { macros = macros; options = options; page_limits = page_limits_of job; limits = job.limits }) q report held new
  pub reported : IsReported (first_of job.files) (unshown_of plan first) report ending

-- nothing goes out, and the run ends before its page
pub record EndsBefore (ending : Ending) (held new : Option (List ℕ)) : Type 0 where
  pub before : IsBefore ending
  pub kept : Keeps held new

-- the same where the text asks for other programs
pub record IsForOthers (ending : Ending) (held new : Option (List ℕ)) : Type 0 where
  pub reported : ending ≡ NeedsOthers
  pub kept : Keeps held new

abbrev pub EndsBy : Bool → Asked → Surroundings → Option Supply → Supply → Ending → Option (List ℕ) → Option (List ℕ) → Type 0
EndsBy true job around files q ending held new = IsForOthers ending held new
EndsBy false job around files q ending held new = IsDocument job around files q ending held new

-- The first bytes of a text were looked at, and it came to this.
pub record Gives (job : Asked) (around : Surroundings) (files : Option Supply) (q : Supply) (ending : Ending)
    (held new : Option (List ℕ)) : Type 0 where
  pub first : List ℕ
  pub rest : List ℕ
  pub looked_at : q.bytes ≡ first ++ rest
  pub ends : EndsBefore ending held new ⊎ EndsBy (is_for_others job first) job around files q ending held new

-- pages are asked for, with what is struck over
pub record AsksForPages (job : Asked) : Type 0 where
  pub prints : job.plain.checks ≡ false
  pub strikes : job.plain.faces ≢ faces.None

-- what comes of a text that asks for no other program
abbrev pub PrefixGives : Asked → Surroundings → Option Supply → Option Supply → Ending → Option (List ℕ) → Option (List ℕ) → Type 0
PrefixGives job around files supply ending held new =
    AsksForPages job → (q : Supply) → supply ≡ Some q → breaks_off q.faults ≡ false → AreAllShort q.bytes
    → EndsBefore ending held new ⊎ IsDocument job around files q ending held new

-- Where texts are only checked nothing goes out. Where pages are asked for, and it is known what a text is to
-- give, that is what comes of it.
pub record Runs (job : Asked) (around : Surroundings) (files supply : Option Supply) (ending : Ending)
    (held new : Option (List ℕ)) : Type 0 where
  pub checks : job.plain.checks ≡ true → Keeps held new
  pub prints : AsksForPages job → (q : Supply) → supply ≡ Some q → AreAllShort q.bytes → Gives job around files q ending held new

-- ---- what words say of the texts

-- the coding of that name, if words have one
abbrev pub IsNamed : Option (List ℕ) → Option Coding → Type 0
IsNamed None coding = coding ≡ None
IsNamed (Some name) coding = coding ≡ coding_of name

pub record IsReading (job : Asked) (reading : Reading) : Type 0 where
  pub coding : IsNamed job.coding reading.coding
  pub select : IsSelected job.pages reading.select
