-- What is reported of texts in which something is wrong.
use Rattle.std.specs.Prelude.{◌≡◌, ◌≢◌, ℕ, ◌+◌, ◌-◌, ◌≤◌, List, [], ◌∷◌, ◌++◌, drop, length, nat_le, codes}
use Rattle.std.specs.Prelude.{Bool, true, false, ◌&&◌, Option, None, Some, ◌⊎◌, if◌then◌else◌}
use Rattle.std.specs.List.{concat}
use Rattle.nr_units.specs.Failures.{SinkFailures}
use Rattle.nr_units.specs.Source.{Never, Supply}
use Rattle.filters.specs.Endings.{Tells}
use Rattle.preconv_coding.specs.UnderCoding.{coded, text_of}
use Rattle.preconv_coding.specs.declared.names.Coding.{Coding}
use Rattle.preconv_converter.specs.Reading as preconv
use Rattle.preconv_characters.specs.declared.target.Target.TheVariants.{Ascii}
use Rattle.document_printing.specs.Tables.{has_tables}
use Rattle.document_stages.specs.Pulling.{Stays}
use Rattle.man_lint.specs.Complaints as man
use Rattle.mdoc_command.specs.Complaints as mdoc
use Rattle.tbl_command.specs.Looking.{AreReportedOf, lines_of_page, lines_of_tables}
use Rattle.tbl_command.specs.declared.arguments.Job.{Job}
use Rattle.tbl_command.specs.declared.looking.Tables.{Tables}
use Rattle.program_options.specs.Job.{Asked}
use Rattle.program_plan.specs.Before.{cells_of, is_of_manual}
use Rattle.program_plan.specs.Texts.{macro_names}
use Rattle.program_plan.specs.declared.macros.Macros.{Macros}
use Rattle.program_command.specs.Printing.{AreAllShort}
use Rattle.program_command.specs.Plan.{kind_of}
use Rattle.program_command.specs.Running.{first_of}

-- ---- what is wrong with a page

abbrev pub PROGRAM : List ℕ
PROGRAM = codes "nulbiko"

-- what mdoc tells of a page, where it has the macros of manual pages
abbrev pub of_macros : Macros → List ℕ → List ℕ → List (List ℕ)
of_macros kind name page = if is_of_manual kind then mdoc.lines_of PROGRAM name (mdoc.reported_of page) ∷ [] else []

-- what is wrong with the lines of a page of man(7), where it has the same macros
abbrev pub of_man : Macros → List ℕ → List ℕ → List (List ℕ)
of_man kind name page = if is_of_manual kind then man.lines_of PROGRAM name (man.faults_of page) ∷ [] else []

-- how its tables are looked at: by the limits of the words, and in ASCII
abbrev pub tables_job : Asked → Macros → Job
tables_job job kind = record {
  formats = job.plain.formats;
  row = job.plain.row;
  line = cells_of kind job;
  fits = true;
  characters = None;
  files = 0;
}

-- what tbl tells of its tables, where it has some
abbrev pub of_tables : Asked → List ℕ → List ℕ → List (List ℕ)
of_tables job name page =
    if has_tables page
    then lines_of_page PROGRAM name (tables_job job (kind_of job page)) (preconv.converted Ascii page) ∷ []
    else []

-- WHAT IS WRONG WITH A PAGE of this name, as it is reported
abbrev pub warnings_of : Asked → List ℕ → List ℕ → List (List ℕ)
warnings_of job name page = of_macros (kind_of job page) name page ++ of_man (kind_of job page) name page ++ of_tables job name page

-- ---- how it is reported

-- what a sink holds, where that is known, and how many of its calls failed
pub record Heard : Type 0 where
  pub held : Option (List ℕ)
  pub failures : SinkFailures

abbrev pub heard : Option (List ℕ) → SinkFailures → Heard
heard held failures = record { held = held; failures = failures }

-- lines were reported one after the other, each whole, or a prefix of it where a call failed
abbrev pub TellsEach : Heard → Heard → List (List ℕ) → Type 0
TellsEach old new [] = new ≡ old
TellsEach old new (line ∷ lines) =
    (next : Heard) × Tells old.held next.held old.failures next.failures line × TellsEach next new lines

-- the bytes of a text under the coding that is named for it, or that it names itself
abbrev pub page_of : Option Coding → List ℕ → List ℕ
page_of (Some coding) bytes = coded coding bytes
page_of None bytes = text_of bytes

-- a text was not looked at
abbrev pub unlooked : List ℕ → List ℕ
unlooked name = concat (codes "nulbiko: " ∷ name ∷ codes ": not looked at\n" ∷ [])

-- what is wrong with a text of these bytes was reported
abbrev pub TellsBytes : Asked → Option Coding → List ℕ → List ℕ → Heard → Heard → Type 0
TellsBytes job coding name bytes old new =
    AreAllShort (page_of coding bytes) → TellsEach old new (warnings_of job name (page_of coding bytes))

-- a text may not come whole: a call of it may fail, or it has 64 MiB or more
abbrev pub MayBeCut : Supply → Type 0
MayBeCut q = (q.faults ≢ Never) ⊎ (67108864 ≤ length q.bytes)

-- what is wrong with a text was reported; or where it may not come whole, that it was not looked at
abbrev pub TellsText : Asked → Option Coding → List ℕ → Option Supply → Heard → Heard → Type 0
TellsText job coding name given old new =
    (q : Supply) → given ≡ Some q → TellsBytes job coding name q.bytes old new ⊎ (MayBeCut q × TellsEach old new (unlooked name ∷ []))

-- the same of what was read of it, all of it or not
abbrev pub TellsRead : Asked → Option Coding → List ℕ → Bool → List ℕ → Heard → Heard → Type 0
TellsRead job coding name true bytes old new = TellsBytes job coding name bytes old new
TellsRead job coding name false bytes old new = TellsEach old new (unlooked name ∷ [])

-- how many of the texts of a job come before its pages
abbrev pub macro_count : Asked → ℕ
macro_count job = length (macro_names job)

-- what is wrong with the text at this place is reported: where words ask for it, and of no macro file
abbrev pub is_looked_at : Asked → ℕ → Bool
is_looked_at job place = job.plain.warns && nat_le (macro_count job) place

-- its name
abbrev pub name_at : Asked → ℕ → List ℕ
name_at job place = first_of (drop (place - macro_count job) job.files)

abbrev pub TellsOne : Bool → Asked → Option Coding → List ℕ → Option Supply → Heard → Heard → Type 0
TellsOne true job coding name given old new = TellsText job coding name given old new
TellsOne false job coding name given old new = new ≡ old

abbrev pub TellsAt : Asked → Option Coding → ℕ → Option Supply → Heard → Heard → Type 0
TellsAt job coding place given old new = TellsOne (is_looked_at job place) job coding (name_at job place) given old new

-- WHAT IS TOLD OF THE TEXTS OF A JOB, from this place on, one after the other
abbrev pub TellsTexts : Asked → Option Coding → ℕ → List (Option Supply) → Heard → Heard → Type 0
TellsTexts job coding place [] old new = new ≡ old
TellsTexts job coding place (given ∷ others) old new =
    (next : Heard) × TellsAt job coding place given old next × TellsTexts job coding (place + 1) others next new

-- ---- texts that were read before

-- each gives what it was to give
abbrev pub AreAhead : List (Option Supply) → List (Option Supply) → Type 0
AreAhead [] [] = Unit {0}
AreAhead (old ∷ olds) (new ∷ news) = Stays old new × AreAhead olds news
AreAhead olds news = ⊥

-- what tbl would tell of a page with tables
abbrev pub AreTablesOf : Bool → Job → List ℕ → Option Tables → Type 0
AreTablesOf true job page (Some tables) = AreReportedOf job (preconv.converted Ascii page) tables
AreTablesOf false job page None = Unit {0}
AreTablesOf has job page tables = ⊥

-- as it is reported
abbrev pub lines_of : List ℕ → Option Tables → List (List ℕ)
lines_of name None = []
lines_of name (Some tables) = lines_of_tables PROGRAM name tables ∷ []
