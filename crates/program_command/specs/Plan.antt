-- How a page is printed, by words, surroundings and the bytes that were looked at.
use Rattle.std.specs.Prelude.{◌≡◌, ℕ, pos, min, List, [], length, take, Bool, true, false, ◌==◌, ◌||◌, ◌&&◌}
use Rattle.std.specs.Prelude.{if◌then◌else◌, Option, None, Some, IsSomeAnd}
use Rattle.utf8_characters.specs.declared.table.FixedTable.{FixedTable}
use Rattle.utf8_characters.specs.declared.table.FixedTable.TheVariants as tables
use Rattle.utf8_converter.specs.Choosing.{chosen, looked_at}
use Rattle.nr_page.specs.Selection.{IsPageList}
use Rattle.nr_page.specs.declared.faces.Faces.{Faces as Looks}
use Rattle.nr_page.specs.declared.faces.Faces.TheVariants.{All, Letters}
use Rattle.nr_page.specs.declared.selection.PageRange.{PageRange}
use Rattle.nr_options.specs.declared.options.Options.{Options}
use Rattle.document_reader.specs.declared.page.Stages.{Stages}
use Rattle.document_printing.specs.Tables.{has_tables}
use Rattle.tbl_stage.specs.declared.rooms.PageLimits.{PageLimits}
use Rattle.program_options.specs.Job.{Asked}
use Rattle.program_options.specs.declared.plain.Device.{Device}
use Rattle.program_options.specs.declared.plain.Device.TheVariants.{Utf8, Latin1, Ascii}
use Rattle.program_options.specs.declared.plain.Faces.{Faces}
use Rattle.program_options.specs.declared.plain.Faces.TheVariants as faces
use Rattle.program_plan.specs.Before.{cells_of}
use Rattle.program_plan.specs.Kinds.{is_manual}
use Rattle.program_plan.specs.Macros.{macros_of}
use Rattle.program_plan.specs.declared.macros.Macros.{Macros}
use Rattle.program_plan.specs.declared.macros.Macros.TheVariants.{Manual}
use Rattle.program_command.specs.declared.plan.Plan.{Plan}
use Rattle.program_command.specs.declared.surroundings.Surroundings.{Surroundings}

-- what words say, and else the locale
abbrev pub device_or : Option Device → Device → Device
device_or None usual = usual
device_or (Some device) usual = device

-- the table that has most of the characters of what was looked at
unfoldable pub table_with_most : List ℕ → FixedTable
table_with_most first = chosen (take looked_at first)

-- the table of characters: none for ASCII
abbrev pub table_for : Device → List ℕ → Option FixedTable
table_for Utf8 first = Some (table_with_most first)
table_for Latin1 first = Some tables.Latin1
table_for Ascii first = None

abbrev pub is_utf8 : Device → Bool
is_utf8 Utf8 = true
is_utf8 other = false

-- what is underlined or bold stands between escape sequences: where it is asked for, or a terminal is there
-- that takes them
abbrev pub has_escapes : Faces → Bool → Bool
has_escapes faces.Auto shows = shows
has_escapes faces.On shows = true
has_escapes other shows = false

-- it is struck over, or not shown
abbrev pub has_strikes : Faces → Bool
has_strikes faces.None = false
has_strikes other = true

-- the stages of a page with these macros: mdoc where they are those of manual pages, and characters always
abbrev pub stages_with : Macros → Stages
stages_with Manual = record { mdoc = true; characters = true }
stages_with other = record { mdoc = false; characters = true }

-- tables are set where one begins in what was looked at, or more may follow
abbrev pub may_have_tables : List ℕ → Bool
may_have_tables first = (length first == 524288) || has_tables first

abbrev pub plan_for : Asked → Device → Bool → Macros → List ℕ → Plan
plan_for job device shows kind first = record {
  cells = cells_of kind job;
  stages = stages_with kind;
  tables = may_have_tables first;
  characters = table_for device first;
  spells = is_utf8 device;
  escapes = is_utf8 device && has_escapes job.plain.faces shows;
  strikes = has_strikes job.plain.faces;
  checks = job.plain.checks;
}

-- the macros of a page, by its first 64 KiB
abbrev pub kind_of : Asked → List ℕ → Macros
kind_of job page = macros_of (is_manual (take 65536 page)) job

-- HOW A PAGE IS PRINTED that begins so
abbrev pub plan_of : Asked → Surroundings → Macros → List ℕ → Plan
plan_of job around kind first = plan_for job (device_or job.plain.device around.device) around.shows kind first

-- ---- what the formatter is given

-- the pages that a list names, and all where there is none
abbrev pub IsSelected : Option (List ℕ) → Option (List PageRange) → Type 0
IsSelected None select = select ≡ None
IsSelected (Some text) select = IsSomeAnd select (λ items. IsPageList items text)

abbrev pub looks_for : Bool → Looks
looks_for all = if all then All else Letters

-- The first page's number and the pages of the words, no register; bold shows where it is asked for, and
-- between escape sequences.
pub record AreOptions (job : Asked) (plan : Plan) (options : Options) : Type 0 where
  pub first : options.first ≡ pos (min job.plain.first 2147483647)
  pub registers : options.registers.items ≡ []
  pub select : IsSelected job.pages options.select
  pub faces : options.faces ≡ looks_for (job.plain.shows_bold || plan.escapes)

-- the limits of tables, and of a page that has some
abbrev pub page_limits_of : Asked → PageLimits
page_limits_of job = record { formats = job.plain.formats; row = job.plain.row; set = 268435456 }
