-- A page goes out: as a document, to each of its ends.
use Rattle.std.specs.Prelude.{◌≡◌, ◌<◌, ℕ, List, ◌++◌, length, Bool, true, false, Option, Some}
use Rattle.std.specs.Borrow.{Bor}
use Rattle.nr_units.specs.Source.{Supply}
use Rattle.nr_options.specs.Limits.{Bounds}
use Rattle.nr_options.specs.declared.options.Options.{Options}
use Rattle.preconv_characters.specs.Targets.{target_of}
use Rattle.preconv_characters.specs.declared.target.Target.TheVariants.{Ascii, Utf8}
use Rattle.tbl_setting.specs.Drawing.{signs_of}
use Rattle.utf8_characters.specs.declared.table.FixedTable.{FixedTable}
use Rattle.utf8_own_characters.specs.Table.{Characters, Good}
use Rattle.utf8_own_characters.specs.declared.counting.Count.{Count}
use Rattle.utf8_own_page.specs.Needing.{IsMadeOf}
use Rattle.utf8_own_page.specs.Signs.{signs_for}
use Rattle.document_reader.specs.Page.{IsShort, breaks_off, man_of, own_of, own_supply, plain_of}
use Rattle.document_reader.specs.declared.page.Stages.{Stages}
use Rattle.document_printing.specs.Document.{Setting, source_of}
use Rattle.tbl_stage.specs.Memory.{limits_of}
use Rattle.document_printing.specs.Showing.{Shows}
use Rattle.tbl_stage.specs.declared.rooms.PageLimits.{PageLimits}
use Rattle.document_printing.specs.declared.setup.Report.{Report}
use Rattle.document_printing.specs.declared.showing.Showing.{Showing}
use Rattle.document_printing.specs.declared.showing.Spelling.{Spelling}
use Rattle.document_printing.specs.declared.showing.Spelling.TheVariants as spellings
use Rattle.document_printing.specs.declared.showing.PageTable.TheVariants.{Fixed, Own}
use Rattle.program_command.specs.Own.{needs_own, ranked_of}
use Rattle.program_command.specs.declared.plan.Plan.{Plan}
use Rattle.program_command.specs.declared.printing.Means.{Means}

-- a page and what each stage makes of it have less than 2^40 bytes
pub record AreShort (stages : Stages) (page : List ℕ) : Type 0 where
  pub man_is : IsShort page (man_of stages.mdoc page)
  pub plain_is : length (plain_of stages Utf8 page) < 1099511627776
  pub own_is : (table : Characters) → length (own_of stages table page) < 1099511627776

-- so have its first bytes, however many they are
abbrev pub AreAllShort : List ℕ → Type 0
AreAllShort page = (stages : Stages) → (first rest : List ℕ) → page ≡ first ++ rest → AreShort stages first

-- what a page is printed with, beside its plan
pub record Given : Type 0 where
  -- what is read before it
  pub macros : List ℕ
  pub options : Options
  -- of tables, and of the formatter
  pub page_limits : PageLimits
  pub limits : Bounds

abbrev pub given_by : Means → Bounds → Given
given_by means limits = record {
  macros = means.macros.now;
  options = means.options.now;
  page_limits = means.limits;
  limits = limits;
}

-- ---- with the fixed table of its plan

abbrev pub spelling_with : Option FixedTable → Bool → Bool → Spelling
spelling_with (Some table) true escapes = spellings.Utf8 (Fixed table) escapes
spelling_with other spells escapes = spellings.Bytes

abbrev pub fixed_spelling : Plan → Spelling
fixed_spelling plan = spelling_with plan.characters plan.spells plan.escapes

abbrev pub fixed_showing : Plan → Means → Showing
fixed_showing plan means = record {
  setup = record {
    macros = means.macros;
    stages = plan.stages;
    tables = plan.tables;
    characters = target_of plan.characters;
    options = means.options;
  };
  spelling = fixed_spelling plan;
}

abbrev pub fixed_setting : Plan → Given → Setting
fixed_setting plan given = record {
  macros = given.macros;
  stages = plan.stages;
  sets = plan.tables;
  characters = target_of plan.characters;
  tables = limits_of given.page_limits plan.cells (signs_of plan.characters);
  limits = given.limits;
  options = given.options;
}

pub record FixedShows (plan : Plan) (given : Given) (q : Supply) (report : Report) (held new : Option (List ℕ)) : Type 0 where
  pub shows : Shows (fixed_setting plan given) (fixed_spelling plan) (source_of (fixed_setting plan given) q)
      report.moves report.outcome held new

-- ---- with a table of its own

-- nothing is turned
abbrev pub no_stages : Stages
no_stages = record { mdoc = false; characters = false }

abbrev pub own_showing : Plan → Bor Characters → Means → Showing
own_showing plan table means = record {
  setup = record {
    macros = means.macros;
    stages = no_stages;
    tables = plan.tables;
    characters = Ascii;
    options = means.options;
  };
  spelling = spellings.Utf8 (Own table) plan.escapes;
}

-- its characters have become the bytes of that table before it is set
abbrev pub own_setting : Plan → Characters → Given → Setting
own_setting plan table given = record {
  macros = given.macros;
  stages = no_stages;
  sets = plan.tables;
  characters = Ascii;
  tables = limits_of given.page_limits plan.cells (signs_for table);
  limits = given.limits;
  options = given.options;
}

-- and they are shown as those characters
pub record OwnShows (plan : Plan) (table : Bor Characters) (given : Given) (q : Supply) (report : Report)
    (held new : Option (List ℕ)) : Type 0 where
  pub shows : Shows (own_setting plan table.now given) (spellings.Utf8 (Own table) plan.escapes)
      (source_of (own_setting plan table.now given) (own_supply plan.stages table.now q)) report.moves
      report.outcome held new

-- The table has the first of these clusters, as many as have room, each a place of its own.
pub record TableShows (plan : Plan) (counts : List Count) (given : Given) (q : Supply) (report : Report)
    (held new : Option (List ℕ)) : Type 0 where
  pub table : Bor Characters
  pub made : IsMadeOf counts table.now
  pub good : Good table.now
  pub shows : OwnShows plan table given q report held new

-- ---- with the one or the other

abbrev pub ShowsBy : Bool → Plan → List ℕ → Given → Supply → Report → Option (List ℕ) → Option (List ℕ) → Type 0
ShowsBy true plan first given q report held new = TableShows plan (ranked_of plan first) given q report held new
ShowsBy false plan first given q report held new = FixedShows plan given q report held new

-- WHAT A READER GETS of a page that begins so
abbrev pub Printed : Plan → List ℕ → Given → Supply → Report → Option (List ℕ) → Option (List ℕ) → Type 0
Printed plan first given q report held new = ShowsBy (needs_own plan first) plan first given q report held new

-- Where pages are printed with what is struck over, and it is known what a page is to give.
abbrev pub Where : Plan → Option Supply → (Supply → Type 0) → Type 0
Where plan supply P =
    plan.checks ≡ false → plan.strikes ≡ true → (q : Supply) → supply ≡ Some q → breaks_off q.faults ≡ false
    → AreAllShort q.bytes → P q
